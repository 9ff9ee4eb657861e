-- The mean of a block by its channels' sums, which a loop adds up. Assumes nothing.
use mathlib.Core.Path.{◌≡◌, refl, ap, ◌∙◌, sym}
use mathlib.Core.List.{List, [], ◌∷◌}
use Prim.Native.Nat.{ℕ, ◌+◌, ◌*◌, ◌≤◌, ◌<◌}
use native.Mathlib.Omega.{arith}
use lib.ListN.{length, take, get_or}
use Rattle.std.specs.Prelude.{map}
use Rattle.std.specs.List.{sum_by}
use Rattle.std.proofs.lemmas.List.{take_all}
use Rattle.std.proofs.lemmas.List.Sums.{sum_by-cons, sum_by_more}
use Rattle.rules.specs.declared.Pixel.{Pixel}
use Rattle.rules.specs.Blocks.{total, mean, averaged}
use Rattle.tolerance_laws.proofs.Means.{pixel_eq}

-- n is a channel's sum over the first i pixels of a block
pub record Summed (f : Pixel → ℕ) (b : List Pixel) (i n : ℕ) : Type 0 where
  pub is : n ≡ sum_by f (take i b)
  pub short : n ≤ i * 65535

pub summed_none : (f : Pixel → ℕ) (b : List Pixel) → Summed f b 0 0
summed_none f b = record { is = refl; short = omega arith }

-- one pixel more
pub summed_more : {f : Pixel → ℕ} {b : List Pixel} {i n v : ℕ} (d : Pixel) → Summed f b i n → i < length b → v ≡ f (get_or b i d) → v ≤ 65535 → Summed f b (i + 1) (n + v)
summed_more {f} {b} {i} d h l e s =
    record {
      is = omega (arith, sum_by_more f b i d l, h.is, e);
      short = omega (arith, h.short, s);
    }

total_is : (f : Pixel → ℕ) (b : List Pixel) → total (map f b) ≡ sum_by f b
unfolding total
total_is f [] = refl
total_is f (p ∷ b) = ap (λ (n : ℕ). f p + n) (total_is f b) ∙ sym (sum_by-cons f p b)

-- the means of the three sums over all n pixels
pub averaged_is : (b : List Pixel) (n : ℕ) {i r g l red green blue : ℕ} → n ≡ length b → n ≤ i
    → Summed (λ p. p.red) b i r × Summed (λ p. p.green) b i g × Summed (λ p. p.blue) b i l
    → red ≡ mean n r → green ≡ mean n g → blue ≡ mean n l
    → ◌≡◌ {A = Pixel} (record { red = red; green = green; blue = blue }) (averaged b)
unfolding averaged
averaged_is b n {i} e last h hr hg hb = pixel_eq (by h.0 hr) (by h.1 hg) (by h.2 hb)
  where
    by : {f : Pixel → ℕ} {v s : ℕ} → Summed f b i s → v ≡ mean n s → v ≡ mean (length b) (total (map f b))
    by {f} k m =
        let whole : take i b ≡ b = take_all i b (omega (arith, e, last)) in
        m ∙ ap (mean n) (k.is ∙ ap (sum_by f) whole ∙ sym (total_is f b)) ∙ ap (λ (j : ℕ). mean j (total (map f b))) e
