-- Elements whose bytes are exchanged. Assumes nothing.
use mathlib.Core.Path.{◌≡◌, refl, ap, ◌∙◌, subst, subst⁻¹}
use mathlib.Core.Logic.{⊎_elim}
use mathlib.Core.List.{List}
use Prim.Native.Nat.{ℕ, ◌+◌, ◌<◌}
use native.Mathlib.Nat.{eq-or-lt_of_le, lt_irrefl, not-suc-le-zero}
use native.Mathlib.Omega.{arith}
use lib.ListN.{length, get_or, set, length-set}
use lib.Seq.{get_or-set_same, get_or-set_other}
use Rattle.rules.specs.declared.YuvEndianness.{YuvEndianness}
use Rattle.rules.specs.declared.YuvEndianness.TheVariants.{LittleEndian}
use Rattle.rules.specs.Storage.{exchanged}
use Rattle.byte_exchange.specs.Exchanged.{Exchanged}

pub exchanged_none : (e : YuvEndianness) (y : List ℕ) → Exchanged e 0 y y
exchanged_none e y = record { long = refl; inside = λ k h. absurd (not-suc-le-zero h); after = λ k h. refl }

-- one element more
pub exchanged_more : (e : YuvEndianness) (n : ℕ) (old y : List ℕ) (v : ℕ) → Exchanged e n old y → n < length old → v ≡ exchanged e (get_or y n 0) → Exchanged e (n + 1) old (set y n v)
exchanged_more e n old y v h l q =
    record {
      long = length-set y n v ∙ h.long;
      inside = λ k b. ⊎_elim
          (λ (r : k ≡ n). subst⁻¹ (λ (j : ℕ). get_or (set y n v) j 0 ≡ exchanged e (get_or old j 0)) r
          (get_or-set_same y n v 0 (omega (arith, h.long)) ∙ q ∙ ap (exchanged e) (h.after n (omega arith))))
          (λ (r : k < n). get_or-set_other y n k v 0 (λ z. lt_irrefl k (omega (arith, z))) ∙ h.inside k r)
          (eq-or-lt_of_le (omega arith));
      after = λ k a. get_or-set_other y n k v 0 (λ z. lt_irrefl k (omega (arith, z))) ∙ h.after k (omega arith);
    }

-- little endian leaves them as they are
pub exchanged_little : (n : ℕ) (y : List ℕ) → Exchanged LittleEndian n y y
exchanged_little n y = record { long = refl; inside = λ k h. refl; after = λ k h. refl }

pub exchanged_same : {e : YuvEndianness} {n m : ℕ} {old y : List ℕ} → n ≡ m → Exchanged e n old y → Exchanged e m old y
exchanged_same {e} {old} {y} q h = subst (λ (k : ℕ). Exchanged e k old y) q h

pub exchanged_as : {e d : YuvEndianness} {n : ℕ} {old y : List ℕ} → e ≡ d → Exchanged d n old y → Exchanged e n old y
exchanged_as {n} {old} {y} q h = subst⁻¹ (λ (z : YuvEndianness). Exchanged z n old y) q h
