-- The tests by limits are the tests of the rules. Assumes nothing.
use mathlib.Core.Path.{◌≡◌, refl, sym, ap, ◌∙◌}
use mathlib.Core.Bool.{Bool, true, false, ◌&&◌}
use mathlib.Core.List.{List, [], ◌∷◌}
use Prim.Native.Nat.{ℕ, ◌-◌, ◌*◌}
use lib.ListN.{length}
use Rattle.rules.specs.declared.Settings.{Settings}
use Rattle.rules.specs.declared.Named.{Named}
use Rattle.rules.specs.declared.Pixel.{Pixel}
use Rattle.rules.specs.Ranges.{most, uv_bias, uv_range}
use Rattle.rules.specs.Storage.{stored}
use Rattle.rules.specs.Fractions.{Fraction, exact_luma, halves, within}
use Rattle.tolerance_laws.specs.Chroma.{own_k, exact_chroma}
use Rattle.tolerance_laws.proofs.Samples.{chroma_exact_is}
use Rattle.blocks.specs.Tiles.{tiles}
use Rattle.formed_rows.specs.Formed.{is_formed}
use Rattle.fractions.specs.declared.Exact.{Exact}
use Rattle.fractions.specs.declared.Sums.{Sums}
use Rattle.fractions.specs.Exact.{fraction_of}
use Rattle.tolerance_bounds.specs.Bound.{bound_of}
use Rattle.fractions.specs.Sums.{sums_of, luma_by, own_sum, chroma_by}
use Rattle.tolerance_bounds.proofs.Passes.{judged}
use Rattle.fractions.proofs.Values.{luma_of, chroma_of}
use Rattle.check_limits.specs.declared.Limit.{Limit}
use Rattle.check_limits.specs.declared.SettingsLimits.{SettingsLimits}
use Rattle.check_limits.specs.Limits.{LimitsOf, own_limit}
use Rattle.check_limits.proofs.Limits.{own_sized}
use Rattle.sample_check.specs.Samples.{near_by, right_by, pixel_right, block_right}

-- a word is well formed, and its code within so many halves and the weights' share of a fraction
abbrev within_of : Settings → ℕ → Fraction → ℕ → Bool
within_of s h f v = is_formed s v && within s.precision (most s.depth) h f (stored s.packing s.endianness s.depth v)

-- by the fraction that an exact value stands for
by_fraction : (s : Settings) (h v : ℕ) {bound : ℕ} (x : Exact) {g f : Fraction} → fraction_of x ≡ g → g ≡ f →
    bound ≡ bound_of s.precision (most s.depth) h f.under → right_by s bound x v ≡ within_of s h f v
by_fraction s h v x e q o =
    ap (λ (b : Bool). is_formed s v && b)
    (judged s.precision (most s.depth) h (stored s.packing s.endianness s.depth v) x e q o)

-- the divisor of Cb or Cr
pub chroma_under : (u : Bool) (k : Named) (m bias range : ℕ) (b : List Pixel) → 2 * (10000 - own_k u k) * length b * m ≡ (exact_chroma u k m bias range b).under
chroma_under true k m bias range b = refl
chroma_under false k m bias range b = refl

-- the test of a well-formed word is that of its code
module _ (s : Settings) (bound : ℕ) (x : Exact) (v : ℕ) where
  pub formed : is_formed s v ≡ true → near_by s bound x v ≡ right_by s bound x v
  formed e = sym (ap (λ (b : Bool). b && near_by s bound x v) e)

module _ (s : Settings) (k : Named) (limits : SettingsLimits) (h : LimitsOf s k limits) (v : ℕ) where
  pub luma_judged : (p : Pixel) (x : Exact) → fraction_of x ≡ luma_by k limits.ranges.bias_y limits.ranges.range_y limits.luma.under (sums_of (p ∷ [])) →
      right_by s limits.luma.bound x v ≡ pixel_right s k p v
  luma_judged p x e =
      let m = most s.depth in
      by_fraction s 1 v x e
      (luma_of k m limits.ranges.bias_y limits.ranges.range_y (p ∷ []) h.luma.divisor
      ∙ (λ i. exact_luma k m (h.ranges i).bias_y (h.ranges i).range_y (p ∷ [])))
      h.luma.bound

  pub chroma_judged : (u a b : Bool) (t l : ℕ → Pixel) (x : ℕ) {q : Limit} {z : Sums} (e : Exact) →
      q ≡ own_limit limits u a b → z ≡ sums_of (tiles a b t l x) →
      fraction_of e ≡ chroma_by k limits.ranges.bias_uv limits.ranges.range_uv q.under (own_sum u z) z →
      right_by s q.bound e v ≡ block_right s k u (tiles a b t l x) v
  unfolding block_right
  chroma_judged u a b t l x {q} y f g e =
      let m = most s.depth in
      let n = own_sized h u a b t l x in
      let w = tiles a b t l x in
      by_fraction s (halves w) v y e
      (chroma_of u k m limits.ranges.bias_uv limits.ranges.range_uv w g (ap (λ (o : Limit). o.under) f ∙ n.divisor)
      ∙ (λ i. exact_chroma u k m (h.ranges i).bias_uv (h.ranges i).range_uv w))
      (ap (λ (o : Limit). o.bound) f ∙ n.bound ∙ ap (bound_of s.precision m (halves w)) (chroma_under u k m (uv_bias s.depth) (uv_range s.range s.depth) w))
      ∙ ap (λ (f : Fraction). within_of s (halves w) f v) (sym (chroma_exact_is s k u w))
