-- A well-formed word that passes by its gauge is right by the rules. Assumes nothing.
use mathlib.Core.Path.{◌≡◌, refl, sym, ap, ◌∙◌}
use mathlib.Core.Bool.{Bool, true}
use mathlib.Core.List.{[], ◌∷◌}
use Prim.Native.Nat.{ℕ, ◌+◌, ◌*◌}
use native.Mathlib.Omega.{arith}
use lib.Dec.{leb}
use Rattle.rules.specs.declared.Settings.{Settings}
use Rattle.rules.specs.declared.Named.{Named}
use Rattle.rules.specs.declared.Pixel.{Pixel}
use Rattle.rules.specs.Matrices.{kg}
use Rattle.rules.specs.Storage.{exchanged, stored}
use Rattle.blocks.specs.Tiles.{tiles}
use Rattle.formed_rows.specs.Formed.{is_formed}
use Rattle.fractions.specs.declared.Exact.{Exact}
use Rattle.fractions.specs.declared.Sums.{Sums}
use Rattle.tolerance_bounds.specs.Bound.{apart}
use Rattle.fractions.specs.Sums.{sums_of, blend, own_sum}
use Rattle.fractions.proofs.Values.{parts_times, part_alone}
use Rattle.check_limits.specs.declared.Limit.{Limit}
use Rattle.check_limits.specs.declared.SettingsLimits.{SettingsLimits}
use Rattle.check_limits.specs.Limits.{LimitsOf, own_limit}
use Rattle.sample_check.specs.Samples.{near_by, pixel_right, block_right}
use Rattle.sample_check.proofs.Samples.{formed, luma_judged, chroma_judged}
use Rattle.gauges.specs.Gauges.{factor_of, shares_of, gauge_of, shared, word_near, luma_near, chroma_near}
use Rattle.gauges.proofs.Scaled.{word_scaled, near_scaled}

-- ---- the two parts of a numerator, scaled by the factor
sum_scaled : (a b c range factor x y z : ℕ) → a * range * factor * x + b * range * factor * y + c * range * factor * z ≡ (a * x + b * y + c * z) * range * factor
sum_scaled a b c range factor x y z = omega arith

own_scaled : (range factor x : ℕ) → 10000 * range * factor * x ≡ 10000 * x * range * factor
own_scaled range factor x = omega arith

shared_scaled : (k : Named) (range factor : ℕ) (z : Sums) → shared (shares_of k range factor) z ≡ blend k z * range * factor
shared_scaled k range factor z = sum_scaled k.kr (kg k) k.kb range factor z.red z.green z.blue

-- ---- a word by its gauge
module _ (s : Settings) (v : ℕ) (w : is_formed s v ≡ true) where
  gauged : (bias : ℕ) (l : Limit) (plus minus : ℕ) {plus' minus' : ℕ} → plus' ≡ plus * factor_of s → minus' ≡ minus * factor_of s →
      word_near (gauge_of bias l (factor_of s)) plus' minus' (exchanged s.endianness v) ≡ true → near_by s l.bound (record { bias = bias; plus = plus; minus = minus; under = l.under }) v ≡ true
  gauged bias l plus minus {plus'} {minus'} ep em h =
      let factor = factor_of s in
      let c = stored s.packing s.endianness s.depth v in
      let high : exchanged s.endianness v * l.under ≡ c * factor * l.under = ap (λ (n : ℕ). n * l.under) (word_scaled s v w) in
      let left : exchanged s.endianness v * l.under + minus' ≡ (c * l.under + minus) * factor = omega (arith, high, em) in
      let right : bias * l.under * factor + plus' ≡ (bias * l.under + plus) * factor = omega (arith, ep) in
      near_scaled s (c * l.under + minus) (bias * l.under + plus) l.bound (sym (λ i. leb (apart (left i) (right i)) (l.bound * factor)) ∙ h)

  module _ (k : Named) (limits : SettingsLimits) (h : LimitsOf s k limits) where
    pub luma_true : (p : Pixel) → luma_near (gauge_of limits.ranges.bias_y limits.luma (factor_of s)) (shares_of k limits.ranges.range_y (factor_of s)) (sums_of (p ∷ [])) (exchanged s.endianness v) ≡ true →
        pixel_right s k p v ≡ true
    luma_true p e =
        let range = limits.ranges.range_y in
        let bias = limits.ranges.bias_y in
        let z = sums_of (p ∷ []) in
        let x : Exact = record { bias = bias; plus = blend k z * range; minus = 0; under = limits.luma.under } in
        let none : 0 ≡ 0 * factor_of s = omega arith in
        let over = part_alone {plus = blend k z * range} {a = blend k z * range} refl in
        sym (formed s limits.luma.bound x v w ∙ luma_judged s k limits h v p x (λ i. record { bias = bias; over = over i; under = limits.luma.under }))
        ∙ gauged bias limits.luma (blend k z * range) 0 (shared_scaled k range (factor_of s) z) none e

    pub chroma_true : (u a b : Bool) (t l : ℕ → Pixel) (x : ℕ) → let z = sums_of (tiles a b t l x) in
        chroma_near (gauge_of limits.ranges.bias_uv (own_limit limits u a b) (factor_of s)) (shares_of k limits.ranges.range_uv (factor_of s)) (own_sum u z) z (exchanged s.endianness v) ≡ true →
        block_right s k u (tiles a b t l x) v ≡ true
    chroma_true u a b t l x e =
        let range = limits.ranges.range_uv in
        let bias = limits.ranges.bias_uv in
        let z = sums_of (tiles a b t l x) in
        let q = own_limit limits u a b in
        let plus = 10000 * own_sum u z * range in
        let y : Exact = record { bias = bias; plus = plus; minus = blend k z * range; under = q.under } in
        let over = parts_times {plus = plus} {minus = blend k z * range} (10000 * own_sum u z) (blend k z) range refl refl in
        sym (formed s q.bound y v w ∙ chroma_judged s k limits h v u a b t l x {q = q} {z = z} y refl refl (λ i. record { bias = bias; over = over i; under = q.under }))
        ∙ gauged bias q plus (blend k z * range) (own_scaled range (factor_of s) (own_sum u z)) (shared_scaled k range (factor_of s) z) e
