-- A sum over stored words, divided by 2^19, is the channel that the rule gives for the codes. Assumes nothing.
use mathlib.Core.Path.{◌≡◌, refl, sym, ap, ◌∙◌, subst, subst⁻¹}
use Prim.Native.Nat.{ℕ, suc, ◌+◌, ◌-◌, ◌*◌, ◌/◌, ◌%◌, ◌^◌, ◌≤◌, ◌<◌, zero}
use native.Mathlib.Nat.{mul_assoc, mul-le-mul, mul-div-mul_right, div-eq_of_lt-le, div-add-mod', mod-lt, le_refl}
use native.Mathlib.Omega.{arith}
use lib.Pow.{pow-add, pow_pos, shl-shr}
use lib.IntN.{ℤ, pos, negsuc, neg_ℤ, ◌+ℤ◌, ◌-ℤ◌, ◌*ℤ◌, *ℤ-negsuc}
use lib.Signed.{shr_z}
use Rattle.rules.specs.declared.Settings.{Settings}
use Rattle.rules.specs.declared.InverseWeights.{InverseWeights}
use Rattle.rules.specs.declared.YuvBytesPacking.{YuvBytesPacking}
use Rattle.rules.specs.declared.YuvBytesPacking.TheVariants.{MostSignificantBytes, LeastSignificantBytes}
use Rattle.rules.specs.Ranges.{y_bias, uv_bias}
use Rattle.rules.specs.ToRgb.{term, held, channel_code}
use Rattle.rule_laws.specs.Usable.{Reach}
use Rattle.integer_laws.proofs.Differences.{pp, np, Is, is_self, is_pos, is_neg, is_add, is_minus, is_times, is_as, is_shift, is_same, is_less}
use Rattle.storage.specs.PackingFactor.{packing_factor}
use Rattle.restoring_weights.specs.declared.ChromaSide.{ChromaSide}
use Rattle.restoring_weights.specs.RestoringWeights.{factor_of, scale_of, luma_weight, outer_of, start_of_green}
use Rattle.restoring_weights.proofs.Sizes.{power_parts}

-- ---- the scale times the packing factor

-- the packing factor divides 64
divides : (k : YuvBytesPacking) (d : ℕ) → 10 ≤ d → d ≤ 16 → 64 / packing_factor k d * packing_factor k d ≡ 64
divides MostSignificantBytes d l h =
    let e : d - 10 + (16 - d) ≡ 6 = omega arith in
    let q : 2 ^ (d - 10) * 2 ^ (16 - d) ≡ 64 = sym (pow-add 2 (d - 10) (16 - d)) ∙ ap (λ (n : ℕ). 2 ^ n) e in
    ap (λ (n : ℕ). n / 2 ^ (16 - d) * 2 ^ (16 - d)) (sym q) ∙ ap (λ (n : ℕ). n * 2 ^ (16 - d)) (shl-shr (2 ^ (d - 10)) (16 - d)) ∙ q
divides LeastSignificantBytes d l h = refl

-- a scaled weight times a stored word is 2^(19 − P) times the weight times the code
pub unit : (s : Settings) → Reach s → scale_of s * factor_of s ≡ 2 ^ (19 - s.precision)
unit s r =
    let P = s.precision in
    let e : 13 - P + 6 ≡ 19 - P = omega (arith, r.fine) in
    mul_assoc (2 ^ (13 - P)) (64 / factor_of s) (factor_of s)
    ∙ ap (λ (n : ℕ). 2 ^ (13 - P) * n) (divides s.packing s.depth r.shallow r.deep)
    ∙ sym (pow-add 2 (13 - P) 6)
    ∙ ap (λ (n : ℕ). 2 ^ n) e

whole : (P : ℕ) → P ≤ 13 → 2 ^ P * 2 ^ (19 - P) ≡ 524288
whole P h = omega (arith, power_parts 19 P (omega arith))

-- and 2^P of these are 2^19
pub units : (s : Settings) → Reach s → 2 ^ s.precision * (scale_of s * factor_of s) ≡ 524288
units s r = ap (λ (n : ℕ). 2 ^ s.precision * n) (unit s r) ∙ whole s.precision r.fine

-- ---- division, rounded down

negative : (m : ℕ) → 0 < m → neg_ℤ (pos m) ≡ negsuc (m - 1)
negative zero h = elim h [ ]
negative (suc m) h = ap negsuc (omega arith)

-- (a + 1) q − 1, divided
below : (a n q : ℕ) → 0 < n → 0 < q → (suc a * q - 1) / (n * q) ≡ a / n
below a n q hn hq =
    let l : a / n * n * q ≤ a * q = mul-le-mul (low (a / n * n) (a % n) a (div-add-mod' a n)) (le_refl q) in
    let u : suc a * q ≤ (a / n + 1) * n * q = mul-le-mul (high (a / n) n (a % n) a (div-add-mod' a n) (mod-lt a hn)) (le_refl q) in
    div-eq_of_lt-le (n * q) (omega arith) (omega arith)
  where
    low : (p m b : ℕ) → p + m ≡ b → p ≤ b
    low p m b e = omega arith

    high : (p n m b : ℕ) → p * n + m ≡ b → m < n → suc b ≤ (p + 1) * n
    high p n m b e h = omega arith

-- a factor of both numbers changes nothing
pub shr_scaled : (z : ℤ) (n q : ℕ) → 0 < n → 0 < q → shr_z (z *ℤ pos q) (n * q) ≡ shr_z z n
shr_scaled (pos a) n q hn hq = ap pos (mul-div-mul_right a n hq)
shr_scaled (negsuc a) n q hn hq =
    let some : 1 * 1 ≤ suc a * q = mul-le-mul (least a) hq in
    ap (λ (z : ℤ). shr_z z (n * q)) (negative (suc a * q) some) ∙ ap negsuc (below a n q hn hq)
  where
    least : (a : ℕ) → 1 ≤ suc a
    least a = omega arith

-- ---- the sums

-- a code less its bias, times a weight of either sign
is_term : (bias code : ℕ) (z : ℤ) → Is (term bias code z) (code * pp z + bias * np z) (bias * pp z + code * np z)
is_term bias code (pos n) = is_shift (is_times (is_less code bias) n) (omega arith)
is_term bias code (negsuc n) =
    subst⁻¹ (λ (z : ℤ). Is z (code * 0 + bias * suc n) (bias * 0 + code * suc n)) (*ℤ-negsuc (pos code -ℤ pos bias) n)
    (is_shift (is_neg (is_times (is_less code bias) (suc n))) (omega arith))

-- a weight, scaled, times a stored word
weighed : (z : ℤ) (k f n : ℕ) {Q : ℕ} → k * f ≡ Q → Is (z *ℤ pos k *ℤ pos (n * f)) (n * pp z * Q) (n * np z * Q)
weighed z k f n e =
    subst (λ (Q : ℕ). Is (z *ℤ pos k *ℤ pos (n * f)) (n * pp z * Q) (n * np z * Q)) e
    (is_shift (is_times (is_times (is_self z) k) (n * f)) (omega arith))

-- k is the scale, f the packing factor and Q their product; h is the rounding; a, o, p and q are weights
module _ (k f h y bY bUV : ℕ) {Q : ℕ} (e : k * f ≡ Q) (a : ℤ) where
  abbrev luma : ℤ
  luma = a *ℤ pos k *ℤ pos (y * f)

  abbrev start : ℤ
  start = pos (h * Q) -ℤ a *ℤ pos k *ℤ pos (bY * f)

  outer_plain : (c : ℕ) (o : ℤ)
      → luma +ℤ (start -ℤ o *ℤ pos k *ℤ pos (bUV * f) +ℤ o *ℤ pos k *ℤ pos (c * f)) ≡ (term bY y a +ℤ term bUV c o +ℤ pos h) *ℤ pos Q
  outer_plain c o =
      is_same
      (is_add (weighed a k f y e) (is_add (is_minus (is_minus (is_pos (h * Q)) (weighed a k f bY e)) (weighed o k f bUV e)) (weighed o k f c e)))
      (is_shift (is_times (is_add (is_add (is_term bY y a) (is_term bUV c o)) (is_pos h)) Q) (omega arith))

  green_plain : (u v : ℕ) (p q : ℤ)
      → luma +ℤ (start +ℤ p *ℤ pos k *ℤ pos (bUV * f) +ℤ q *ℤ pos k *ℤ pos (bUV * f) -ℤ p *ℤ pos k *ℤ pos (u * f) -ℤ q *ℤ pos k *ℤ pos (v * f)) ≡ (term bY y a -ℤ term bUV u p -ℤ term bUV v q +ℤ pos h) *ℤ pos Q
  green_plain u v p q =
      is_same
      (is_add (weighed a k f y e)
      (is_minus (is_minus (is_add (is_add (is_minus (is_pos (h * Q)) (weighed a k f bY e)) (weighed p k f bUV e)) (weighed q k f bUV e)) (weighed p k f u e)) (weighed q k f v e)))
      (is_as (is_times (is_add (is_minus (is_minus (is_term bY y a) (is_term bUV u p)) (is_term bUV v q)) (is_pos h)) Q) (omega arith) (omega arith))

-- ---- the same by settings and weights: y, c, u and v are codes, and a stored word is its code times the packing factor
module _ (s : Settings) (reach : Reach s) (w : InverseWeights) where
  -- the sum of a pixel's first or third element, by words, is that of the rule, by codes, with its rounding and scaled
  pub outer_sum : (side : ChromaSide) (y c : ℕ)
      → luma_weight s w *ℤ pos (y * factor_of s) +ℤ ((outer_of s w side).start +ℤ (outer_of s w side).own *ℤ pos (c * factor_of s))
      ≡ (term (y_bias s.range s.depth) y w.y_coef +ℤ term (uv_bias s.depth) c side.own +ℤ pos (2 ^ (s.precision - 1) - 1)) *ℤ pos (2 ^ (19 - s.precision))
  outer_sum side y c =
      outer_plain (scale_of s) (factor_of s) (2 ^ (s.precision - 1) - 1) y (y_bias s.range s.depth) (uv_bias s.depth) (unit s reach) w.y_coef c side.own

  -- green's: both chroma terms are taken away
  pub green_sum_lem : (one two : ChromaSide) (y u v : ℕ)
      → luma_weight s w *ℤ pos (y * factor_of s) +ℤ (start_of_green s w (outer_of s w one) (outer_of s w two) -ℤ (outer_of s w one).green *ℤ pos (u * factor_of s) -ℤ (outer_of s w two).green *ℤ pos (v * factor_of s))
      ≡ (term (y_bias s.range s.depth) y w.y_coef -ℤ term (uv_bias s.depth) u one.green -ℤ term (uv_bias s.depth) v two.green +ℤ pos (2 ^ (s.precision - 1) - 1)) *ℤ pos (2 ^ (19 - s.precision))
  green_sum_lem one two y u v =
      green_plain (scale_of s) (factor_of s) (2 ^ (s.precision - 1) - 1) y (y_bias s.range s.depth) (uv_bias s.depth) (unit s reach) w.y_coef u v one.green two.green

  -- a sum of the rule, its rounding added and then scaled, divided
  divided : (m : ℕ) {z : ℤ} (sum : ℤ) → z ≡ (sum +ℤ pos (2 ^ (s.precision - 1) - 1)) *ℤ pos (2 ^ (19 - s.precision)) → held m (shr_z z 524288) ≡ channel_code s.precision m sum
  unfolding channel_code
  divided m {z} sum e =
      let P = s.precision in
      let x = sum +ℤ pos (2 ^ (P - 1) - 1) in
      ap (λ (z : ℤ). held m (shr_z z 524288)) e
      ∙ ap (λ (n : ℕ). held m (shr_z (x *ℤ pos (2 ^ (19 - P))) n)) (sym (whole P reach.fine))
      ∙ ap (held m) (shr_scaled x (2 ^ P) (2 ^ (19 - P)) (pow_pos P) (pow_pos (19 - P)))

  -- divided by 2^19 and held, the sums are the channels of the rule
  pub outer_channel : (side : ChromaSide) (m y c : ℕ)
      → held m (shr_z (luma_weight s w *ℤ pos (y * factor_of s) +ℤ ((outer_of s w side).start +ℤ (outer_of s w side).own *ℤ pos (c * factor_of s))) 524288)
      ≡ channel_code s.precision m (term (y_bias s.range s.depth) y w.y_coef +ℤ term (uv_bias s.depth) c side.own)
  outer_channel side m y c = divided m (term (y_bias s.range s.depth) y w.y_coef +ℤ term (uv_bias s.depth) c side.own) (outer_sum side y c)

  pub green_channel : (one two : ChromaSide) (m y u v : ℕ)
      → held m (shr_z (luma_weight s w *ℤ pos (y * factor_of s) +ℤ (start_of_green s w (outer_of s w one) (outer_of s w two) -ℤ (outer_of s w one).green *ℤ pos (u * factor_of s) -ℤ (outer_of s w two).green *ℤ pos (v * factor_of s))) 524288)
      ≡ channel_code s.precision m (term (y_bias s.range s.depth) y w.y_coef -ℤ term (uv_bias s.depth) u one.green -ℤ term (uv_bias s.depth) v two.green)
  green_channel one two m y u v =
      divided m (term (y_bias s.range s.depth) y w.y_coef -ℤ term (uv_bias s.depth) u one.green -ℤ term (uv_bias s.depth) v two.green) (green_sum_lem one two y u v)
