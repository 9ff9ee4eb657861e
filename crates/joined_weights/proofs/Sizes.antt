-- Scaled weights and starts are small: they fit 32 bits, and joined they fit 64. Assumes nothing.
use mathlib.Core.Path.{◌≡◌, sym, ap, ◌∙◌}
use mathlib.Core.Bool.{Bool, true, false}
use Prim.Native.Nat.{ℕ, ◌+◌, ◌-◌, ◌*◌, ◌^◌, ◌≤◌}
use native.Mathlib.Nat.{mul_assoc, mul-le-mul}
use native.Mathlib.Omega.{arith}
use lib.Pow.{pow-add, pow_pos, pow_mono}
use lib.IntN.{ℤ, pos, nat_abs, ◌*ℤ◌}
use Rattle.rules.specs.declared.Settings.{Settings}
use Rattle.rules.specs.declared.Weights.{Weights}
use Rattle.rules.specs.declared.Triple.{Triple}
use Rattle.rules.specs.declared.YuvRange.{YuvRange}
use Rattle.rules.specs.declared.YuvRange.TheVariants.{Limited, Full}
use Rattle.rules.specs.declared.YuvSourceChannels.{YuvSourceChannels}
use Rattle.rules.specs.declared.YuvSourceChannels.TheVariants.{Rgb, Rgba, Bgra, Bgr}
use Rattle.rules.specs.Ranges.{y_bias, uv_bias}
use Rattle.rules.specs.Weights.{luma_row}
use Rattle.rule_laws.specs.Usable.{Reach, Usable}
use Rattle.tolerance_laws.specs.Chroma.{chroma_row}
use Rattle.integer_laws.proofs.Differences.{abs_mul}
use Rattle.storage.specs.PackingFactor.{packing_factor}
use Rattle.storage.proofs.PackingFactor.{factor_some, factor_few, factor_room}
use Rattle.joined_weights.specs.JoinedWeights.{scale_of, in_source_order, scaled_start, scaled_weights, NoWeightAbove, Scalable}

-- ---- the scale

-- 2^P times the scale is 2^13 times the packing factor
pub scale_times : (s : Settings) → s.precision ≤ 13 → 2 ^ s.precision * scale_of s ≡ 8192 * packing_factor s.packing s.depth
scale_times s h =
    let t = packing_factor s.packing s.depth in
    let e : s.precision + (13 - s.precision) ≡ 13 = omega arith in
    sym (mul_assoc (2 ^ s.precision) (2 ^ (13 - s.precision)) t) ∙ ap (λ (n : ℕ). n * t) (sym (pow-add 2 s.precision (13 - s.precision)) ∙ ap (λ (n : ℕ). 2 ^ n) e)

pub scale_some : (s : Settings) → 1 ≤ scale_of s
scale_some s =
    let x : 1 * 1 ≤ scale_of s = mul-le-mul (pow_pos (13 - s.precision)) (factor_some s.packing s.depth) in x

pub scale_few : (s : Settings) → Reach s → scale_of s ≤ 262144
scale_few s r =
    let x : scale_of s ≤ 4096 * 64 = mul-le-mul (pow_mono {i = 13 - s.precision} {j = 12} (omega (arith, r.coarse))) (factor_few s.packing s.depth r.shallow) in x

-- ---- the biases

pub bias_y_lem : (d : ℕ) (g : YuvRange) → 10 ≤ d → y_bias g d + 1 ≤ 2 ^ d
bias_y_lem d Limited h =
    let e : 8 + (d - 8) ≡ d = omega arith in
    let q : 2 ^ d ≡ 256 * 2 ^ (d - 8) = sym (ap (λ (n : ℕ). 2 ^ n) e) ∙ pow-add 2 8 (d - 8) in
    omega (arith, q, pow_pos (d - 8))
bias_y_lem d Full h = pow_pos d

pub bias_uv_lem : (d : ℕ) → 10 ≤ d → uv_bias d + 1 ≤ 2 ^ d
bias_uv_lem d h =
    let e : 1 + (d - 1) ≡ d = omega arith in
    let q : 2 ^ d ≡ 2 * 2 ^ (d - 1) = sym (ap (λ (n : ℕ). 2 ^ n) e) ∙ pow-add 2 1 (d - 1) in
    omega (arith, q, pow_pos (d - 1))

-- ---- weights in use are at most 2^P
module _ {s : Settings} {w : Weights} (u : Usable s w) where
  pub luma_within : NoWeightAbove (2 ^ s.precision) (luma_row w)
  luma_within = record { red = u.weights.yr.size; green = u.weights.yg.size; blue = u.weights.yb.size }

  pub chroma_within : (b : Bool) → NoWeightAbove (2 ^ s.precision) (chroma_row b w)
  chroma_within true = record { red = u.weights.cbr.size; green = u.weights.cbg.size; blue = u.weights.cbb.size }
  chroma_within false = record { red = u.weights.crr.size; green = u.weights.crg.size; blue = u.weights.crb.size }

-- ---- weights and starts, scaled

pub in_source_order_within : (c : YuvSourceChannels) {b : ℕ} {w : Triple} → NoWeightAbove b w → NoWeightAbove b (in_source_order c w)
in_source_order_within Rgb h = h
in_source_order_within Rgba h = h
in_source_order_within Bgra h = record { red = h.blue; green = h.green; blue = h.red }
in_source_order_within Bgr h = record { red = h.blue; green = h.green; blue = h.red }

module _ (s : Settings) (r : Reach s) where
  pub scaled_small : (z : ℤ) → nat_abs z ≤ 2 ^ s.precision → nat_abs z * scale_of s ≤ 8192 * packing_factor s.packing s.depth
  scaled_small z l = omega (arith, scale_times s r.fine, mul-le-mul l (same (scale_of s)))
    where
      same : (n : ℕ) → n ≤ n
      same n = omega arith

  pub scaled_under : (z : ℤ) → nat_abs z ≤ 2 ^ s.precision → nat_abs z * scale_of s ≤ 524288
  scaled_under z l = omega (arith, scaled_small z l, factor_few s.packing s.depth r.shallow)

  -- weights in source order can be multiplied by the scale
  pub scalable : (w : Triple) → NoWeightAbove (2 ^ s.precision) w → {scale : ℕ} {v : Triple} → scale ≡ scale_of s → v ≡ in_source_order s.channels w
      → Scalable scale v
  scalable w h e f =
      let o = in_source_order_within s.channels h in
      rw f (rw e (scale_few s r, scaled_under (in_source_order s.channels w).red o.red, scaled_under (in_source_order s.channels w).green o.green, scaled_under (in_source_order s.channels w).blue o.blue))

  scaled_abs : (z : ℤ) → nat_abs z ≤ 2 ^ s.precision → nat_abs (z *ℤ pos (scale_of s)) ≤ 8192 * packing_factor s.packing s.depth
  scaled_abs z l = omega (arith, abs_mul z (scale_of s), scaled_small z l)

  pub scaled_within : (w : Triple) → NoWeightAbove (2 ^ s.precision) w → NoWeightAbove (8192 * packing_factor s.packing s.depth) (scaled_weights s w)
  scaled_within w h =
      let c = s.channels in
      let o = in_source_order_within c h in
      record { red = scaled_abs (in_source_order c w).red o.red; green = scaled_abs (in_source_order c w).green o.green; blue = scaled_abs (in_source_order c w).blue o.blue }

  pub scaled_modest : (w : Triple) → NoWeightAbove (2 ^ s.precision) w → NoWeightAbove 1073741823 (scaled_weights s w)
  scaled_modest w h =
      let x = scaled_within w h in
      let t = factor_few s.packing s.depth r.shallow in
      record { red = omega (arith, x.red, t); green = omega (arith, x.green, t); blue = omega (arith, x.blue, t) }

  pub start_small : (bias : ℕ) → bias + 1 ≤ 2 ^ s.depth → scaled_start s bias ≤ 536870911
  start_small bias b =
      let q = 2 ^ s.precision in
      let start : ℕ = bias * q + (2 ^ (s.precision - 1) - 1) in
      let k : start + 1 ≤ (bias + 1) * q = omega (arith, pow_mono {i = s.precision - 1} {j = s.precision} (omega arith), pow_pos (s.precision - 1)) in
      let t : (start + 1) * scale_of s ≤ (bias + 1) * q * scale_of s = mul-le-mul k (same (scale_of s)) in
      let e : (bias + 1) * q * scale_of s ≡ (bias + 1) * (8192 * packing_factor s.packing s.depth) = mul_assoc (bias + 1) q (scale_of s) ∙ ap (λ (n : ℕ). (bias + 1) * n) (scale_times s r.fine) in
      let l : (bias + 1) * packing_factor s.packing s.depth ≤ 2 ^ s.depth * packing_factor s.packing s.depth = mul-le-mul b (same (packing_factor s.packing s.depth)) in
      by start (scale_of s) ((bias + 1) * q * scale_of s) t (omega (arith, e, l, factor_room s.packing s.depth r.deep)) (scale_some s)
    where
      same : (n : ℕ) → n ≤ n
      same n = omega arith

      by : (a s t : ℕ) → (a + 1) * s ≤ t → t ≤ 536870912 → 1 ≤ s → a * s ≤ 536870911
      by a s t h e l = omega arith
