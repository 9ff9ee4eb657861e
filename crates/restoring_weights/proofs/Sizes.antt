-- How large the scale, the rounding, the biases as stored words and the scaled weights are. Assumes nothing.
use mathlib.Core.Path.{◌≡◌, sym, ap, ◌∙◌}
use Prim.Native.Nat.{ℕ, ◌+◌, ◌-◌, ◌*◌, ◌/◌, ◌^◌, ◌≤◌, ◌<◌}
use native.Mathlib.Nat.{mul-le-mul, div-le_self, le_refl}
use native.Mathlib.Omega.{arith}
use lib.Pow.{pow-add, pow_mono}
use lib.IntN.{ℤ, nat_abs}
use Rattle.rules.specs.declared.Settings.{Settings}
use Rattle.rules.specs.declared.InverseWeights.{InverseWeights}
use Rattle.rules.specs.declared.YuvNVOrder.{YuvNVOrder}
use Rattle.rules.specs.declared.YuvNVOrder.TheVariants.{UV, VU}
use Rattle.rules.specs.declared.YuvRange.{YuvRange}
use Rattle.rules.specs.declared.YuvRange.TheVariants.{Limited, Full}
use Rattle.rules.specs.declared.YuvSourceChannels.{YuvSourceChannels}
use Rattle.rules.specs.declared.YuvSourceChannels.TheVariants.{Rgb, Rgba, Bgra, Bgr}
use Rattle.rules.specs.Ranges.{y_bias}
use Rattle.rules.specs.Channels.{u_at, v_at}
use Rattle.rule_laws.specs.Usable.{Reach}
use Rattle.storage.proofs.PackingFactor.{factor_room}
use Rattle.inverse_bounds.specs.Bounds.{InverseWithin}
use Rattle.restoring_weights.specs.declared.ChromaSide.{ChromaSide}
use Rattle.restoring_weights.specs.RestoringWeights.{cr_side, cb_side, first_side, third_side, factor_of, scale_of, bias_word_y, bias_word_uv}

-- ---- powers of two

-- 2^(a − k) times 2^k
pub power_parts : (a k : ℕ) → k ≤ a → 2 ^ (a - k) * 2 ^ k ≡ 2 ^ a
power_parts a k h =
    let e : a - k + k ≡ a = omega arith in
    sym (pow-add 2 (a - k) k) ∙ ap (λ (n : ℕ). 2 ^ n) e

-- ---- the scale

-- times 2^P, for any number that 64 is divided by
pub scale_bound : (P f : ℕ) → P ≤ 13 → 2 ^ (13 - P) * (64 / f) * 2 ^ P ≤ 524288
scale_bound P f h =
    let l : 2 ^ (13 - P) * 2 ^ P * (64 / f) ≤ 8192 * 64 = mul-le-mul (eq→le (2 ^ (13 - P) * 2 ^ P) (power_parts 13 P h)) (div-le_self 64 f) in
    omega arith
  where
    eq→le : (n : ℕ) → n ≡ 8192 → n ≤ 8192
    eq→le n e = omega arith

-- a weight times the scale
pub scaled_small : (s : Settings) → Reach s → {k : ℕ} → k ≡ scale_of s → (z : ℤ) → nat_abs z ≤ 4 * 2 ^ s.precision → nat_abs z * k ≤ 2097152
scaled_small s r {k} e z h =
    let l : nat_abs z * scale_of s ≤ 4 * 2 ^ s.precision * scale_of s = mul-le-mul h (le_refl (scale_of s)) in
    rw e (omega (arith, l, scale_bound s.precision (factor_of s) r.fine))

-- ---- the rounding

pub half_less : (P : ℕ) → P ≤ 13 → 2 ^ (P - 1) - 1 < 8192
half_less P h = omega (arith, pow_mono {i = P - 1} {j = 12} (omega arith))

pub rounding_bound : (P : ℕ) → 1 ≤ P → P ≤ 13 → (2 ^ (P - 1) - 1) * 2 ^ (19 - P) ≤ 524288
rounding_bound P h g =
    let half : 2 ^ (P - 1) - 1 ≤ 2 ^ P = omega (arith, pow_mono {i = P - 1} {j = P} (omega arith)) in
    let l : (2 ^ (P - 1) - 1) * 2 ^ (19 - P) ≤ 2 ^ P * 2 ^ (19 - P) = mul-le-mul half (le_refl (2 ^ (19 - P))) in
    omega (arith, l, power_parts 19 P (omega arith))

-- ---- the biases, as stored words

module _ (s : Settings) (r : Reach s) where
  word_y_lem : (g : YuvRange) → y_bias g s.depth * factor_of s ≤ 4096
  word_y_lem Limited = omega (arith, ap (λ (n : ℕ). n * factor_of s) (power_parts s.depth 8 (omega (arith, r.shallow))), factor_room s.packing s.depth r.deep)
  word_y_lem Full = omega arith

  pub word_y_small : bias_word_y s ≤ 4096
  word_y_small = word_y_lem s.range

  pub word_uv_small : bias_word_uv s ≤ 32768
  word_uv_small = omega (arith, ap (λ (n : ℕ). n * factor_of s) (power_parts s.depth 1 (omega (arith, r.shallow))), factor_room s.packing s.depth r.deep)

-- ---- the sides

pub record SmallSide (b : ℕ) (side : ChromaSide) : Type 0 where
  pub at : side.at ≤ 1
  pub own : nat_abs side.own ≤ b
  pub green : nat_abs side.green ≤ b

u_at_lem : (o : YuvNVOrder) → u_at o ≤ 1
u_at_lem UV = omega arith
u_at_lem VU = omega arith

v_at_lem : (o : YuvNVOrder) → v_at o ≤ 1
v_at_lem UV = omega arith
v_at_lem VU = omega arith

module _ {b : ℕ} {w : InverseWeights} (h : InverseWithin b w) where
  cr_small : (o : YuvNVOrder) → SmallSide b (cr_side o w)
  cr_small o = record { at = v_at_lem o; own = h.cr.size; green = h.green_cr.size }

  cb_small : (o : YuvNVOrder) → SmallSide b (cb_side o w)
  cb_small o = record { at = u_at_lem o; own = h.cb.size; green = h.green_cb.size }

  pub first_small : (c : YuvSourceChannels) (o : YuvNVOrder) → SmallSide b (first_side c o w)
  first_small Rgb o = cr_small o
  first_small Rgba o = cr_small o
  first_small Bgra o = cb_small o
  first_small Bgr o = cb_small o

  pub third_small : (c : YuvSourceChannels) (o : YuvNVOrder) → SmallSide b (third_side c o w)
  third_small Rgb o = cb_small o
  third_small Rgba o = cb_small o
  third_small Bgra o = cr_small o
  third_small Bgr o = cr_small o

-- a side's weights times the scale
pub side_small : (s : Settings) → Reach s → {k : ℕ} → k ≡ scale_of s → {x y : ChromaSide} → x ≡ y → SmallSide (4 * 2 ^ s.precision) y
    → (x.at ≤ 1) × (nat_abs x.own * k ≤ 2097152) × (nat_abs x.green * k ≤ 2097152)
side_small s r e {y} f h = rw f (h.at, scaled_small s r e y.own h.own, scaled_small s r e y.green h.green)
