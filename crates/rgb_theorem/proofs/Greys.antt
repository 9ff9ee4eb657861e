-- THE THEOREMS of greys: codes without colour give a pixel without colour; black has such codes under any settings, and every grey has under
-- settings whose chroma weights sum to 0. Assumes nothing.
use mathlib.Core.Path.{◌≡◌, sym, ap, ◌∙◌}
use Prim.Native.Nat.{ℕ, ◌+◌, ◌-◌, ◌*◌, ◌/◌, ◌^◌, ◌≤◌}
use native.Mathlib.Omega.{arith}
use lib.IntN.{ℤ, pos, nat_abs, ◌+ℤ◌, ◌-ℤ◌, ◌*ℤ◌, +ℤ_idl, +ℤ_idr, +ℤ_invr, zero-*ℤ}
use lib.Pow.{pow_pos, pow_mono, high}
use lib.Signed.{shr_z}
use Rattle.rules.specs.declared.Settings.{Settings}
use Rattle.rules.specs.declared.Triple.{Triple}
use Rattle.rules.specs.declared.InverseWeights.{InverseWeights}
use Rattle.rules.specs.Ranges.{most, y_bias, uv_bias}
use Rattle.rules.specs.Sample.{weighted, signed_code, code}
use Rattle.rules.specs.Settle.{colour}
use Rattle.rules.specs.ToRgb.{term, channel_code, restored}
use Rattle.integer_laws.proofs.Differences.{is_self, is_pos, is_add, is_times, is_same, is_shift}

-- ---- back to RGB

-- a code at its bias adds nothing
nothing : (b : ℕ) (w : ℤ) → term b b w ≡ pos 0
nothing b w = ap (λ (z : ℤ). z *ℤ w) (+ℤ_invr (pos b)) ∙ zero-*ℤ w

-- "red is .. blue the same .. green": without colour all three are of one sum
pub neutral : (s : Settings) (w : InverseWeights) (y : ℕ) →
    let p = restored s w (record { y = y; cb = uv_bias s.depth; cr = uv_bias s.depth }) in (p.red ≡ p.green) × (p.green ≡ p.blue)
unfolding restored
neutral s w y =
    let b = uv_bias s.depth in
    let l = term (y_bias s.range s.depth) y w.y_coef in
    let channel = channel_code s.precision (most s.depth) in
    let red : l +ℤ term b b w.cr_coef ≡ l = ap (λ (z : ℤ). l +ℤ z) (nothing b w.cr_coef) ∙ +ℤ_idr l in
    let blue : l +ℤ term b b w.cb_coef ≡ l = ap (λ (z : ℤ). l +ℤ z) (nothing b w.cb_coef) ∙ +ℤ_idr l in
    let green : l -ℤ term b b w.g_coeff_1 -ℤ term b b w.g_coeff_2 ≡ l = (λ i. l -ℤ nothing b w.g_coeff_1 i -ℤ nothing b w.g_coeff_2 i) ∙ +ℤ_idr (l +ℤ pos 0) ∙ +ℤ_idr l in
    (ap channel (red ∙ sym green), ap channel (green ∙ sym blue))

-- ---- what convert writes

-- a sum that is 0 leaves the bias
module _ (p bias : ℕ) (w : Triple) (h : 1 ≤ p) where
  at_bias : (bias * 2 ^ p + (2 ^ (p - 1) - 1)) / 2 ^ p ≡ bias
  at_bias = high bias p (omega (arith, pow_mono {i = p - 1} {j = p} (omega arith), pow_pos p))

  by_sum : (r g b : ℕ) → weighted w (colour r g b) ≡ pos 0 → code p bias w (colour r g b) ≡ bias
  unfolding code signed_code
  by_sum r g b e = ap (λ (z : ℤ). nat_abs (shr_z (z +ℤ pos (bias * 2 ^ p + (2 ^ (p - 1) - 1))) (2 ^ p))) e ∙ ap (λ (z : ℤ). nat_abs (shr_z z (2 ^ p))) (+ℤ_idl (pos (bias * 2 ^ p + (2 ^ (p - 1) - 1)))) ∙ at_bias

  -- black, by any weights
  pub black_bias : code p bias w (colour 0 0 0) ≡ bias
  unfolding weighted
  black_bias = by_sum 0 0 0 none
    where
      none : weighted w (colour 0 0 0) ≡ pos 0
      none = is_same (is_add (is_add (is_times (is_self w.red) 0) (is_times (is_self w.green) 0)) (is_times (is_self w.blue) 0)) (is_shift (is_pos 0) (omega arith))

  -- a grey, by weights that sum to 0
  pub grey_bias : w.red +ℤ w.green +ℤ w.blue ≡ pos 0 → (v : ℕ) → code p bias w (colour v v v) ≡ bias
  unfolding weighted
  grey_bias e v = by_sum v v v none
    where
      none : weighted w (colour v v v) ≡ pos 0
      none =
          is_same (is_add (is_add (is_times (is_self w.red) v) (is_times (is_self w.green) v)) (is_times (is_self w.blue) v))
          (is_shift (is_times (is_add (is_add (is_self w.red) (is_self w.green)) (is_self w.blue)) v) (omega arith))
          ∙ ap (λ (z : ℤ). z *ℤ pos v) e ∙ zero-*ℤ (pos v)
