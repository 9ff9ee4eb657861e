-- The sum before division at 64 bits, and its shift. Assumes nothing.
use mathlib.Core.Path.{◌≡◌, ap, ◌∙◌}
use Prim.Native.Nat.{ℕ, ◌+◌, ◌-◌, ◌*◌, ◌^◌, ◌≤◌, ◌<◌}
use native.Mathlib.Omega.{arith}
use lib.Pow.{pow_mono, shl_lt}
use lib.IntN.{ℤ, pos, nat_abs, ◌+ℤ◌}
use lib.Signed.{shr_z, mag_shr}
use mir.Syntax.{w64}
use mir.Val.{SFits, to_z, of_z}
use mir.ValLaws.{to_z-of_z, sfits_le}
use Rattle.integer_laws.proofs.Machine.{plus, plus_fits}

-- ---- what is added before the shift
module _ (bias p : ℕ) (h : bias ≤ 65535) (l : 1 ≤ p) (k : p ≤ 13) where
  pub start_le : bias * 2 ^ p + (2 ^ (p - 1) - 1) ≤ 4294967295
  start_le =
      let b : bias < 2 ^ 16 = omega arith in
      let g : 16 + p ≤ 29 = omega arith in
      let e : p - 1 ≤ 13 = omega arith in
      let x : bias * 2 ^ p < 2 ^ (16 + p) = shl_lt 16 p b in
      let y : 2 ^ (16 + p) ≤ 2 ^ 29 = pow_mono g in
      let z : 2 ^ (p - 1) ≤ 2 ^ 13 = pow_mono e in
      omega arith

  -- the sum with it, shifted
  pub shifted_sum : (d z : ℤ) → nat_abs d ≤ 422212465065984 → z ≡ pos (bias * 2 ^ p + (2 ^ (p - 1) - 1))
      → to_z w64 (of_z w64 (shr_z (to_z w64 (of_z w64 (to_z w64 (of_z w64 d) +ℤ to_z w64 (of_z w64 z)))) (2 ^ p))) ≡ shr_z (d +ℤ pos (bias * 2 ^ p + (2 ^ (p - 1) - 1))) (2 ^ p)
  shifted_sum d z hd e =
      let s : ℕ = bias * 2 ^ p + (2 ^ (p - 1) - 1) in
      let f : SFits w64 (d +ℤ pos s) = plus_fits d (pos s) 422212465065984 4294967295 hd start_le (omega arith) in
      ap (λ (y : ℤ). to_z w64 (of_z w64 (shr_z (to_z w64 (of_z w64 (to_z w64 (of_z w64 d) +ℤ to_z w64 (of_z w64 y)))) (2 ^ p)))) e
      ∙ ap (λ (y : ℤ). to_z w64 (of_z w64 (shr_z (to_z w64 (of_z w64 y)) (2 ^ p)))) (plus d (pos s) 422212465065984 4294967295 hd start_le (omega arith))
      ∙ ap (λ (y : ℤ). to_z w64 (of_z w64 (shr_z y (2 ^ p)))) (to_z-of_z w64 (d +ℤ pos s) f)
      ∙ to_z-of_z w64 (shr_z (d +ℤ pos s) (2 ^ p)) (sfits_le (mag_shr (d +ℤ pos s) (2 ^ p)) f)
