-- The tolerance test of a fraction whose numerator is a difference p − n. Assumes nothing.
use mathlib.Core.Path.{◌≡◌}
use mathlib.Core.Bool.{true}
use Prim.Native.Nat.{ℕ, ◌+◌, ◌-◌, ◌*◌, ◌^◌, ◌≤◌}
use native.Mathlib.Omega.{arith}
use lib.Dec.{leb}
use lib.IntN.{pos, ◌+ℤ◌, ◌-ℤ◌}
use borrow.Author.Tests.{le-leb}
use Rattle.rules.specs.Fractions.{Fraction, within}
use Rattle.integer_laws.proofs.Differences.{Is, is_pos, is_add, is_minus, is_shift, abs_is, abs_times}

module _ (x : Fraction) {p n : ℕ} (h : Is x.over p n) (c : ℕ) where
  -- how far a code lies from the exact value, times the divisor
  error_is : Is (pos (c * x.under) -ℤ (pos (x.bias * x.under) +ℤ x.over)) (c * x.under + n) (x.bias * x.under + p)
  error_is = is_shift (is_minus (is_pos (c * x.under)) (is_add (is_pos (x.bias * x.under)) h)) (omega arith)

  -- within, from both sides
  pub within_sides : (P m e : ℕ) →
      100 * 2 ^ P * (c * x.under + n) ≤ 100 * 2 ^ P * (x.bias * x.under + p) + x.under * (50 * e * 2 ^ P + 153 * m) →
      100 * 2 ^ P * (x.bias * x.under + p) ≤ 100 * 2 ^ P * (c * x.under + n) + x.under * (50 * e * 2 ^ P + 153 * m) →
      within P m e x c ≡ true
  within_sides P m e over under = le-leb _ _ (abs_times (100 * 2 ^ P) _ error_is over under)

  -- the test over ℕ
  pub within_apart : (P m e : ℕ) →
      leb (((c * x.under + n) - (x.bias * x.under + p) + ((x.bias * x.under + p) - (c * x.under + n))) * (100 * 2 ^ P))
      (x.under * (50 * e * 2 ^ P + 153 * m)) ≡ within P m e x c
  within_apart P m e = rw (abs_is error_is)
