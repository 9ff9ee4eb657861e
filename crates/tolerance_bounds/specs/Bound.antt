-- The tolerance test by a bound that is worked out beforehand. Definitions only.
use Rattle.std.specs.Prelude.{ℕ, ◌+◌, ◌-◌, ◌*◌, ◌/◌, ◌^◌, ◌≤◌}
use Rattle.fractions.specs.declared.Exact.{Exact}

-- |a − b|
abbrev pub apart : ℕ → ℕ → ℕ
apart a b = (a - b) + (b - a)

-- how far a code lies from an exact value, times the divisor
abbrev pub distance : Exact → ℕ → ℕ
distance x c = apart (c * x.under + x.minus) (x.bias * x.under + x.plus)

-- the tolerance, times the divisor, rounded down
abbrev pub bound_of : ℕ → ℕ → ℕ → ℕ → ℕ
bound_of precision m h under = under * (50 * h * 2 ^ precision + 153 * m) / (100 * 2 ^ precision)

-- the ranges in which no product of the bound passes 64 bits
pub record Scale (precision m h under : ℕ) : Type 0 where
  pub precision≤ : precision ≤ 13
  pub m≤ : m ≤ 65535
  pub h≤ : h ≤ 2
  pub under≤ : under ≤ 5242800000
