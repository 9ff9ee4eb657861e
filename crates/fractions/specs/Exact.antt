-- The exact value that a test is given, as a fraction of rules. Definitions only.
use Rattle.std.specs.Prelude.{◌≡◌, ◌≤◌, pos, ◌-ℤ◌}
use Rattle.rules.specs.Fractions.{Fraction}
use Rattle.fractions.specs.declared.Exact.{Exact}

abbrev pub fraction_of : Exact → Fraction
fraction_of x = record { bias = x.bias; over = pos x.plus -ℤ pos x.minus; under = x.under }

-- the ranges in which no product of the test passes 64 bits
pub record Small (x : Exact) : Type 0 where
  pub bias≤ : x.bias ≤ 65535
  pub plus≤ : x.plus ≤ 1000000000000000
  pub minus≤ : x.minus ≤ 1000000000000000
  pub under≤ : x.under ≤ 5242800000

-- x is the fraction f, and small enough to be tested
pub record Exactly (f : Fraction) (x : Exact) : Type 0 where
  pub value : fraction_of x ≡ f
  pub small : Small x
