-- What is said of the sign and the size of a weight. Definitions only.
use Rattle.std.specs.Prelude.{ℕ, ◌≤◌, ◌≡◌, Bool, true, false, ℤ, nat_abs}
use Rattle.rules.specs.declared.Weights.{Weights}
use Rattle.rules.specs.Weights.{signed}

-- z has the sign s, where true is minus and 0 counts for both, and is at most b in size
pub record SignedWithin (s : Bool) (b : ℕ) (z : ℤ) : Type 0 where
  pub sign : z ≡ signed s (nat_abs z)
  pub size : nat_abs z ≤ b

-- the signs of the nine weights, and their greatest size
pub record Bounded (b : ℕ) (w : Weights) : Type 0 where
  pub yr : SignedWithin false b w.yr
  pub yg : SignedWithin false b w.yg
  pub yb : SignedWithin false b w.yb
  pub cbr : SignedWithin true b w.cb_r
  pub cbg : SignedWithin true b w.cb_g
  pub cbb : SignedWithin false b w.cb_b
  pub crr : SignedWithin false b w.cr_r
  pub crg : SignedWithin true b w.cr_g
  pub crb : SignedWithin true b w.cr_b
