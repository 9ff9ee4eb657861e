-- The divisors and tolerances that are worked out once for settings and a matrix. Definitions and statements only.
use Rattle.std.specs.Prelude.{ℕ, ◌+◌, ◌-◌, ◌*◌, ◌≤◌, ◌≡◌, Bool, true, false, cond}
use Rattle.rules.specs.declared.Settings.{Settings}
use Rattle.rules.specs.declared.Named.{Named}
use Rattle.rules.specs.Ranges.{most}
use Rattle.yuv_support.specs.Ranges.{chroma_range}
use Rattle.tolerance_bounds.specs.Bound.{bound_of}
use Rattle.check_limits.specs.declared.Limit.{Limit}
use Rattle.check_limits.specs.declared.BlockLimits.{BlockLimits}
use Rattle.check_limits.specs.declared.SettingsLimits.{SettingsLimits}

-- l has the divisor `under`, and the tolerance of h halves times it, rounded down
pub record LimitOf (precision m h under : ℕ) (l : Limit) : Type 0 where
  pub divisor : l.under ≡ under
  pub bound : l.bound ≡ bound_of precision m h under
  pub small : l.under ≤ 5242800000
  pub close : l.bound ≤ 60000000000000000

-- l has the limits of Cb or Cr, whose own K is `own`: "one half more for chroma of two or four pixels"
pub record BlockLimitsOf (precision m own : ℕ) (l : BlockLimits) : Type 0 where
  pub one : LimitOf precision m 1 (2 * (10000 - own) * 1 * m) l.one
  pub two : LimitOf precision m 2 (2 * (10000 - own) * 2 * m) l.two
  pub four : LimitOf precision m 2 (2 * (10000 - own) * 4 * m) l.four

-- l has the ranges of the settings, and the limits of luma, Cb and Cr
pub record LimitsOf (s : Settings) (k : Named) (l : SettingsLimits) : Type 0 where
  pub whole : k.kr + k.kb ≤ 10000
  pub ranges : l.ranges ≡ chroma_range s.depth s.range
  pub luma : LimitOf s.precision (most s.depth) 1 (10000 * most s.depth) l.luma
  pub cb : BlockLimitsOf s.precision (most s.depth) k.kb l.cb
  pub cr : BlockLimitsOf s.precision (most s.depth) k.kr l.cr

-- the limit of a block by whether it has two columns, and two rows
abbrev pub limit_for : BlockLimits → Bool → Bool → Limit
limit_for l false false = l.one
limit_for l true false = l.two
limit_for l false true = l.two
limit_for l true true = l.four

-- of its Cb where u is true, of its Cr where it is false
abbrev pub own_limit : SettingsLimits → Bool → Bool → Bool → Limit
own_limit l u wide two = cond u (limit_for l.cb wide two) (limit_for l.cr wide two)
