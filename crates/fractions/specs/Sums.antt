-- The exact fractions of rules by channel sums and a divisor. Definitions only.
use Rattle.std.specs.Prelude.{ℕ, ◌+◌, ◌*◌, ◌≤◌, Bool, cond, List, pos, ◌-ℤ◌, ◌*ℤ◌}
use Rattle.rules.specs.declared.Named.{Named}
use Rattle.rules.specs.declared.Pixel.{Pixel}
use Rattle.rules.specs.Matrices.{kg}
use Rattle.rules.specs.Blocks.{reds, greens, blues}
use Rattle.rules.specs.Fractions.{Fraction}
use Rattle.fractions.specs.declared.Sums.{Sums}

-- the sums of a block
abbrev pub sums_of : List Pixel → Sums
sums_of b = record { red = reds b; green = greens b; blue = blues b }

-- S = Kr-as-SR + Kg-as-SG + Kb-as-SB
abbrev pub blend : Named → Sums → ℕ
blend k s = k.kr * s.red + kg k * s.green + k.kb * s.blue

-- bias + S·range / under: over 10000·m it is rules' exact_luma
abbrev pub luma_by : Named → ℕ → ℕ → ℕ → Sums → Fraction
luma_by k bias range under s = record { bias = bias; over = pos (blend k s * range); under = under }

-- the sum of the channel's own: blue's for Cb, where u is true, red's for Cr
abbrev pub own_sum : Bool → Sums → ℕ
own_sum u s = cond u s.blue s.red

-- bias + (10000·own − S)·range / under, by the sum of the channel's own: over 2·(10000 − K)·n·m it is rules' exact_cb and exact_cr
abbrev pub chroma_by : Named → ℕ → ℕ → ℕ → ℕ → Sums → Fraction
chroma_by k bias range under own s = record { bias = bias; over = (pos (10000 * own) -ℤ pos (blend k s)) *ℤ pos range; under = under }

-- the sums of at most four pixels
pub record UpToFour (s : Sums) : Type 0 where
  pub red≤ : s.red ≤ 262140
  pub green≤ : s.green ≤ 262140
  pub blue≤ : s.blue ≤ 262140

-- the ranges in which no product passes 64 bits
pub record Modest (k : Named) (bias range under : ℕ) : Type 0 where
  pub whole : k.kr + k.kb ≤ 10000
  pub bias≤ : bias ≤ 65535
  pub range≤ : range ≤ 65535
  pub under≤ : under ≤ 5242800000
