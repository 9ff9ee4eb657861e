-- The test of a well-formed word without unpacking it: the word equals code × factor, and weights, bias and tolerance are scaled by the
-- same factor. Definitions and statements only.
use Rattle.std.specs.Prelude.{ℕ, ◌+◌, ◌*◌, ◌≤◌, Bool, leb}
use Rattle.rules.specs.declared.Settings.{Settings}
use Rattle.rules.specs.declared.Named.{Named}
use Rattle.rules.specs.Matrices.{kg}
use Rattle.storage.specs.PackingFactor.{packing_factor}
use Rattle.fractions.specs.declared.Sums.{Sums}
use Rattle.tolerance_bounds.specs.Bound.{apart}
use Rattle.check_limits.specs.declared.Limit.{Limit}
use Rattle.gauges.specs.declared.gauge.Shares.{Shares}
use Rattle.gauges.specs.declared.gauge.Gauge.{Gauge}

-- the packing factor: 2^(16−d) or 1
abbrev pub factor_of : Settings → ℕ
factor_of s = packing_factor s.packing s.depth

-- K × range × factor for each channel, and 10000 × range × factor for the channel that a chroma sample is named after
abbrev pub shares_of : Named → ℕ → ℕ → Shares
shares_of k range factor = record { red = k.kr * range * factor; green = kg k * range * factor; blue = k.kb * range * factor; own = 10000 * range * factor }

-- a divisor, the bias over it and the tolerance over it, both scaled
abbrev pub gauge_of : ℕ → Limit → ℕ → Gauge
gauge_of bias l factor = record { under = l.under; start = bias * l.under * factor; bound = l.bound * factor }

-- (Kr-as-SR + Kg-as-SG + Kb-as-SB) × range × factor
abbrev pub shared : Shares → Sums → ℕ
shared h z = h.red * z.red + h.green * z.green + h.blue * z.blue

-- a word lies within the tolerance of bias + (plus − minus) / divisor, all scaled
abbrev pub word_near : Gauge → ℕ → ℕ → ℕ → Bool
word_near g plus minus v = leb (apart (v * g.under + minus) (g.start + plus)) g.bound

-- as luma, by the sums of one pixel
abbrev pub luma_near : Gauge → Shares → Sums → ℕ → Bool
luma_near g h z v = word_near g (shared h z) 0 v

-- as chroma, by the sums of a block; `own` is the sum of the channel that the sample is named after
abbrev pub chroma_near : Gauge → Shares → ℕ → Sums → ℕ → Bool
chroma_near g h own z v = word_near g (h.own * own) (shared h z) v

-- bounds that keep every product within 64 bits
pub record SharesBounded (h : Shares) : Type 0 where
  pub red≤ : h.red ≤ 41942400000
  pub green≤ : h.green ≤ 41942400000
  pub blue≤ : h.blue ≤ 41942400000
  pub own≤ : h.own ≤ 41942400000

pub record GaugeBounded (g : Gauge) : Type 0 where
  pub under≤ : g.under ≤ 5242800000
  pub start≤ : g.start ≤ 22000000000000000
  pub bound≤ : g.bound ≤ 4000000000000000000
