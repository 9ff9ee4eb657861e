-- How far a luma row passes by its gauge. Definitions only.
use Rattle.std.specs.Prelude.{ℕ, List, [], ◌∷◌, get_or}
use Rattle.rules.specs.declared.YuvEndianness.{YuvEndianness}
use Rattle.rules.specs.declared.YuvSourceChannels.{YuvSourceChannels}
use Rattle.rules.specs.Storage.{exchanged}
use Rattle.fractions.specs.Sums.{sums_of}
use Rattle.frames.specs.Rows.{row_pixel}
use Rattle.gauges.specs.declared.gauge.Shares.{Shares}
use Rattle.gauges.specs.declared.gauge.Gauge.{Gauge}
use Rattle.gauges.specs.Gauges.{luma_near}
use Rattle.gauges.specs.Prefixes.{Passed}

-- the first n of a luma row's samples pass, each by the pixel of its column
abbrev pub LumaPassed : YuvSourceChannels → YuvEndianness → Gauge → Shares → List ℕ → List ℕ → ℕ → ℕ → Type 0
LumaPassed c o g h pixels luma width n = Passed (λ (e : ℕ). luma_near g h (sums_of (row_pixel c pixels e ∷ [])) (exchanged o (get_or luma e 0))) width n
