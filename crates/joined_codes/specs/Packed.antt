-- The words of a pixel before their bytes are exchanged. Definitions only.
use Rattle.std.specs.Prelude.{ℕ}
use Rattle.rules.specs.declared.Settings.{Settings}
use Rattle.rules.specs.declared.Weights.{Weights}
use Rattle.rules.specs.declared.Pixel.{Pixel}
use Rattle.rules.specs.declared.YuvSourceChannels.{YuvSourceChannels}
use Rattle.rules.specs.declared.YuvSourceChannels.TheVariants.{Rgb, Rgba, Bgra, Bgr}
use Rattle.rules.specs.Ranges.{y_bias, uv_bias}
use Rattle.rules.specs.Weights.{luma_row}
use Rattle.rules.specs.Channels.{is_u}
use Rattle.rules.specs.Sample.{code}
use Rattle.rules.specs.Storage.{packed}
use Rattle.tolerance_laws.specs.Chroma.{chroma_row}

-- the colours of a pixel whose samples were read in source order, as if they were red, green and blue
abbrev pub colours_of : YuvSourceChannels → Pixel → Pixel
colours_of Rgb p = p
colours_of Rgba p = p
colours_of Bgra p = record { red = p.blue; green = p.green; blue = p.red }
colours_of Bgr p = record { red = p.blue; green = p.green; blue = p.red }

-- the luma of a pixel
abbrev pub packed_luma : Settings → Weights → Pixel → ℕ
packed_luma s w p = packed s.packing s.depth (code s.precision (y_bias s.range s.depth) (luma_row w) p)

-- element k of a chroma row, by the mean of its block
abbrev pub packed_chroma : Settings → Weights → ℕ → Pixel → ℕ
packed_chroma s w k p = packed s.packing s.depth (code s.precision (uv_bias s.depth) (chroma_row (is_u s.order k) w) p)
