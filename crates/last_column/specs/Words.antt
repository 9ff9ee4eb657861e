-- The words of a luma row and of a chroma row, from rows of pixels. Definitions only.
use Rattle.std.specs.Prelude.{ℕ, ◌/◌, Bool, List}
use Rattle.rules.specs.declared.Settings.{Settings}
use Rattle.rules.specs.declared.Weights.{Weights}
use Rattle.rules.specs.declared.Pixel.{Pixel}
use Rattle.rules.specs.declared.YuvChromaSubsampling.{YuvChromaSubsampling}
use Rattle.rules.specs.Ranges.{y_bias, uv_bias}
use Rattle.rules.specs.Weights.{luma_row}
use Rattle.rules.specs.Channels.{is_u}
use Rattle.rules.specs.Blocks.{averaged}
use Rattle.rules.specs.Convert.{word_of}
use Rattle.tolerance_laws.specs.Chroma.{chroma_row}
use Rattle.blocks.specs.Tiles.{left_of, wide_at, tiles}
use Rattle.frames.specs.Rows.{row_pixel}

-- element x of a luma row
abbrev pub luma_element : Settings → Weights → (ℕ → Pixel) → ℕ → ℕ
luma_element s w p x = word_of s (y_bias s.range s.depth) (luma_row w) (p x)

-- the mean of the block of a pair, from its rows of pixels: the second counts only where there are two
abbrev pub pair_mean : YuvChromaSubsampling → ℕ → Bool → (ℕ → Pixel) → (ℕ → Pixel) → ℕ → Pixel
pair_mean sub width two t u pair = averaged (tiles (wide_at sub width (left_of sub pair)) two t u (left_of sub pair))

-- element k of a chroma row
unfoldable pub chroma_element : Settings → Weights → ℕ → Bool → (ℕ → Pixel) → (ℕ → Pixel) → ℕ → ℕ
chroma_element s w width two t u k = word_of s (uv_bias s.depth) (chroma_row (is_u s.order k) w) (pair_mean s.subsampling width two t u (k / 2))

-- the words of a luma row and of a chroma row, from row parts of the source
abbrev pub luma_words : Settings → Weights → List ℕ → ℕ → ℕ
luma_words s w part = luma_element s w (row_pixel s.channels part)

abbrev pub chroma_words : Settings → Weights → ℕ → Bool → List ℕ → List ℕ → ℕ → ℕ
chroma_words s w width two upper lower = chroma_element s w width two (row_pixel s.channels upper) (row_pixel s.channels lower)
