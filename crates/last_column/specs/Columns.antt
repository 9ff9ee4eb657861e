-- The columns of a row that are written two at a time, and the chroma elements over them. Definitions and statements only.
use Rattle.std.specs.Prelude.{ℕ, ◌*◌, ◌/◌, ◌≤◌, ◌≡◌}
use Rattle.rules.specs.declared.Settings.{Settings}
use Rattle.rules.specs.declared.YuvChromaSubsampling.{YuvChromaSubsampling}
use Rattle.rules.specs.declared.YuvChromaSubsampling.TheVariants.{Yuv420, Yuv422, Yuv444}
use Rattle.rules.specs.Blocks.{chroma_width}

-- all columns but an odd last one
abbrev pub even_columns : ℕ → ℕ
even_columns width = 2 * (width / 2)

-- the chroma elements of so many first columns, for an even number of columns
abbrev pub elements_over : YuvChromaSubsampling → ℕ → ℕ
elements_over Yuv420 columns = columns
elements_over Yuv422 columns = columns
elements_over Yuv444 columns = 2 * columns

-- the chroma elements of all columns but an odd last one
abbrev pub even_elements : YuvChromaSubsampling → ℕ → ℕ
even_elements sub width = elements_over sub (even_columns width)

-- the lengths of a luma row and of a chroma row without their padding
pub record RowLengths (s : Settings) (width luma chroma : ℕ) : Type 0 where
  pub narrow : width ≤ 16384
  pub luma_long : luma ≡ width
  pub chroma_long : chroma ≡ chroma_width s.subsampling width
