-- What two planes and a buffer must be for a frame to be turned back, and what the buffer gains by a row. Statements only.
use Rattle.std.specs.Prelude.{ℕ, ◌*◌, ◌≤◌, List, length}
use Rattle.rules.specs.declared.Settings.{Settings}
use Rattle.rules.specs.declared.Frame.{Frame}
use Rattle.rules.specs.declared.InverseWeights.{InverseWeights}
use Rattle.rules.specs.Ranges.{most}
use Rattle.rules.specs.Channels.{count}
use Rattle.rules.specs.Blocks.{chroma_width, chroma_height}
use Rattle.rules.specs.Search.{Clean}
use Rattle.rules.specs.ToRgb.{restored_picture, row_element, formed_test}
use Rattle.frames.specs.Rows.{Rows}

-- the rows of both planes lie in them, and every visible sample is well formed
pub record Readable (s : Settings) (f : Frame) (luma chroma : List ℕ) : Type 0 where
  pub narrow : f.width ≤ 16384
  pub high : 1 ≤ f.height
  pub luma_rows : Rows (length luma) f.luma_stride f.width f.height
  pub chroma_rows : Rows (length chroma) f.chroma_stride (chroma_width s.subsampling f.width) (chroma_height s.subsampling f.height)
  pub luma_formed : Clean (formed_test s f.luma_stride luma) f.width f.height
  pub chroma_formed : Clean (formed_test s f.chroma_stride chroma) (chroma_width s.subsampling f.width) (chroma_height s.subsampling f.height)

-- so many elements, from the window's corner on, hold the window's rows
abbrev pub RestRows : Settings → Frame → ℕ → Type 0
RestRows s f long = Rows long f.source_stride (f.width * count s.channels) f.height

-- the elements of a row of the restored picture
abbrev pub restored_row : Settings → InverseWeights → Frame → List ℕ → List ℕ → ℕ → ℕ → ℕ
restored_row s w f luma chroma row = row_element s.channels (most s.depth) (restored_picture s w f luma chroma row)
