-- What the tests of a frame leave, each where the one before passed. Statements only.
use Rattle.rules.specs.Refusals.{Verdict}
use Rattle.std.specs.Prelude.{ℕ, ◌+◌, ◌*◌, ◌≤◌, List, length, Ok, Err}
use Rattle.rules.specs.declared.Settings.{Settings}
use Rattle.rules.specs.declared.Frame.{Frame}
use Rattle.rules.specs.Ranges.{most}
use Rattle.rules.specs.Channels.{count}
use Rattle.rules.specs.Blocks.{chroma_width, chroma_height}
use Rattle.rules.specs.Frames.{shown}
use Rattle.frames.specs.Rows.{Rows, LowPicture}
use Rattle.frames.specs.SourceRows.{WindowRows}

-- 7 is not due
pub record Sized (f : Frame) : Type 0 where
  pub wide : 1 ≤ f.width
  pub narrow : f.width ≤ 16384
  pub high : 1 ≤ f.height
  pub flat : f.height ≤ 16384

-- 12 is not due
pub record Windowed (f : Frame) : Type 0 where
  pub left : f.first_column ≤ 16384
  pub top : f.first_row ≤ 16384
  pub rows : f.source_rows ≤ 16384
  pub within : f.first_row + f.height ≤ f.source_rows

-- 8 is not due
pub record Strided (s : Settings) (f : Frame) : Type 0 where
  pub source : (f.first_column + f.width) * count s.channels ≤ f.source_stride
  pub source_most : f.source_stride ≤ 65536
  pub luma : f.width ≤ f.luma_stride
  pub luma_most : f.luma_stride ≤ 65536
  pub chroma : chroma_width s.subsampling f.width ≤ f.chroma_stride
  pub chroma_most : f.chroma_stride ≤ 65536

-- 9 is not due: the rows of the three buffers, by their lengths
pub record Laid (s : Settings) (f : Frame) (sources lumas chromas : ℕ) : Type 0 where
  pub source : WindowRows s.channels f sources
  pub luma : Rows lumas f.luma_stride f.width f.height
  pub chroma : Rows chromas f.chroma_stride (chroma_width s.subsampling f.width) (chroma_height s.subsampling f.height)

-- a frame that passes 7, 12, 8 and 9
abbrev pub LaidOut : Settings → Frame → ℕ → ℕ → ℕ → Verdict → Type 0
LaidOut s f source luma chroma (Ok u) = (Sized f) × (Laid s f source luma chroma)
LaidOut s f source luma chroma (Err r) = Unit

-- 10 is not due either: the frame can be converted
pub record Ready (s : Settings) (f : Frame) (source : List ℕ) (luma chroma : ℕ) : Type 0 where
  pub sized : Sized f
  pub laid : Laid s f (length source) luma chroma
  pub low : LowPicture (most s.depth) (shown s f source) f.width f.height

-- a frame that passes can be converted
abbrev pub Clear : Settings → Frame → List ℕ → ℕ → ℕ → Verdict → Type 0
Clear s f source luma chroma (Ok u) = Ready s f source luma chroma
Clear s f source luma chroma (Err r) = Unit
