-- A turn of the frame loop: a chroma row and the luma rows over it, and what both planes gain. Definitions and statements only.
use Rattle.std.specs.Prelude.{ℕ, ◌-◌, ◌<◌, ◌≡◌, Bool, List}
use Rattle.rules.specs.declared.Settings.{Settings}
use Rattle.rules.specs.declared.Weights.{Weights}
use Rattle.rules.specs.declared.Frame.{Frame}
use Rattle.rules.specs.declared.YuvChromaSubsampling.{YuvChromaSubsampling}
use Rattle.rules.specs.Blocks.{chroma_width, chroma_height}
use Rattle.rules.specs.Frames.{shown}
use Rattle.rules.specs.Convert.{luma_word, chroma_word}
use Rattle.blocks.specs.Tiles.{top_of, two_at}
use Rattle.frames.specs.Rows.{Grows}

-- a chroma row, the first luma row over it, and whether there is a second
pub record Turn (s : Settings) (f : Frame) (row top : ℕ) (two : Bool) : Type 0 where
  pub within : row < chroma_height s.subsampling f.height
  pub first : top ≡ top_of s.subsampling row
  pub second : two ≡ two_at s.subsampling f.height top

-- how many luma rows lie over the first `row` chroma rows: two for each at 4:2:0, but never more than there are
abbrev pub rows_over : YuvChromaSubsampling → ℕ → ℕ → ℕ
rows_over sub height row = height - (height - top_of sub row)

-- what the luma plane gains, and the chroma plane, by the picture that a source shows
abbrev pub LumaGrows : Settings → Weights → Frame → List ℕ → ℕ → ℕ → List ℕ → List ℕ → Type 0
LumaGrows s w f source from to before after =
    Grows f.luma_stride f.width from to (luma_word s w (shown s f source)) before after

abbrev pub ChromaGrows : Settings → Weights → Frame → List ℕ → ℕ → ℕ → List ℕ → List ℕ → Type 0
ChromaGrows s w f source from to before after =
    Grows f.chroma_stride (chroma_width s.subsampling f.width) from to (chroma_word s w f.width f.height (shown s f source)) before after
