-- What is said of a window that is the whole frame, of one window on two sources, and of two rings that agree on their windows. Definitions and
-- statements only.
use Rattle.std.specs.Prelude.{ℕ, ◌<◌, ◌≡◌, List, length}
use Rattle.rules.specs.declared.Settings.{Settings}
use Rattle.rules.specs.declared.Frame.{Frame}
use Rattle.rules.specs.declared.YuvSourceChannels.{YuvSourceChannels}
use Rattle.rules.specs.Refusals.{passes, first}
use Rattle.rules.specs.Frames.{source_size}
use Rattle.rules.specs.Convert.{convert, luma_after, chroma_after}
use Rattle.rules.specs.Ring.{ring_lines, convert_ring}
use Rattle.rules.specs.Check.{check}
use Rattle.plane_laws.specs.Parts.{part}
use Rattle.frames.specs.Sources.{SameColours}
use Rattle.window_theorem.specs.Former as former

-- 02: "zeros and source rows equal to height"
pub record Whole (f : Frame) : Type 0 where
  pub left : f.first_column ≡ 0
  pub top : f.first_row ≡ 0
  pub all : f.source_rows ≡ f.height

-- what convert, check and a ring do is what they did before there were windows
pub record AsBefore (s : Settings) (f : Frame) (source luma chroma : List ℕ) : Type 0 where
  pub answer : convert s f source luma chroma ≡ former.convert s f source luma chroma
  pub luma_left : luma_after s f source luma chroma ≡ former.luma_after s f source luma chroma
  pub chroma_left : chroma_after s f source luma chroma ≡ former.chroma_after s f source luma chroma
  pub checked : check s f source luma chroma ≡ former.check s f source luma chroma
  pub ring : (count : ℕ) → convert_ring s f count source luma chroma ≡ former.convert_ring s f count source luma chroma

-- a frame of the same size and planes, whose window stands elsewhere and in a source of another shape: cut out of it, say
abbrev pub elsewhere : Frame → ℕ → ℕ → ℕ → ℕ → Frame
elsewhere f stride column row rows = record {
  width = f.width;
  height = f.height;
  source_stride = stride;
  luma_stride = f.luma_stride;
  chroma_stride = f.chroma_stride;
  first_column = column;
  first_row = row;
  source_rows = rows;
}

-- none of 7, 12, 8 and 9 applies
abbrev pub LaidOut : Settings → Frame → List ℕ → List ℕ → List ℕ → Type 0
LaidOut s f source luma chroma = first (ring_lines s f 1 (length source) (length luma) (length chroma)) ≡ passes

-- what convert and check do with f and a is what they do with g and b
pub record SameOutcome (s : Settings) (f g : Frame) (a b luma chroma : List ℕ) : Type 0 where
  pub answer : convert s f a luma chroma ≡ convert s g b luma chroma
  pub luma_left : luma_after s f a luma chroma ≡ luma_after s g b luma chroma
  pub chroma_left : chroma_after s f a luma chroma ≡ chroma_after s g b luma chroma
  pub checked : check s f a luma chroma ≡ check s g b luma chroma

-- the sources of two rings agree at every colour sample of the window of each frame
pub record SameFrames (c : YuvSourceChannels) (f : Frame) (count : ℕ) (a b : List ℕ) : Type 0 where
  pub long : length a ≡ length b
  pub each : (i : ℕ) → i < count → SameColours c f (part (source_size f) i a) (part (source_size f) i b)
