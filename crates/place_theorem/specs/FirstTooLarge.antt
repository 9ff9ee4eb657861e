-- Document 02, One: what the place of refusal 10 means. Statements only.
use Rattle.std.specs.Prelude.{ℕ, ◌≤◌, ◌<◌, ◌≡◌, List, ℤ}
use Rattle.rules.specs.declared.Frame.{Frame}
use Rattle.rules.specs.Channels.{Picture}
use Rattle.rules.specs.Refusals.{source_values}
use Rattle.rules.specs.Frames.{channel_of}

-- "row, pixel and channel (red before green before blue) of the first too-large visible sample, reading row by row"
pub record FirstTooLarge (m : ℕ) (f : Frame) (px : Picture) (row pixel channel : ℕ) : Type 0 where
  pub below : row < f.height
  pub inside : pixel < f.width
  pub colour : channel < 3
  pub exceeds : m < channel_of channel (px row pixel)
  -- no visible sample before it does: in the rows above, in the pixels to its left, in its own pixel
  pub above : (r x c : ℕ) → r < row → x < f.width → c < 3 → channel_of c (px r x) ≤ m
  pub left : (x c : ℕ) → x < pixel → c < 3 → channel_of c (px row x) ≤ m
  pub before : (c : ℕ) → c < channel → channel_of c (px row pixel) ≤ m

-- the values of a refusal 10 are those of the first sample that is too large
pub record Carries (m : ℕ) (f : Frame) (px : Picture) (values : List ℤ) : Type 0 where
  pub row : ℕ
  pub pixel : ℕ
  pub channel : ℕ
  pub carried : values ≡ source_values row pixel channel
  pub first : FirstTooLarge m f px row pixel channel
