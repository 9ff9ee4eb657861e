-- The part of a source that is a row of its window. Definitions and statements only.
use Rattle.std.specs.Prelude.{ℕ, ◌+◌, ◌*◌, ◌≤◌, ◌<◌, ◌≡◌, List, length}
use Rattle.rules.specs.declared.Frame.{Frame}
use Rattle.rules.specs.declared.YuvSourceChannels.{YuvSourceChannels}
use Rattle.rules.specs.Channels.{count}
use Rattle.rules.specs.Frames.{window}
use Rattle.frames.specs.Rows.{Shows}

-- the index of the first element of a row of the window
abbrev pub row_start : YuvSourceChannels → Frame → ℕ → ℕ
row_start c f row = (f.first_row + row) * f.source_stride + f.first_column * count c

-- the rows of the window lie in a source of `long` elements, which may end with the last of them
pub record WindowRows (c : YuvSourceChannels) (f : Frame) (long : ℕ) : Type 0 where
  pub some : 0 < f.source_stride
  pub fits : (row : ℕ) → row < f.height → row_start c f row + f.width * count c ≤ long

-- the elements of the visible pixels, and none beside them
pub record SourceRow (c : YuvSourceChannels) (f : Frame) (source : List ℕ) (row : ℕ) (part : List ℕ) : Type 0 where
  pub long : length part ≡ f.width * count c
  pub shows : Shows c part (window c f source) row f.width
