-- Sources that agree where they are read. Statements only.
use Rattle.std.specs.Prelude.{ℕ, ◌+◌, ◌*◌, ◌<◌, ◌≡◌, List, length, get_or}
use Rattle.rules.specs.declared.Frame.{Frame}
use Rattle.rules.specs.declared.YuvSourceChannels.{YuvSourceChannels}
use Rattle.rules.specs.Channels.{Picture, count, red_at, green_at, blue_at}

-- a and b agree at the place `at` of each visible pixel
abbrev pub SameAt : YuvSourceChannels → Frame → ℕ → List ℕ → List ℕ → Type 0
SameAt c f at a b =
    (row column : ℕ) → row < f.height → column < f.width
    → let i = (f.first_row + row) * f.source_stride + (f.first_column + column) * count c + at in get_or a i 0 ≡ get_or b i 0

-- two sources of one length that agree at every visible colour sample: they differ only in alpha, in padding and outside the window
pub record SameColours (c : YuvSourceChannels) (f : Frame) (a b : List ℕ) : Type 0 where
  pub long : length a ≡ length b
  pub red : SameAt c f (red_at c) a b
  pub green : SameAt c f (green_at c) a b
  pub blue : SameAt c f (blue_at c) a b

-- pictures that agree on the visible pixels
pub record SamePicture (width height : ℕ) (px px' : Picture) : Type 0 where
  pub same : (row x : ℕ) → row < height → x < width → px row x ≡ px' row x
