-- Row parts: where they lie in a buffer, the pixels that they show, and what a plane gains by them. Definitions and statements only.
use Rattle.std.specs.Prelude.{ℕ, ◌+◌, ◌*◌, ◌≤◌, ◌<◌, ◌≡◌, List, length, get_or}
use Rattle.rules.specs.declared.Settings.{Settings}
use Rattle.rules.specs.declared.YuvSourceChannels.{YuvSourceChannels}
use Rattle.rules.specs.declared.Pixel.{Pixel}
use Rattle.rules.specs.Ranges.{most}
use Rattle.rules.specs.Channels.{Picture, count, pixel_at}
use Rattle.rules.specs.Planes.{element_at, written}
use Rattle.rule_laws.specs.Codes.{Low}

-- rows of `wide` elements, `stride` apart, lie in a buffer of `long` elements, which may end with the last of them
pub record Rows (long stride wide rows : ℕ) : Type 0 where
  pub some : 0 < stride
  pub covers : wide ≤ stride
  pub fits : (row : ℕ) → row < rows → row * stride + wide ≤ long

-- a row of a plane as a part of it, without its padding
pub record PlaneRow (stride wide : ℕ) (words : List ℕ) (row : ℕ) (part : List ℕ) : Type 0 where
  pub long : length part ≡ wide
  pub holds : (i : ℕ) → i < wide → get_or part i 0 ≡ element_at stride words row i

-- pixel x of a row part
abbrev pub row_pixel : YuvSourceChannels → List ℕ → ℕ → Pixel
row_pixel c part x = pixel_at c part (x * count c)

-- a row part shows the first pixels of a row of a picture: all that the frame loop knows of a source
pub record Shows (c : YuvSourceChannels) (part : List ℕ) (px : Picture) (row width : ℕ) : Type 0 where
  pub same : (x : ℕ) → x < width → row_pixel c part x ≡ px row x

-- no visible sample of a row, or of a picture, exceeds m
pub record LowRow (m : ℕ) (p : ℕ → Pixel) (width : ℕ) : Type 0 where
  pub low : (x : ℕ) → x < width → Low m (p x)

pub record LowPicture (m : ℕ) (px : Picture) (width height : ℕ) : Type 0 where
  pub low : (row : ℕ) → row < height → LowRow m (px row) width

-- a row part can be converted: it holds exactly `width` pixels, and no colour sample of theirs exceeds m
pub record Convertible (s : Settings) (width : ℕ) (part : List ℕ) : Type 0 where
  pub long : length part ≡ width * count s.channels
  pub low : LowRow (most s.depth) (row_pixel s.channels part) width

-- where the first `from` rows of a plane were written before, the first `to` rows are written after
pub record Grows (stride wide from to : ℕ) (f : ℕ → ℕ → ℕ) (before after : List ℕ) : Type 0 where
  pub grows : (old : List ℕ) → before ≡ written stride wide from f old → after ≡ written stride wide to f old
