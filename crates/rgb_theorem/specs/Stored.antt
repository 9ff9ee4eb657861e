-- The same codes stored another way. Definitions and statements only.
use Rattle.std.specs.Prelude.{ℕ, ◌<◌, ◌≡◌, List}
use Rattle.rules.specs.declared.Settings.{Settings}
use Rattle.rules.specs.declared.Frame.{Frame}
use Rattle.rules.specs.declared.YuvNVOrder.{YuvNVOrder}
use Rattle.rules.specs.declared.YuvBytesPacking.{YuvBytesPacking}
use Rattle.rules.specs.declared.YuvEndianness.{YuvEndianness}
use Rattle.rules.specs.ToRgb.{codes_at}

-- settings with another chroma order, packing and byte order
abbrev pub stored_as : YuvNVOrder → YuvBytesPacking → YuvEndianness → Settings → Settings
stored_as o k e s = record {
  depth = s.depth;
  precision = s.precision;
  matrix = s.matrix;
  range = s.range;
  subsampling = s.subsampling;
  order = o;
  packing = k;
  endianness = e;
  channels = s.channels;
}

-- two pairs of planes hold the same codes for every pixel of a frame, each by its own settings
pub record SameCodes (s s' : Settings) (f f' : Frame) (luma chroma luma' chroma' : List ℕ) : Type 0 where
  pub same : (row column : ℕ) → row < f.height → column < f.width → codes_at s f luma chroma row column ≡ codes_at s' f' luma' chroma' row column
