-- The settings that numbers name: each enumeration by the Rust's numbers, the matrices in the order of 01's table. Definitions only.
use Rattle.std.specs.Prelude.{ℕ, Bool, ◌&&◌, cond, eqb, leb, Float, Result, Ok, Err}
use Rattle.rules.specs.declared.Settings.{Settings}
use Rattle.rules.specs.declared.YuvStandardMatrix.{YuvStandardMatrix}
use Rattle.rules.specs.declared.YuvStandardMatrix.TheVariants.{Bt601, Bt709, Bt2020, Smpte240, Bt470_6, Custom}
use Rattle.rules.specs.declared.YuvRange.{YuvRange}
use Rattle.rules.specs.declared.YuvRange.TheVariants.{Limited, Full}
use Rattle.rules.specs.declared.YuvChromaSubsampling.{YuvChromaSubsampling}
use Rattle.rules.specs.declared.YuvChromaSubsampling.TheVariants.{Yuv420, Yuv422, Yuv444}
use Rattle.rules.specs.declared.YuvNVOrder.{YuvNVOrder}
use Rattle.rules.specs.declared.YuvNVOrder.TheVariants.{UV, VU}
use Rattle.rules.specs.declared.YuvBytesPacking.{YuvBytesPacking}
use Rattle.rules.specs.declared.YuvBytesPacking.TheVariants.{MostSignificantBytes, LeastSignificantBytes}
use Rattle.rules.specs.declared.YuvEndianness.{YuvEndianness}
use Rattle.rules.specs.declared.YuvEndianness.TheVariants.{BigEndian, LittleEndian}
use Rattle.rules.specs.declared.YuvSourceChannels.{YuvSourceChannels}
use Rattle.rules.specs.declared.YuvSourceChannels.TheVariants.{Rgb, Rgba, Bgra, Bgr}
use Rattle.numbers.specs.declared.SettingsNumbers.{SettingsNumbers}
use Rattle.numbers.specs.declared.Unnamed.{Unnamed}

abbrev pub matrix_of : ℕ → Float → Float → YuvStandardMatrix
matrix_of n kr kb =
    cond (eqb n 0) Bt601
    (cond (eqb n 1) Bt709
    (cond (eqb n 2) Bt2020
    (cond (eqb n 3) Smpte240
    (cond (eqb n 4) Bt470_6
    (Custom kr kb)))))

abbrev pub range_of : ℕ → YuvRange
range_of n = cond (eqb n 0) Limited Full

abbrev pub subsampling_of : ℕ → YuvChromaSubsampling
subsampling_of n = cond (eqb n 0) Yuv420 (cond (eqb n 1) Yuv422 Yuv444)

abbrev pub order_of : ℕ → YuvNVOrder
order_of n = cond (eqb n 0) UV VU

abbrev pub packing_of : ℕ → YuvBytesPacking
packing_of n = cond (eqb n 0) MostSignificantBytes LeastSignificantBytes

abbrev pub endianness_of : ℕ → YuvEndianness
endianness_of n = cond (eqb n 0) BigEndian LittleEndian

abbrev pub channels_of : ℕ → YuvSourceChannels
channels_of n = cond (eqb n 0) Rgb (cond (eqb n 1) Rgba (cond (eqb n 2) Bgra Bgr))

-- each number names a case of its enumeration; any depth and any precision is a number that settle answers
unfoldable pub named : SettingsNumbers → Bool
named n =
    leb n.matrix 5
    && (leb n.range 1
    && (leb n.subsampling 2
    && (leb n.order 1
    && (leb n.packing 1
    && (leb n.byte_order 1
    && leb n.channels 3)))))

abbrev pub these : SettingsNumbers → Settings
these n =
    record {
      depth = n.depth;
      precision = n.precision;
      matrix = matrix_of n.matrix n.kr n.kb;
      range = range_of n.range;
      subsampling = subsampling_of n.subsampling;
      order = order_of n.order;
      packing = packing_of n.packing;
      endianness = endianness_of n.byte_order;
      channels = channels_of n.channels;
    }

-- what the numbers mean: settings, or that one of them names no case
abbrev pub Meant : Type 0
Meant = Result Settings Unnamed

abbrev pub no_case : Unnamed
no_case = record {}

-- a number up to the last names a case of its enumeration
abbrev pub up_to : {A : Type 0} → ℕ → ℕ → A → Result A Unnamed
up_to last n case = cond (leb n last) (Ok case) (Err no_case)

-- the settings, or nothing where a number names no case
unfoldable pub settings_of : SettingsNumbers → Meant
settings_of n = cond (named n) (Ok (these n)) (Err no_case)
