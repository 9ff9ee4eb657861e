-- The weights of a frame as its rows use them. Definitions and statements only.
use Rattle.std.specs.Prelude.{ℕ, ◌+◌, ◌-◌, ◌*◌, ◌^◌, ◌≤◌, ℤ, pos, nat_abs, ◌+ℤ◌, ◌*ℤ◌}
use Rattle.rules.specs.declared.Settings.{Settings}
use Rattle.rules.specs.declared.Weights.{Weights}
use Rattle.rules.specs.declared.Triple.{Triple}
use Rattle.rules.specs.declared.YuvSourceChannels.{YuvSourceChannels}
use Rattle.rules.specs.declared.YuvSourceChannels.TheVariants.{Rgb, Rgba, Bgra, Bgr}
use Rattle.rules.specs.Ranges.{y_bias, uv_bias}
use Rattle.rules.specs.Weights.{luma_row}
use Rattle.rules.specs.Channels.{is_u}
use Rattle.tolerance_laws.specs.Chroma.{chroma_row}
use Rattle.storage.specs.PackingFactor.{packing_factor}
use Rattle.joined_weights.specs.declared.JoinedWeights.{JoinedWeights}
use Rattle.joined_weights.specs.declared.FrameWeights.{FrameWeights}

-- two numbers in one: a + b × 2^32
abbrev pub join : ℤ → ℤ → ℤ
join a b = a +ℤ b *ℤ pos 4294967296

-- the factor of all weights: 2^(13 − P) times the packing factor
abbrev pub scale_of : Settings → ℕ
scale_of s = 2 ^ (13 - s.precision) * packing_factor s.packing s.depth

abbrev pub scaled_triple : ℕ → Triple → Triple
scaled_triple scale w = record { red = w.red *ℤ pos scale; green = w.green *ℤ pos scale; blue = w.blue *ℤ pos scale }

-- the scale is at most 2^18, and each of three weights times the scale at most 2^19
abbrev pub Scalable : ℕ → Triple → Type 0
Scalable scale w = (scale ≤ 262144) × (nat_abs w.red * scale ≤ 524288) × (nat_abs w.green * scale ≤ 524288) × (nat_abs w.blue * scale ≤ 524288)

-- each of three weights lies from -b to b
pub record NoWeightAbove (b : ℕ) (w : Triple) : Type 0 where
  pub red : nat_abs w.red ≤ b
  pub green : nat_abs w.green ≤ b
  pub blue : nat_abs w.blue ≤ b

-- red's weight and blue's exchanged
abbrev pub blue_first : Triple → Triple
blue_first w = record { red = w.blue; green = w.green; blue = w.red }

-- the weights in the order of a pixel's samples: in Bgr and Bgra blue's stands first
abbrev pub in_source_order : YuvSourceChannels → Triple → Triple
in_source_order Rgb w = w
in_source_order Rgba w = w
in_source_order Bgra w = blue_first w
in_source_order Bgr w = blue_first w

-- the three weights of one code, in source order and scaled
abbrev pub scaled_weights : Settings → Triple → Triple
scaled_weights s w = scaled_triple (scale_of s) (in_source_order s.channels w)

-- what is added to the three products of a code, scaled: its bias and the rounding
abbrev pub scaled_start : Settings → ℕ → ℕ
scaled_start s bias = (bias * 2 ^ s.precision + (2 ^ (s.precision - 1) - 1)) * scale_of s

-- two codes of one pixel: the first has the weights a and starts at sa, the second has b and starts at sb
abbrev pub joined_weights : ℤ → Triple → ℤ → Triple → JoinedWeights
joined_weights sa a sb b = record { start = join sa sb; first = join a.red b.red; second = join a.green b.green; third = join a.blue b.blue }

-- one code of two pixels, whose samples are joined: of the weights only the start is
abbrev pub shared_weights : ℤ → Triple → JoinedWeights
shared_weights start w = record { start = join start start; first = w.red; second = w.green; third = w.blue }

-- in either half of a sum, the bits below a stored word
abbrev pub bits_below : Settings → ℕ
bits_below s = (8192 * packing_factor s.packing s.depth - 1) * 4294967297

-- luma of two pixels at once, and both samples of a chroma pair at once, in the order in which they are stored
unfoldable pub frame_weights : Settings → Weights → FrameWeights
frame_weights s w = record {
  luma = shared_weights (pos (scaled_start s (y_bias s.range s.depth))) (scaled_weights s (luma_row w));
  chroma = joined_weights (pos (scaled_start s (uv_bias s.depth))) (scaled_weights s (chroma_row (is_u s.order 0) w)) (pos (scaled_start s (uv_bias s.depth))) (scaled_weights s (chroma_row (is_u s.order 1) w));
  below = bits_below s;
}
