-- Where the chroma pair of a pixel lies. Assumes nothing.
use Prim.Native.Nat.{ℕ, ◌+◌, ◌*◌, ◌≤◌, ◌<◌}
use native.Mathlib.Omega.{arith}
use Rattle.rules.specs.declared.YuvChromaSubsampling.{YuvChromaSubsampling}
use Rattle.rules.specs.declared.YuvChromaSubsampling.TheVariants.{Yuv420, Yuv422, Yuv444}
use Rattle.rules.specs.Blocks.{pair_over, chroma_row_over, chroma_width, chroma_height}

pub row_below : (o : YuvChromaSubsampling) (height row : ℕ) → row < height → chroma_row_over o row < chroma_height o height
row_below Yuv420 height row h = omega arith
row_below Yuv422 height row h = h
row_below Yuv444 height row h = h

pub pair_below_lem : (o : YuvChromaSubsampling) (width x at : ℕ) → x < width → at ≤ 1 → 2 * pair_over o x + at < chroma_width o width
pair_below_lem Yuv420 width x at h l = omega arith
pair_below_lem Yuv422 width x at h l = omega arith
pair_below_lem Yuv444 width x at h l = omega arith
