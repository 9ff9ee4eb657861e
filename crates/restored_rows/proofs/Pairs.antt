-- Where the chroma pair of a column stands in its row. Assumes nothing.
use mathlib.Core.Path.{◌≡◌, sym}
use mathlib.Core.Bool.{true, true≢false}
use Prim.Native.Nat.{ℕ, ◌+◌, ◌*◌, ◌%◌, ◌≤◌, ◌<◌}
use native.Mathlib.Omega.{arith}
use Rattle.rules.specs.declared.YuvChromaSubsampling.{YuvChromaSubsampling}
use Rattle.rules.specs.declared.YuvChromaSubsampling.TheVariants.{Yuv420, Yuv422, Yuv444}
use Rattle.rules.specs.Blocks.{pair_over, chroma_width}
use Rattle.blocks.specs.Tiles.{paired}

pub room : (o : YuvChromaSubsampling) (width x : ℕ) → x < width → 2 * pair_over o x + 2 ≤ chroma_width o width
room Yuv420 width x h = omega arith
room Yuv422 width x h = omega arith
room Yuv444 width x h = omega arith

-- where pairs have two columns, an even column and the next one share theirs
pub shared : (o : YuvChromaSubsampling) (x : ℕ) → x % 2 ≡ 0 → paired o ≡ true → 2 * pair_over o x ≡ 2 * pair_over o (x + 1)
shared Yuv420 x even h = omega arith
shared Yuv422 x even h = omega arith
shared Yuv444 x even h = absurd (true≢false (sym h))
