-- Where the odd last column of a row lies, and its chroma pair. Assumes nothing.
use mathlib.Core.Path.{◌≡◌, refl, sym}
use mathlib.Core.Bool.{false}
use Prim.Native.Nat.{ℕ, zero, suc, ◌+◌, ◌-◌, ◌/◌, ◌%◌, ◌≤◌}
use native.Mathlib.Omega.{arith}
use borrow.Author.Tests.{le-ltb}
use Rattle.rules.specs.declared.YuvChromaSubsampling.{YuvChromaSubsampling}
use Rattle.rules.specs.declared.YuvChromaSubsampling.TheVariants.{Yuv420, Yuv422, Yuv444}
use Rattle.rules.specs.Blocks.{chroma_width}
use Rattle.blocks.specs.Tiles.{left_of, wide_at}
use Rattle.last_column.specs.Columns.{even_columns, elements_over, even_elements}

pub odd : (width : ℕ) → (width % 2 ≡ 0 → ⊥) → width % 2 ≡ 1
odd width h = by (width % 2) (omega arith) h
  where
    by : (r : ℕ) → r ≤ 1 → (r ≡ 0 → ⊥) → r ≡ 1
    by zero l g = absurd (g refl)
    by (suc r) l g = omega arith

-- with an even width no column is left, and no chroma element
pub none_left : (o : YuvChromaSubsampling) (width : ℕ) → width % 2 ≡ 0 → chroma_width o width ≤ even_elements o width
none_left Yuv420 width h = omega arith
none_left Yuv422 width h = omega arith
none_left Yuv444 width h = omega arith

-- with an odd one the last pair follows the elements of the columns before it
module _ (width : ℕ) (h : width % 2 ≡ 1) where
  pub columns_before : width - 1 ≡ even_columns width
  columns_before = omega arith

  pub pair_last : (o : YuvChromaSubsampling) → chroma_width o width ≡ elements_over o (width - 1) + 2
  pair_last Yuv420 = omega arith
  pair_last Yuv422 = omega arith
  pair_last Yuv444 = omega arith

  pub pair_even : (o : YuvChromaSubsampling) → elements_over o (width - 1) % 2 ≡ 0
  pair_even Yuv420 = omega arith
  pair_even Yuv422 = omega arith
  pair_even Yuv444 = omega arith

  -- its block has one column, the last
  pub pair_left : (o : YuvChromaSubsampling) → width - 1 ≡ left_of o (elements_over o (width - 1) / 2)
  pair_left Yuv420 = omega arith
  pair_left Yuv422 = omega arith
  pair_left Yuv444 = omega arith

  pub pair_narrow : (o : YuvChromaSubsampling) → false ≡ wide_at o width (width - 1)
  pair_narrow Yuv420 = sym (le-ltb (width - 1 + 1) width (omega arith))
  pair_narrow Yuv422 = sym (le-ltb (width - 1 + 1) width (omega arith))
  pair_narrow Yuv444 = refl
