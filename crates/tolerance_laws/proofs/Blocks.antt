-- The block of a chroma pair is one, two or four visible pixels. Assumes nothing.
use mathlib.Core.Path.{◌≡◌, refl}
use mathlib.Core.Bool.{Bool, true, false, cond}
use mathlib.Core.List.{List, [], ◌∷◌}
use Prim.Native.Nat.{ℕ, ◌+◌, ◌*◌, ◌/◌, ◌<◌}
use native.Mathlib.Omega.{arith}
use lib.Dec.{ltb}
use borrow.Author.Tests.{ltb-true}
use Rattle.rules.specs.declared.YuvChromaSubsampling.{YuvChromaSubsampling}
use Rattle.rules.specs.declared.YuvChromaSubsampling.TheVariants.{Yuv420, Yuv422, Yuv444}
use Rattle.rules.specs.Channels.{Picture}
use Rattle.rules.specs.Blocks.{pair_below, columns, rows, crossed, block, chroma_width, chroma_height}
use Rattle.rule_laws.specs.Codes.{Low}
use Rattle.tolerance_laws.specs.Block.{Block, one, two, four}

-- one or two places below n
data Places (n : ℕ) : List ℕ → Type 0 where
  single : {i : ℕ} → i < n → Places n (i ∷ [])
  double : {i j : ℕ} → i < n → j < n → Places n (i ∷ j ∷ [])

pair_at : (n i : ℕ) → i < n → (t : Bool) → ltb (i + 1) n ≡ t → Places n (cond t (i ∷ (i + 1) ∷ []) (i ∷ []))
pair_at n i h true e = double h (ltb-true (i + 1) n e)
pair_at n i h false e = single h

pair_places : (n i : ℕ) → i < n → Places n (pair_below n i)
pair_places n i h = pair_at n i h (ltb (i + 1) n) refl

column_places : (s : YuvChromaSubsampling) (width pair : ℕ) → 2 * pair < chroma_width s width → Places width (columns s width pair)
column_places Yuv444 width pair h = single {i = pair} (omega arith)
column_places Yuv422 width pair h = pair_places width (2 * pair) (omega arith)
column_places Yuv420 width pair h = pair_places width (2 * pair) (omega arith)

row_places : (s : YuvChromaSubsampling) (height row : ℕ) → row < chroma_height s height → Places height (rows s height row)
row_places Yuv444 height row h = single h
row_places Yuv422 height row h = single h
row_places Yuv420 height row h = pair_places height (2 * row) (omega arith)

-- a picture whose visible pixels are low
module _ (m width height : ℕ) (px : Picture) (low : (row column : ℕ) → row < height → column < width → Low m (px row column)) where
  crossed_block : {cs rs : List ℕ} → Places width cs → Places height rs → Block m (crossed px cs rs)
  unfolding crossed
  crossed_block (single c) (single r) = one (low _ _ r c)
  crossed_block (single c) (double r r') = two (low _ _ r c) (low _ _ r' c)
  crossed_block (double c c') (single r) = two (low _ _ r c) (low _ _ r c')
  crossed_block (double c c') (double r r') = four (low _ _ r c) (low _ _ r c') (low _ _ r' c) (low _ _ r' c')

  -- the pixels of the chroma pair that holds elements 2·pair and 2·pair + 1
  pub block_of : (s : YuvChromaSubsampling) (row pair : ℕ) → row < chroma_height s height → 2 * pair < chroma_width s width →
      Block m (block s width height px row pair)
  unfolding block
  block_of s row pair h k = crossed_block (column_places s width pair k) (row_places s height row h)

  -- the same by an element of the chroma row
  pub block_at : (s : YuvChromaSubsampling) (row element : ℕ) → row < chroma_height s height → element < chroma_width s width →
      Block m (block s width height px row (element / 2))
  block_at s row element h k = block_of s row (element / 2) h (omega arith)
