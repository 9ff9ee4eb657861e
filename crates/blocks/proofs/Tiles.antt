-- A chroma block by cases is the block of the rules, and where it lies. Assumes nothing.
use mathlib.Core.Path.{◌≡◌, refl, sym}
use mathlib.Core.Bool.{Bool, true, false, cond, true≢false}
use mathlib.Core.List.{[], ◌∷◌}
use Prim.Native.Nat.{ℕ, ◌+◌, ◌*◌, ◌/◌, ◌≤◌, ◌<◌}
use native.Mathlib.Omega.{arith}
use lib.Dec.{ltb}
use borrow.Author.Tests.{ltb-true}
use Rattle.rules.specs.declared.Pixel.{Pixel}
use Rattle.rules.specs.declared.YuvChromaSubsampling.{YuvChromaSubsampling}
use Rattle.rules.specs.declared.YuvChromaSubsampling.TheVariants.{Yuv420, Yuv422, Yuv444}
use Rattle.rules.specs.Channels.{Picture}
use Rattle.rules.specs.Blocks.{crossed, block, chroma_width, chroma_height}
use Rattle.rule_laws.specs.Codes.{Low}
use Rattle.tolerance_laws.specs.Block.{Block, one, two, four}
use Rattle.blocks.specs.Tiles.{left_of, wide_at, top_of, two_at, second_of, tiles}

crossed_tiles : (a b : Bool) (px : Picture) (x r : ℕ) → crossed px (cond a (x ∷ (x + 1) ∷ []) (x ∷ [])) (cond b (r ∷ (r + 1) ∷ []) (r ∷ [])) ≡ tiles a b (px r) (px (r + 1)) x
unfolding crossed
crossed_tiles true true px x r = refl
crossed_tiles true false px x r = refl
crossed_tiles false true px x r = refl
crossed_tiles false false px x r = refl

-- the block of the rules, by cases
pub block_tiles : (s : YuvChromaSubsampling) (width height : ℕ) (px : Picture) (row pair : ℕ)
    → block s width height px row pair ≡ tiles (wide_at s width (left_of s pair)) (two_at s height (top_of s row)) (px (top_of s row)) (px (top_of s row + 1)) (left_of s pair)
unfolding block
block_tiles Yuv420 width height px row pair = crossed_tiles (ltb (2 * pair + 1) width) (ltb (2 * row + 1) height) px (2 * pair) (2 * row)
block_tiles Yuv422 width height px row pair = crossed_tiles (ltb (2 * pair + 1) width) false px (2 * pair) row
block_tiles Yuv444 width height px row pair = crossed_tiles false false px pair row

-- ---- where a block lies

pub left_below : (s : YuvChromaSubsampling) (width k : ℕ) → k < chroma_width s width → left_of s (k / 2) < width
left_below Yuv420 width k h = omega arith
left_below Yuv422 width k h = omega arith
left_below Yuv444 width k h = omega arith

pub wide_below : (s : YuvChromaSubsampling) (width x : ℕ) → wide_at s width x ≡ true → x + 1 < width
wide_below Yuv420 width x e = ltb-true (x + 1) width e
wide_below Yuv422 width x e = ltb-true (x + 1) width e
wide_below Yuv444 width x e = absurd (true≢false (sym e))

pub width_small : (s : YuvChromaSubsampling) (width : ℕ) → chroma_width s width ≤ 2 * width + 1
width_small Yuv420 width = omega arith
width_small Yuv422 width = omega arith
width_small Yuv444 width = omega arith

pub width_some : (s : YuvChromaSubsampling) (width : ℕ) → 1 ≤ width → 1 ≤ chroma_width s width
width_some Yuv420 width h = omega arith
width_some Yuv422 width h = omega arith
width_some Yuv444 width h = omega arith

pub height_small : (s : YuvChromaSubsampling) (height : ℕ) → chroma_height s height ≤ height
height_small Yuv420 height = omega arith
height_small Yuv422 height = omega arith
height_small Yuv444 height = omega arith

pub top_below : (s : YuvChromaSubsampling) (height row : ℕ) → row < chroma_height s height → top_of s row < height
top_below Yuv420 height row h = omega arith
top_below Yuv422 height row h = h
top_below Yuv444 height row h = h

pub two_below : (s : YuvChromaSubsampling) (height t : ℕ) → two_at s height t ≡ true → t + 1 < height
two_below Yuv420 height t e = ltb-true (t + 1) height e
two_below Yuv422 height t e = absurd (true≢false (sym e))
two_below Yuv444 height t e = absurd (true≢false (sym e))

-- blocks of rows that agree where they are read
pub tiles_same : (a b : Bool) (t t' l l' : ℕ → Pixel) (x : ℕ) → t x ≡ t' x → (a ≡ true → t (x + 1) ≡ t' (x + 1)) → (b ≡ true → l x ≡ l' x) →
    (b ≡ true → a ≡ true → l (x + 1) ≡ l' (x + 1)) → tiles a b t l x ≡ tiles a b t' l' x
tiles_same false false t t' l l' x p q r o = λ i. p i ∷ []
tiles_same true false t t' l l' x p q r o = λ i. p i ∷ q refl i ∷ []
tiles_same false true t t' l l' x p q r o = λ i. p i ∷ r refl i ∷ []
tiles_same true true t t' l l' x p q r o = λ i. p i ∷ q refl i ∷ r refl i ∷ o refl refl i ∷ []

-- the second row of a block lies in the picture
pub second_below : (two : Bool) (t height : ℕ) {u : ℕ} → u ≡ second_of two t → t < height → (two ≡ true → t + 1 < height) → u < height
second_below true t height e h g = omega (arith, g refl)
second_below false t height e h g = omega arith

-- ---- the pixels of a block that are not too large
pub tiles_block : {m : ℕ} (a b : Bool) (t u : ℕ → Pixel) (x : ℕ) → Low m (t x) → (a ≡ true → Low m (t (x + 1))) → (b ≡ true → Low m (u x)) → (b ≡ true → a ≡ true → Low m (u (x + 1))) → Block m (tiles a b t u x)
tiles_block false false t u x p q r o = one p
tiles_block true false t u x p q r o = two p (q refl)
tiles_block false true t u x p q r o = two p (r refl)
tiles_block true true t u x p q r o = four p (q refl) (r refl) (o refl refl)
