-- The tests of a row's elements, from the row parts of the source. Assumes nothing.
use mathlib.Core.Path.{◌≡◌, ap, ◌∙◌}
use mathlib.Core.Bool.{Bool}
use mathlib.Core.List.{List}
use Prim.Native.Nat.{ℕ, ◌/◌, ◌<◌}
use Rattle.rules.specs.declared.Settings.{Settings}
use Rattle.rules.specs.declared.Named.{Named}
use Rattle.rules.specs.declared.YuvChromaSubsampling.{YuvChromaSubsampling}
use Rattle.rules.specs.Channels.{is_u}
use Rattle.rules.specs.Blocks.{chroma_width}
use Rattle.blocks.specs.Tiles.{left_of, wide_at}
use Rattle.blocks.proofs.Tiles.{left_below, wide_below}
use Rattle.frames.specs.Rows.{row_pixel}
use Rattle.sample_check.specs.declared.sample.Tile.{Tile}
use Rattle.sample_check.specs.Samples.{block_right, TileFits, tiled, tile_of, element_right}

-- the block of a pair, as it is worked out
pub same_tile : (s : YuvChromaSubsampling) (width : ℕ) (two : Bool) (pair : ℕ) {x : ℕ} {w : Bool} → x ≡ left_of s pair → w ≡ wide_at s width x →
    ◌≡◌ {A = Tile} (record { left = x; wide = w; two = two }) (tile_of s width two pair)
same_tile s width two pair e f = λ i. record { left = e i; wide = (f ∙ ap (wide_at s width) e) i; two = two }

-- lies in its row
pub tile_fits : (s : YuvChromaSubsampling) (width : ℕ) (two : Bool) (e : ℕ) → e < chroma_width s width → TileFits width (tile_of s width two (e / 2))
tile_fits s width two e h = record { inside = left_below s width e h; beside = wide_below s width (left_of s (e / 2)) }

-- the test of a pair's block is that of the element
pub element_is : (s : Settings) (k : Named) (width : ℕ) (two : Bool) (top low : List ℕ) (e v : ℕ) {u r : Bool} {t : Tile} →
    u ≡ is_u s.order e → t ≡ tile_of s.subsampling width two (e / 2) → r ≡ block_right s k u (tiled s.channels top low t) v →
    r ≡ element_right s k width two (row_pixel s.channels top) (row_pixel s.channels low) e v
unfolding element_right
element_is s k width two top low e v f g h = h ∙ λ i. block_right s k (f i) (tiled s.channels top low (g i)) v
