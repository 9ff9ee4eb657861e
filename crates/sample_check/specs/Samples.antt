-- The test of one sample by pixels, by blocks and by rows.
-- Definitions and statements only.
use Rattle.std.specs.Prelude.{ℕ, ◌+◌, ◌/◌, ◌<◌, ◌≡◌, Bool, true, ◌&&◌, cond, List, [], ◌∷◌, leb, get_or}
use Rattle.rules.specs.declared.Settings.{Settings}
use Rattle.rules.specs.declared.Named.{Named}
use Rattle.rules.specs.declared.Pixel.{Pixel}
use Rattle.rules.specs.declared.YuvChromaSubsampling.{YuvChromaSubsampling}
use Rattle.rules.specs.declared.YuvSourceChannels.{YuvSourceChannels}
use Rattle.rules.specs.declared.Component.TheVariants.{Y, Cb, Cr}
use Rattle.rules.specs.Channels.{is_u}
use Rattle.rules.specs.Storage.{stored}
use Rattle.rules.specs.Check.{right}
use Rattle.blocks.specs.Tiles.{left_of, wide_at, tiles}
use Rattle.formed_rows.specs.Formed.{is_formed}
use Rattle.fractions.specs.declared.Exact.{Exact}
use Rattle.tolerance_bounds.specs.Bound.{distance}
use Rattle.frames.specs.Rows.{row_pixel}
use Rattle.sample_check.specs.declared.sample.Tile.{Tile}

-- the code of a word is within a bound of an exact value
abbrev pub near_by : Settings → ℕ → Exact → ℕ → Bool
near_by s bound x v = leb (distance x (stored s.packing s.endianness s.depth v)) bound

-- a word is well formed, and its code within a bound of an exact value
abbrev pub right_by : Settings → ℕ → Exact → ℕ → Bool
right_by s bound x v = is_formed s v && near_by s bound x v

-- a word is right as the luma of a pixel
abbrev pub pixel_right : Settings → Named → Pixel → ℕ → Bool
pixel_right s k p v = right s k (record { component = Y; pixels = p ∷ [] }) v

-- a word is right as the Cb of a block where u is true, as its Cr where it is false
unfoldable pub block_right : Settings → Named → Bool → List Pixel → ℕ → Bool
block_right s k u b v = right s k (record { component = cond u Cb Cr; pixels = b }) v

-- ---- blocks of a row

-- a block's columns lie in a row
pub record TileFits (width : ℕ) (t : Tile) : Type 0 where
  pub inside : t.left < width
  pub beside : t.wide ≡ true → t.left + 1 < width

-- the pixels of a block, from two row parts
abbrev pub tiled : YuvSourceChannels → List ℕ → List ℕ → Tile → List Pixel
tiled c top low t = tiles t.wide t.two (row_pixel c top) (row_pixel c low) t.left

-- the block of a pair, by whether its rows are two
abbrev pub tile_of : YuvChromaSubsampling → ℕ → Bool → ℕ → Tile
tile_of s width two pair = record { left = left_of s pair; wide = wide_at s width (left_of s pair); two = two }

-- an element of a chroma row is right, by the pixels of its two source rows
unfoldable pub element_right : Settings → Named → ℕ → Bool → (ℕ → Pixel) → (ℕ → Pixel) → ℕ → ℕ → Bool
element_right s k width two top low e v =
    let x = left_of s.subsampling (e / 2) in
    block_right s k (is_u s.order e) (tiles (wide_at s.subsampling width x) two top low x) v

-- element e of a luma row is right, by its source row
abbrev pub luma_element_right : Settings → Named → List ℕ → List ℕ → ℕ → Bool
luma_element_right s k pixels luma e = pixel_right s k (row_pixel s.channels pixels e) (get_or luma e 0)

-- element e of a chroma row is right, by the source rows of its blocks
abbrev pub chroma_element_right : Settings → Named → ℕ → Bool → List ℕ → List ℕ → List ℕ → ℕ → Bool
chroma_element_right s k width two top low chroma e = element_right s k width two (row_pixel s.channels top) (row_pixel s.channels low) e (get_or chroma e 0)
