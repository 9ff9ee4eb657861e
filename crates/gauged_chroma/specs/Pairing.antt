-- The test of a pair of chroma samples by gauges. Definitions and statements only.
use Rattle.std.specs.Prelude.{ℕ, ◌+◌, ◌*◌, ◌/◌, Bool, ◌&&◌, List, [], ◌∷◌, get_or}
use Rattle.rules.specs.declared.YuvChromaSubsampling.{YuvChromaSubsampling}
use Rattle.rules.specs.declared.YuvChromaSubsampling.TheVariants.{Yuv420, Yuv422, Yuv444}
use Rattle.rules.specs.Channels.{u_at, v_at}
use Rattle.rules.specs.Storage.{exchanged}
use Rattle.rules.specs.declared.Pixel.{Pixel}
use Rattle.rules.specs.declared.YuvSourceChannels.{YuvSourceChannels}
use Rattle.blocks.specs.Tiles.{paired, left_of, tiles}
use Rattle.frames.specs.Rows.{row_pixel}
use Rattle.fractions.specs.declared.Sums.{Sums}
use Rattle.gauged_chroma.specs.declared.Ruler.{Ruler}
use Rattle.gauges.specs.Gauges.{chroma_near, SharesBounded, GaugeBounded}

-- how many pairs there are, but for a last one whose block has one column fewer
abbrev pub whole_pairs : YuvChromaSubsampling → ℕ → ℕ
whole_pairs Yuv420 width = width / 2
whole_pairs Yuv422 width = width / 2
whole_pairs Yuv444 width = width

-- the U of a pair passes by Cb's gauge, its V by Cr's
abbrev pub u_near : Ruler → Sums → List ℕ → ℕ → Bool
u_near m z chroma pair = chroma_near m.cb m.shares z.blue z (exchanged m.endianness (get_or chroma (2 * pair + u_at m.order) 0))

abbrev pub v_near : Ruler → Sums → List ℕ → ℕ → Bool
v_near m z chroma pair = chroma_near m.cr m.shares z.red z (exchanged m.endianness (get_or chroma (2 * pair + v_at m.order) 0))

-- both samples of a pair pass
unfoldable pub pair_near : Ruler → Sums → List ℕ → ℕ → Bool
pair_near m z chroma pair = u_near m z chroma pair && v_near m z chroma pair

-- bounds that keep every product within 64 bits
pub record RulerBounded (m : Ruler) : Type 0 where
  pub shares : SharesBounded m.shares
  pub cb : GaugeBounded m.cb
  pub cr : GaugeBounded m.cr

-- the pixels of a block from a column on, from two source rows, by whether it has two columns and two rows
abbrev pub row_tiles : YuvSourceChannels → List ℕ → List ℕ → Bool → Bool → ℕ → List Pixel
row_tiles c top low wide two left = tiles wide two (row_pixel c top) (row_pixel c low) left

-- two pixels of a row from a column on
abbrev pub two_pixels : YuvSourceChannels → List ℕ → ℕ → List Pixel
two_pixels c pixels left = row_pixel c pixels left ∷ row_pixel c pixels (left + 1) ∷ []

-- the pixels of a whole pair's block, by whether the blocks have two rows
abbrev pub pair_pixels : YuvChromaSubsampling → YuvSourceChannels → List ℕ → List ℕ → Bool → ℕ → List Pixel
pair_pixels s c top low two pair = row_tiles c top low (paired s) two (left_of s pair)
