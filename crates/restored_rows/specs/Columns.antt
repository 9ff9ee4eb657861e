-- A row of pixels from a row of luma and a row of chroma, as the elements stand in the buffer. Definitions and statements only.
use Rattle.std.specs.Prelude.{ℕ, ◌+◌, ◌*◌, ◌/◌, ◌%◌, ◌≤◌, ◌≡◌, cond, List, get_or, set}
use Rattle.rules.specs.declared.Settings.{Settings}
use Rattle.rules.specs.declared.Pixel.{Pixel}
use Rattle.rules.specs.declared.YuvSourceChannels.{YuvSourceChannels}
use Rattle.rules.specs.declared.YuvSourceChannels.TheVariants.{Rgb}
use Rattle.rules.specs.Ranges.{most}
use Rattle.rules.specs.Channels.{count, has_alpha}
use Rattle.rules.specs.Blocks.{pair_over, chroma_width}
use Rattle.rules.specs.Storage.{exchanged}
use Rattle.rules.specs.ToRgb.{pixel_element}
use Rattle.restoring_weights.specs.declared.RestoringWeights.{RestoringWeights}
use Rattle.restored_pixels.specs.declared.ChromaTerms.{ChromaTerms}
use Rattle.restored_pixels.specs.Terms.{chroma_terms, pixel_by}

-- a word of a row part, its bytes in order
abbrev pub word_in : Settings → List ℕ → ℕ → ℕ
word_in s part i = exchanged s.endianness (get_or part i 0)

-- the terms of the chroma pair that starts at an element
abbrev pub terms_in : Settings → RestoringWeights → List ℕ → ℕ → ChromaTerms
terms_in s r chroma k = chroma_terms r (word_in s chroma (k + r.first.at)) (word_in s chroma (k + r.third.at))

abbrev pub column_pixel : Settings → RestoringWeights → List ℕ → List ℕ → ℕ → Pixel
column_pixel s r luma chroma x = pixel_by (most s.depth) r (word_in s luma x) (terms_in s r chroma (2 * pair_over s.subsampling x))

-- element i of the row; the weights stand in the buffer's order, so the pixels are written as if that were Rgb
unfoldable pub row_by : Settings → RestoringWeights → List ℕ → List ℕ → ℕ → ℕ
row_by s r luma chroma i = pixel_element Rgb (most s.depth) (column_pixel s r luma chroma (i / count s.channels)) (i % count s.channels)

-- ---- one pixel put into a row

abbrev pub put_three : List ℕ → ℕ → Pixel → List ℕ
put_three xs at p = set (set (set xs at p.red) (at + 1) p.green) (at + 2) p.blue

abbrev pub put_pixel : YuvSourceChannels → ℕ → List ℕ → ℕ → Pixel → List ℕ
put_pixel c m xs at p = cond (has_alpha c) (set (put_three xs at p) (at + 3) m) (put_three xs at p)

abbrev pub put_column : Settings → List ℕ → ℕ → Pixel → List ℕ
put_column s xs x p = put_pixel s.channels (most s.depth) xs (x * count s.channels) p

-- the lengths of the three row parts
pub record RowsFit (s : Settings) (width luma chroma rgb : ℕ) : Type 0 where
  pub narrow : width ≤ 16384
  pub luma_long : luma ≡ width
  pub chroma_long : chroma ≡ chroma_width s.subsampling width
  pub rgb_long : rgb ≡ width * count s.channels
