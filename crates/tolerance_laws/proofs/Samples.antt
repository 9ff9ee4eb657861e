-- The word and the exact value of a sample, for luma by its pixel, for chroma by whether it is a U. Assumes nothing.
use mathlib.Core.Path.{◌≡◌, refl, ap}
use mathlib.Core.Bool.{Bool, true, false, cond}
use mathlib.Core.List.{List, [], ◌∷◌}
use Rattle.rules.specs.declared.Settings.{Settings}
use Rattle.rules.specs.declared.Named.{Named}
use Rattle.rules.specs.declared.Weights.{Weights}
use Rattle.rules.specs.declared.Pixel.{Pixel}
use Rattle.rules.specs.declared.Component.TheVariants.{Y, Cb, Cr}
use Rattle.rules.specs.Ranges.{most, y_bias, uv_bias, uv_range}
use Rattle.rules.specs.Weights.{luma_row}
use Rattle.rules.specs.Blocks.{averaged}
use Rattle.rules.specs.Convert.{word_of, sample_word}
use Rattle.rules.specs.Check.{exact_of}
use Rattle.tolerance_laws.specs.Chroma.{chroma_row, exact_chroma}
use Rattle.tolerance_laws.proofs.Means.{averaged_one}

-- "Luma never averages": the mean of one pixel is the pixel
pub luma_word_is : (s : Settings) (w : Weights) (p : Pixel) →
    sample_word s w (record { component = Y; pixels = p ∷ [] }) ≡ word_of s (y_bias s.range s.depth) (luma_row w) p
unfolding sample_word
luma_word_is s w p = ap (word_of s (y_bias s.range s.depth) (luma_row w)) (averaged_one p)

pub chroma_word_is : (s : Settings) (w : Weights) (u : Bool) (b : List Pixel) →
    sample_word s w (record { component = cond u Cb Cr; pixels = b }) ≡ word_of s (uv_bias s.depth) (chroma_row u w) (averaged b)
unfolding sample_word
chroma_word_is s w true b = refl
chroma_word_is s w false b = refl

pub chroma_exact_is : (s : Settings) (k : Named) (u : Bool) (b : List Pixel) →
    exact_of s k (cond u Cb Cr) b ≡ exact_chroma u k (most s.depth) (uv_bias s.depth) (uv_range s.range s.depth) b
chroma_exact_is s k true b = refl
chroma_exact_is s k false b = refl
