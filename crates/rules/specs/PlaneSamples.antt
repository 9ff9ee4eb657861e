-- Document 01, "One sample" and "Rows and lengths": what the sample at a plane, a row and an element is made of. Definitions only.
use Rattle.std.specs.Prelude.{ℕ, zero, suc, ◌/◌, cond, List, [], ◌∷◌}
use Rattle.rules.specs.declared.Settings.{Settings}
use Rattle.rules.specs.declared.Frame.{Frame}
use Rattle.rules.specs.declared.Pixel.{Pixel}
use Rattle.rules.specs.declared.Triple.{Triple}
use Rattle.rules.specs.declared.Weights.{Weights}
use Rattle.rules.specs.declared.Component.{Component}
use Rattle.rules.specs.declared.Component.TheVariants.{Y, Cb, Cr}
use Rattle.rules.specs.Ranges.{y_bias, uv_bias}
use Rattle.rules.specs.Channels.{is_u, Picture}
use Rattle.rules.specs.Weights.{luma_row, cb_row, cr_row}
use Rattle.rules.specs.Blocks.{block}

-- a sample: its component, and the pixels that it is made of
pub record Sample : Type 0 where
  pub component : Component
  pub pixels : List Pixel

-- "Luma never averages"
abbrev pub luma_sample : Picture → ℕ → ℕ → Sample
luma_sample px row column = record { component = Y; pixels = px row column ∷ [] }

-- "UV puts U first; VU puts V first": a U is a Cb, a V a Cr
abbrev pub chroma_sample : Settings → ℕ → ℕ → Picture → ℕ → ℕ → Sample
chroma_sample s width height px row element =
    record { component = cond (is_u s.order element) Cb Cr; pixels = block s.subsampling width height px row (element / 2) }

-- "Luma is plane 0, chroma plane 1"
abbrev pub sample_at : Settings → Frame → Picture → ℕ → ℕ → ℕ → Sample
sample_at s f px zero row element = luma_sample px row element
sample_at s f px (suc n) row element = chroma_sample s f.width f.height px row element

-- ---- by its component

abbrev pub bias_of : Settings → Component → ℕ
bias_of s Y = y_bias s.range s.depth
bias_of s Cb = uv_bias s.depth
bias_of s Cr = uv_bias s.depth

abbrev pub row_of : Weights → Component → Triple
row_of w Y = luma_row w
row_of w Cb = cb_row w
row_of w Cr = cr_row w
