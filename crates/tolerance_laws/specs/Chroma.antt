-- Cb and Cr as one: a chroma sample's weights and exact value, by whether it is a U. Definitions only.
use Rattle.std.specs.Prelude.{ℕ, Bool, cond, List}
use Rattle.rules.specs.declared.Pixel.{Pixel}
use Rattle.rules.specs.declared.Named.{Named}
use Rattle.rules.specs.declared.Triple.{Triple}
use Rattle.rules.specs.declared.Weights.{Weights}
use Rattle.rules.specs.Weights.{cb_row, cr_row}
use Rattle.rules.specs.Fractions.{Fraction, exact_cb, exact_cr}

-- Cb's weights, or Cr's
abbrev pub chroma_row : Bool → Weights → Triple
chroma_row u w = cond u (cb_row w) (cr_row w)

-- the K of the channel's own: blue's for Cb, red's for Cr
abbrev pub own_k : Bool → Named → ℕ
own_k u k = cond u k.kb k.kr

-- exact Cb, or exact Cr
abbrev pub exact_chroma : Bool → Named → ℕ → ℕ → ℕ → List Pixel → Fraction
exact_chroma u k m bias range b = cond u (exact_cb k m bias range b) (exact_cr k m bias range b)
