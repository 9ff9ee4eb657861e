-- The words of a luma row and of a chroma row before the bytes are exchanged. Definitions only.
use Rattle.std.specs.Prelude.{ℕ, ◌/◌, Bool, List}
use Rattle.rules.specs.declared.Settings.{Settings}
use Rattle.rules.specs.declared.Weights.{Weights}
use Rattle.rules.specs.declared.Pixel.{Pixel}
use Rattle.joined_codes.specs.Packed.{packed_luma, packed_chroma}
use Rattle.frames.specs.Rows.{row_pixel}
use Rattle.last_column.specs.Words.{pair_mean}

-- element x of a luma row, and element k of a chroma row, from rows of pixels
abbrev pub packed_luma_at : Settings → Weights → (ℕ → Pixel) → ℕ → ℕ
packed_luma_at s w p x = packed_luma s w (p x)

unfoldable pub packed_chroma_at : Settings → Weights → ℕ → Bool → (ℕ → Pixel) → (ℕ → Pixel) → ℕ → ℕ
packed_chroma_at s w width two t u k = packed_chroma s w k (pair_mean s.subsampling width two t u (k / 2))

-- the same from row parts of the source
abbrev pub packed_luma_row : Settings → Weights → List ℕ → ℕ → ℕ
packed_luma_row s w part = packed_luma_at s w (row_pixel s.channels part)

abbrev pub packed_chroma_row : Settings → Weights → ℕ → Bool → List ℕ → List ℕ → ℕ → ℕ
packed_chroma_row s w width two upper lower = packed_chroma_at s w width two (row_pixel s.channels upper) (row_pixel s.channels lower)
