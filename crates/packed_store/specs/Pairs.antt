-- Rows of both planes of which all columns but an odd last one are written. Definitions and statements only.
use Rattle.std.specs.Prelude.{ℕ, Bool, List}
use Rattle.rules.specs.declared.Settings.{Settings}
use Rattle.rules.specs.declared.Weights.{Weights}
use Rattle.rules.specs.declared.YuvChromaSubsampling.{YuvChromaSubsampling}
use Rattle.plane_laws.specs.Rows.{Begun}
use Rattle.last_column.specs.Columns.{even_columns, even_elements}
use Rattle.packed_store.specs.Packed.{packed_luma_row, packed_chroma_row}

-- all columns but an odd last one are replaced, in luma by f's elements and in chroma by g's
pub record PairsWritten (o : YuvChromaSubsampling) (width : ℕ) (f g : ℕ → ℕ) (luma luma' chroma chroma' : List ℕ) : Type 0 where
  pub in_luma_lem : Begun (even_columns width) f luma luma'
  pub in_chroma_lem : Begun (even_elements o width) g chroma chroma'

-- the words before their bytes are exchanged: luma's of the upper source row, chroma's of that row alone or of two
abbrev pub PackedWritten : Settings → Weights → ℕ → Bool → List ℕ → List ℕ → List ℕ → List ℕ → List ℕ → List ℕ → Type 0
PackedWritten s w width two upper lower luma luma' chroma chroma' =
    PairsWritten s.subsampling width (packed_luma_row s w upper) (packed_chroma_row s w width two upper lower) luma luma' chroma chroma'
