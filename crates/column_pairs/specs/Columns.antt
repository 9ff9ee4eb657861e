-- Rows of both planes of which all columns but an odd last one are as they are stored. Definitions and statements only.
use Rattle.std.specs.Prelude.{ℕ, Bool, List}
use Rattle.rules.specs.declared.Settings.{Settings}
use Rattle.rules.specs.declared.Weights.{Weights}
use Rattle.last_column.specs.Words.{luma_words, chroma_words}
use Rattle.last_column.specs.Columns.{even_columns, even_elements}
use Rattle.byte_exchange.specs.Exchanged.{Exchanged}
use Rattle.packed_store.specs.Pairs.{PairsWritten}

-- they are replaced by the words of the rules: luma's of the upper source row, chroma's of that row alone or of two
abbrev pub ColumnsWritten : Settings → Weights → ℕ → Bool → List ℕ → List ℕ → List ℕ → List ℕ → List ℕ → List ℕ → Type 0
ColumnsWritten s w width two upper lower luma luma' chroma chroma' =
    PairsWritten s.subsampling width (luma_words s w upper) (chroma_words s w width two upper lower) luma luma' chroma chroma'

-- their bytes are exchanged
pub record ColumnsExchanged (s : Settings) (width : ℕ) (luma luma' chroma chroma' : List ℕ) : Type 0 where
  pub in_luma_lem : Exchanged s.endianness (even_columns width) luma luma'
  pub in_chroma_lem : Exchanged s.endianness (even_elements s.subsampling width) chroma chroma'
