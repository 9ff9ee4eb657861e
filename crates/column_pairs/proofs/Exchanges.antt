-- Packed words with their bytes exchanged are the words of the rules. Assumes nothing.
use mathlib.Core.Path.{◌≡◌, refl, ap, ◌∙◌}
use mathlib.Core.Bool.{Bool}
use mathlib.Core.List.{List}
use Prim.Native.Nat.{ℕ, ◌≤◌}
use native.Mathlib.Omega.{arith}
use Rattle.rules.specs.declared.Settings.{Settings}
use Rattle.rules.specs.declared.Weights.{Weights}
use Rattle.rules.specs.declared.Pixel.{Pixel}
use Rattle.rules.specs.declared.YuvEndianness.{YuvEndianness}
use Rattle.rules.specs.declared.YuvChromaSubsampling.{YuvChromaSubsampling}
use Rattle.rules.specs.declared.YuvChromaSubsampling.TheVariants.{Yuv420, Yuv422, Yuv444}
use Rattle.rules.specs.Blocks.{chroma_width}
use Rattle.rules.specs.Storage.{exchanged, word}
use Rattle.rules.specs.Convert.{word_of}
use Rattle.plane_laws.specs.Rows.{Begun}
use Rattle.last_column.specs.Words.{luma_element, chroma_element}
use Rattle.last_column.specs.Columns.{even_elements}
use Rattle.byte_exchange.specs.Exchanged.{Exchanged}
use Rattle.packed_store.specs.Packed.{packed_luma_at, packed_chroma_at}
use Rattle.packed_store.specs.Pairs.{PairsWritten}
use Rattle.column_pairs.specs.Columns.{ColumnsExchanged}

-- element by element
pub luma_exchanged : (s : Settings) (w : Weights) (t : ℕ → Pixel) (k : ℕ) → exchanged s.endianness (packed_luma_at s w t k) ≡ luma_element s w t k
unfolding word_of word
luma_exchanged s w t k = refl

pub chroma_exchanged : (s : Settings) (w : Weights) (width : ℕ) (two : Bool) (t u : ℕ → Pixel) (k : ℕ) → exchanged s.endianness (packed_chroma_at s w width two t u k) ≡ chroma_element s w width two t u k
unfolding packed_chroma_at chroma_element word_of word
chroma_exchanged s w width two t u k = refl

-- elements that were written, exchanged
pub begun_exchanged : {e : YuvEndianness} {n : ℕ} {f g : ℕ → ℕ} {old y z : List ℕ} → Begun n f old y → Exchanged e n y z → ((k : ℕ) → exchanged e (f k) ≡ g k) → Begun n g old z
begun_exchanged {e} b x same =
    record {
      within = b.within;
      long = x.long ∙ b.long;
      done = λ k h. x.inside k h ∙ ap (exchanged e) (b.done k h) ∙ same k;
      kept = λ k h. x.after k h ∙ b.kept k h;
    }

pub pairs_exchanged : (s : Settings) {width : ℕ} {f g f' g' : ℕ → ℕ} {luma luma₁ luma₂ chroma chroma₁ chroma₂ : List ℕ}
    → ((k : ℕ) → exchanged s.endianness (f k) ≡ f' k) → ((k : ℕ) → exchanged s.endianness (g k) ≡ g' k)
    → PairsWritten s.subsampling width f g luma luma₁ chroma chroma₁ → ColumnsExchanged s width luma₁ luma₂ chroma₁ chroma₂
    → PairsWritten s.subsampling width f' g' luma luma₂ chroma chroma₂
pairs_exchanged s ef eg p x = record { in_luma_lem = begun_exchanged p.in_luma_lem x.in_luma_lem ef; in_chroma_lem = begun_exchanged p.in_chroma_lem x.in_chroma_lem eg }

-- the elements over those columns lie in a chroma row
pub elements_in : (o : YuvChromaSubsampling) (width : ℕ) → even_elements o width ≤ chroma_width o width
elements_in Yuv420 width = omega arith
elements_in Yuv422 width = omega arith
elements_in Yuv444 width = omega arith
