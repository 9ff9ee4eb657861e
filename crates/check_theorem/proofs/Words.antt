-- The words that convert writes are right. Assumes nothing.
use mathlib.Core.Path.{◌≡◌, ap, ◌∙◌}
use mathlib.Core.Bool.{Bool, true, ◌&&◌, cond}
use mathlib.Core.List.{List, [], ◌∷◌}
use Prim.Native.Nat.{ℕ, ◌≤◌}
use lib.IntN.{pos}
use Rattle.rules.specs.declared.Settings.{Settings}
use Rattle.rules.specs.declared.Named.{Named}
use Rattle.rules.specs.declared.Matrix.TheVariants.{Tabled}
use Rattle.rules.specs.declared.Weights.{Weights}
use Rattle.rules.specs.declared.Pixel.{Pixel}
use Rattle.rules.specs.declared.Triple.{Triple}
use Rattle.rules.specs.Ranges.{most, y_bias, uv_bias, y_range, uv_range}
use Rattle.rules.specs.Matrices.{matrix_of}
use Rattle.rules.specs.Weights.{luma_row}
use Rattle.rules.specs.Sample.{signed_code, code}
use Rattle.rules.specs.Blocks.{averaged}
use Rattle.rules.specs.Fractions.{Fraction, exact_luma, halves, within}
use Rattle.rules.specs.Answers.{given, weight_values}
use Rattle.rules.specs.Settle.{settle}
use Rattle.rules.specs.declared.Component.TheVariants.{Y, Cb, Cr}
use Rattle.rules.specs.PlaneSamples.{Sample}
use Rattle.rules.specs.Storage.{well_formed, stored}
use Rattle.rules.specs.Convert.{word_of, sample_word}
use Rattle.rules.specs.Check.{right}
use Rattle.rule_laws.specs.Codes.{Low, Between}
use Rattle.rule_laws.specs.Usable.{Usable}
use Rattle.tolerance_laws.specs.Block.{Block}
use Rattle.tolerance_laws.specs.Chroma.{chroma_row, exact_chroma}
use Rattle.tolerance_laws.proofs.Means.{averaged_low}
use Rattle.tolerance_laws.proofs.Samples.{luma_word_is, chroma_word_is, chroma_exact_is}
use Rattle.tolerance_theorem.proofs.Accepted as tolerance
use Rattle.samples.proofs.Codes.{size, chroma_coded}
use Rattle.storage.proofs.Words.{reads_back, word_formed}

-- the word of a code from 0 to m that is within the tolerance is right
right_word : (s : Settings) (bias h : ℕ) (w : Triple) (p : Pixel) (x : Fraction) → s.depth ≤ 16 → Between (pos 0) (pos (most s.depth)) (signed_code s.precision bias w p) →
    within s.precision (most s.depth) h x (code s.precision bias w p) ≡ true →
    well_formed s.packing s.endianness s.depth (word_of s bias w p) && within s.precision (most s.depth) h x (stored s.packing s.endianness s.depth (word_of s bias w p)) ≡ true
unfolding word_of code
right_word s bias h w p x deep b e =
    let m = most s.depth in
    let c = code s.precision bias w p in
    let l : c ≤ m = size m (signed_code s.precision bias w p) b in
    let formed = word_formed s.packing s.endianness s.depth deep l in
    let back = reads_back s.packing s.endianness s.depth deep l in
    (λ i. formed i && within s.precision m h x (back i)) ∙ e

module _ (s : Settings) (k : Named) (w : Weights) (named : matrix_of s.matrix ≡ Tabled k) (accepted : given (weight_values w) ≡ settle s) where
  usable : Usable s w
  usable = tolerance.good s k w named accepted

  pub luma_right : {p : Pixel} → Low (most s.depth) p → let x : Sample = record { component = Y; pixels = p ∷ [] } in right s k x (sample_word s w x) ≡ true
  luma_right {p} l =
      ap (right s k (record { component = Y; pixels = p ∷ [] })) (luma_word_is s w p)
      ∙ right_word s (y_bias s.range s.depth) 1 (luma_row w) p
      (exact_luma k (most s.depth) (y_bias s.range s.depth) (y_range s.range s.depth) (p ∷ [])) usable.reach.deep (usable.luma_coded p l) (tolerance.luma s k w named accepted l)

  -- Cb where u is true, Cr where it is false
  pub chroma_right : (u : Bool) {b : List Pixel} → Block (most s.depth) b → let x : Sample = record { component = cond u Cb Cr; pixels = b } in right s k x (sample_word s w x) ≡ true
  chroma_right u {b} l =
      (λ i. well_formed s.packing s.endianness s.depth (chroma_word_is s w u b i)
      && within s.precision (most s.depth) (halves b) (chroma_exact_is s k u b i) (stored s.packing s.endianness s.depth (chroma_word_is s w u b i)))
      ∙ right_word s (uv_bias s.depth) (halves b) (chroma_row u w) (averaged b)
      (exact_chroma u k (most s.depth) (uv_bias s.depth) (uv_range s.range s.depth) b) usable.reach.deep
      (chroma_coded s w u usable (averaged b) (averaged_low l)) (tolerance.chroma s k w named accepted u l)
