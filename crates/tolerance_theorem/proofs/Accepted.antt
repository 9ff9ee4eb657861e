-- THE THEOREM that carries demand 3: for any named settings that settle accepts and any source pixels at most m, the code of the
-- sample rule lies within the tolerance of the exact fraction, for luma and for Cb and Cr of one, two and four pixels. Of the
-- weights it uses only what refusal 4 tested, and not the float steps. Assumes nothing.
use mathlib.Core.Path.{◌≡◌, sym, subst}
use mathlib.Core.Bool.{Bool, true, false}
use mathlib.Core.List.{List, [], ◌∷◌}
use lib.Dec.{T}
use lib.IntN.{pos}
use lib.Ieee.{binary32, fits}
use lib.Ieee.Fits.{round-fits}
use lib.Signed.{le_z}
use Rattle.rules.specs.declared.Settings.{Settings}
use Rattle.rules.specs.declared.YuvStandardMatrix.{YuvStandardMatrix}
use Rattle.rules.specs.declared.Named.{Named}
use Rattle.rules.specs.declared.Matrix.{Matrix}
use Rattle.rules.specs.declared.Matrix.TheVariants.{Tabled}
use Rattle.rules.specs.declared.Weights.{Weights}
use Rattle.rules.specs.declared.Pixel.{Pixel}
use Rattle.rules.specs.Ranges.{most, y_bias, uv_bias, y_range, uv_range}
use Rattle.rules.specs.Matrices.{matrix_of}
use Rattle.rules.specs.Weights.{pair_of, luma_row}
use Rattle.rules.specs.Sample.{signed_code, code}
use Rattle.rules.specs.Blocks.{averaged}
use Rattle.rules.specs.Answers.{given, weight_values}
use Rattle.rules.specs.Settle.{weight_off, settle}
use Rattle.rules.specs.Fractions.{exact_luma, halves, within}
use Rattle.rule_laws.specs.Codes.{Low}
use Rattle.rule_laws.specs.Usable.{Usable}
use Rattle.tolerance_laws.specs.Block.{Block}
use Rattle.tolerance_laws.specs.Chroma.{chroma_row, exact_chroma}
use Rattle.tolerance_laws.specs.NearAll.{NearAll}
use Rattle.tolerance_laws.proofs.Means.{averaged_low}
use Rattle.tolerance_laws.proofs.Named.{named_near}
use Rattle.tolerance_laws.proofs.Tolerance.{luma_within, chroma_within}
use Rattle.weights.specs.Held.{Held}
use Rattle.settle.proofs.Verdicts.{passed}
use Rattle.settle.proofs.Weighed.{usable}

-- the floats of a row of the table are rounded, and so 32-bit floats
held : (m : YuvStandardMatrix) (k : Named) → matrix_of m ≡ Tabled k → Held m
held m k e =
    record {
      kr = subst (λ (x : Matrix). T (fits binary32 (pair_of x).kr)) (sym e) (round-fits binary32 false k.kr 10000);
      kb = subst (λ (x : Matrix). T (fits binary32 (pair_of x).kb)) (sym e) (round-fits binary32 false k.kb 10000);
    }

module _ (s : Settings) (k : Named) (w : Weights) (named : matrix_of s.matrix ≡ Tabled k) (accepted : given (weight_values w) ≡ settle s) where
  near : NearAll s.precision k (most s.depth) (y_range s.range s.depth) (uv_range s.range s.depth) w
  near =
      let p = passed s w accepted in
      named_near s w named p.0.shallow p.0.coarse (subst (λ (v : Weights). weight_off s (matrix_of s.matrix) v ≡ false) p.1 p.0.near)

  -- what settle hands out for a named matrix is usable
  pub good : Usable s w
  good = usable s w (held s.matrix k named) accepted

  chroma_low : (u : Bool) (p : Pixel) → Low (most s.depth) p → T (le_z (pos 0) (signed_code s.precision (uv_bias s.depth) (chroma_row u w) p))
  chroma_low true p l = (good.cb_coded p l).low
  chroma_low false p l = (good.cr_coded p l).low

  pub luma : {p : Pixel} → Low (most s.depth) p
      → within s.precision (most s.depth) 1 (exact_luma k (most s.depth) (y_bias s.range s.depth) (y_range s.range s.depth) (p ∷ [])) (code s.precision (y_bias s.range s.depth) (luma_row w) p) ≡ true
  luma {p} l = luma_within near (y_bias s.range s.depth) l (good.luma_coded p l).low

  -- Cb where u is true, Cr where it is false
  pub chroma : (u : Bool) {b : List Pixel} → Block (most s.depth) b
      → within s.precision (most s.depth) (halves b) (exact_chroma u k (most s.depth) (uv_bias s.depth) (uv_range s.range s.depth) b) (code s.precision (uv_bias s.depth) (chroma_row u w) (averaged b)) ≡ true
  chroma u {b} l = chroma_within near u (uv_bias s.depth) l (chroma_low u (averaged b) (averaged_low l))
