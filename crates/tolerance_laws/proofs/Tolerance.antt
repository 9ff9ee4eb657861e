-- THE TOLERANCE: by weights that refusal 4 lets pass, every code that is not negative is within the tolerance of its exact fraction.
-- Nothing is asked of how the weights were worked out. Assumes nothing.
use mathlib.Core.Path.{◌≡◌, subst}
use mathlib.Core.Bool.{Bool, true, false, ◌&&◌}
use mathlib.Core.List.{List, [], ◌∷◌}
use Prim.Native.Nat.{ℕ, ◌-◌, ◌*◌}
use lib.Dec.{T}
use lib.IntN.{pos}
use lib.Signed.{le_z}
use Rattle.rules.specs.declared.Pixel.{Pixel}
use Rattle.rules.specs.declared.Named.{Named}
use Rattle.rules.specs.declared.Weights.{Weights}
use Rattle.rules.specs.Weights.{luma_row}
use Rattle.rules.specs.Sample.{signed_code, code}
use Rattle.rules.specs.Blocks.{averaged}
use Rattle.rules.specs.Settle.{all_near}
use Rattle.rules.specs.Fractions.{Fraction, exact_luma, halves, within}
use Rattle.rule_laws.specs.Codes.{Low}
use Rattle.tolerance_laws.specs.Block.{Block}
use Rattle.tolerance_laws.specs.Chroma.{chroma_row, own_k, exact_chroma}
use Rattle.tolerance_laws.specs.NearAll.{NearAll}
use Rattle.integer_laws.proofs.Tests.{both}
use Rattle.tolerance_laws.proofs.Rows.{near_row, pixel_within, block_within}
use Rattle.tolerance_laws.proofs.Factors.{luma_factors, luma_exact, chroma_factors, chroma_slight, chroma_exact}

-- refusal 4's test, row by row
abbrev luma_near : ℕ → Named → ℕ → ℕ → Weights → Bool
luma_near P k m y w = near_row P (10000 * m) (luma_row w) (luma_factors k y)

abbrev chroma_near : Bool → ℕ → Named → ℕ → ℕ → Weights → Bool
chroma_near u P k m uv w = near_row P (2 * (10000 - own_k u k) * m) (chroma_row u w) (chroma_factors u k uv)

module _ {P : ℕ} {k : Named} {m y uv : ℕ} {w : Weights} (n : NearAll P k m y uv w) where
  rows_near : (luma_near P k m y w ≡ true) × ((chroma_near true P k m uv w && chroma_near false P k m uv w) ≡ true)
  unfolding all_near
  rows_near = both _ _ n.near

  chroma_near_lem : (u : Bool) → chroma_near u P k m uv w ≡ true
  chroma_near_lem true = (both _ _ rows_near.1).0
  chroma_near_lem false = (both (chroma_near true P k m uv w) _ rows_near.1).1

  -- luma of one pixel
  pub luma_within : (bias : ℕ) {p : Pixel} → Low m p → T (le_z (pos 0) (signed_code P bias (luma_row w) p)) →
      within P m 1 (exact_luma k m bias y (p ∷ [])) (code P bias (luma_row w) p) ≡ true
  luma_within bias {p} l t =
      subst (λ (x : Fraction). within P m 1 x (code P bias (luma_row w) p) ≡ true) (luma_exact k m bias y p)
      (pixel_within P m (10000 * m) (luma_row w) (luma_factors k y) n.some rows_near.0 bias p l t)

  -- Cb or Cr of one, two or four pixels
  pub chroma_within : (u : Bool) (bias : ℕ) {b : List Pixel} → Block m b → T (le_z (pos 0) (signed_code P bias (chroma_row u w) (averaged b))) →
      within P m (halves b) (exact_chroma u k m bias uv b) (code P bias (chroma_row u w) (averaged b)) ≡ true
  chroma_within u bias {b} l t =
      subst (λ (x : Fraction). within P m (halves b) x (code P bias (chroma_row u w) (averaged b)) ≡ true) (chroma_exact k n.whole uv m bias b u)
      (block_within P m (2 * (10000 - own_k u k) * m) (chroma_row u w) (chroma_factors u k uv) n.some (chroma_near_lem u) bias
      (chroma_slight k n.whole uv u m n.narrow) l t)
