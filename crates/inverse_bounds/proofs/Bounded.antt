-- The five weights of named settings are 0 to 4·2^P. Assumes nothing.
use mathlib.Core.Path.{◌≡◌, refl, sym, subst}
use mathlib.Core.Bool.{true, false, true≢false}
use Prim.Native.Nat.{ℕ, ◌*◌, ◌^◌}
use lib.IntN.{ℤ, pos, negsuc}
use borrow.Author.Tests.{leb-true}
use Rattle.rules.specs.declared.Settings.{Settings}
use Rattle.rules.specs.declared.Named.{Named}
use Rattle.rules.specs.declared.InverseWeights.{InverseWeights}
use Rattle.rules.specs.declared.Matrix.{Matrix}
use Rattle.rules.specs.declared.Matrix.TheVariants.{Tabled}
use Rattle.rules.specs.Ranges.{most, y_range, uv_range}
use Rattle.rules.specs.Matrices.{matrix_of}
use Rattle.rules.specs.Weights.{pair_of}
use Rattle.rules.specs.Inverse.{backward, inverse_integers, inverse_weights_of}
use Rattle.integer_laws.proofs.Tests.{both}
use Rattle.rule_laws.specs.Signs.{SignedWithin}
use Rattle.rule_laws.specs.Usable.{Reach}
use Rattle.rule_laws.proofs.EveryNamed.{RowPasses, each_passes}
use Rattle.inverse_bounds.specs.Bounds.{InverseWithin}
use Rattle.inverse_bounds.proofs.Computed.{up_to, all_up_to, one, passes}

within : (b : ℕ) (z : ℤ) → up_to b z ≡ true → SignedWithin false b z
within b (pos n) h = record { sign = refl; size = leb-true n b h }
within b (negsuc n) h = absurd (true≢false (sym h))

all_within : (b : ℕ) (w : InverseWeights) → all_up_to b w ≡ true → InverseWithin b w
all_within b w h =
    let y = both (up_to b w.y_coef) _ h in
    let r = both (up_to b w.cr_coef) _ y.1 in
    let u = both (up_to b w.cb_coef) _ r.1 in
    let g = both (up_to b w.g_coeff_1) (up_to b w.g_coeff_2) u.1 in
    record {
      luma = within b w.y_coef y.0;
      cr = within b w.cr_coef r.0;
      cb = within b w.cb_coef u.0;
      green_cr = within b w.g_coeff_1 g.0;
      green_cb = within b w.g_coeff_2 g.1;
    }

module _ (s : Settings) (r : Reach s) (k : Named) where
  abbrev weights_by : Matrix → InverseWeights
  weights_by m = inverse_integers s.precision (backward (most s.depth) (y_range s.range s.depth) (uv_range s.range s.depth) (pair_of m))

  by_row : RowPasses one (Tabled k) → InverseWithin (4 * 2 ^ s.precision) (weights_by (Tabled k))
  unfolding one
  by_row h = all_within (4 * 2 ^ s.precision) (weights_by (Tabled k)) (each_passes one s.depth s.precision r.shallow r.deep r.coarse r.fine k s.range h)

  pub inverse_within : matrix_of s.matrix ≡ Tabled k → InverseWithin (4 * 2 ^ s.precision) (inverse_weights_of s)
  unfolding inverse_weights_of
  inverse_within e =
      subst (λ (m : Matrix). InverseWithin (4 * 2 ^ s.precision) (weights_by m)) (sym e) (by_row (subst (RowPasses one) e (passes s.matrix)))
