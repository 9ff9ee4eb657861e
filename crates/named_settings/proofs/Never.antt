-- Refusal 4 is never given. Assumes nothing.
use mathlib.Core.Path.{◌≡◌, refl, sym, ap, ◌∙◌}
use mathlib.Core.Bool.{false, not}
use mathlib.Core.List.{List}
use Prim.Native.Nat.{◌≤◌}
use lib.IntN.{ℤ}
use Rattle.rules.specs.declared.Settings.{Settings}
use Rattle.rules.specs.declared.Matrix.{Matrix}
use Rattle.rules.specs.declared.Matrix.TheVariants.{Tabled, Own}
use Rattle.rules.specs.Ranges.{most, y_range, uv_range}
use Rattle.rules.specs.Matrices.{matrix_of}
use Rattle.rules.specs.Weights.{pair_of, forward, integers, weights_of}
use Rattle.rules.specs.Answers.{refused}
use Rattle.rules.specs.Refusals.{outside}
use Rattle.rules.specs.Settle.{pair_off, weight_off, some_code_off, settle}
use Rattle.rule_laws.proofs.Refusals.{skipped, reached, ended, bounds}
use Rattle.rule_laws.proofs.Settling.{refused_refuses}
use Rattle.rule_laws.proofs.EveryNamed.{RowPasses, each_passes}
use Rattle.named_weights.proofs.Computed.{one, passes}

-- ---- the theorem

module _ (s : Settings) (shallow : 10 ≤ s.depth) (deep : s.depth ≤ 16) (coarse : 1 ≤ s.precision) (fine : s.precision ≤ 13) where
  by_matrix : (m : Matrix) → RowPasses one m → weight_off s m (integers s.precision (forward (most s.depth) (y_range s.range s.depth) (uv_range s.range s.depth) (pair_of m))) ≡ false
  unfolding one
  by_matrix (Tabled k) h = ap not (each_passes one s.depth s.precision shallow deep coarse fine k s.range h)
  by_matrix (Own p) h = refl

  pub not_off : weight_off s (matrix_of s.matrix) (weights_of s) ≡ false
  unfolding weights_of
  not_off = by_matrix (matrix_of s.matrix) (passes s.matrix)

-- THE THEOREM: no settings, and so no named ones, get refusal 4
pub never : (s : Settings) (v : List ℤ) → refused 4 v ≡ settle s → ⊥
never s v e =
    let l1 = reached 1 (outside 10 16 s.depth) _ 4 v refl (refused_refuses s 4 v e) in
    let l2 = reached 2 (outside 1 13 s.precision) _ 4 v refl l1.1 in
    let l3 = reached 3 (pair_off (matrix_of s.matrix)) _ 4 v refl l2.1 in
    let d = bounds 10 16 s.depth l1.0 in
    let p = bounds 1 13 s.precision l2.0 in
    let l4 = sym (skipped 4 _ _ (not_off s d.0 d.1 p.0 p.1)) ∙ l3.1 in
    let l5 = reached 5 (some_code_off s (weights_of s)) _ 4 v refl l4 in
    ended 4 v l5.1
