-- `scan::rows_low` meets its contract: no colour sample of the rows passed exceeds m.
use Prim.Native.Nat.{◌*◌, ◌≤◌, ◌<◌}
use mathlib.Core.Logic.{⊎_elim}
use native.Mathlib.Omega.{arith}
use Rattle.plane_laws.proofs.Tests.{lt_or_le}
use Rattle.row_search.proofs.Lows.{row_less}
use Rattle.scan.proofs.rows_low.Goals as goal

pub loop-four-preserved : goal.loop-four-preserved
loop-four-preserved c =
    let o = c.loop-four in
    let four = c.bound_from.ensures in
    λ k l h. ⊎_elim (λ (p : k < 4 * o.four). o.invariant k p h) (λ (p : 4 * o.four ≤ k). row_less (omega (arith, c.from.ensures, c.if-from-bound_from.false)) (four.low k p (omega (arith, l)) h)) (lt_or_le k (4 * o.four))
