use Rattle.row_bounds.specs.Bounds.{BoundsBelow}
use Rattle.row_bounds.proofs.every_element.Given as goal

abbrev pub invariant-loop-i : goal.invariant-loop-i
invariant-loop-i l = BoundsBelow l.bound 3 l.a l.b l.c l.e l.i
