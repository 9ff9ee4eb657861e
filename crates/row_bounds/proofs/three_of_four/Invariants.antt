use Rattle.std.proofs.Common.{◌*◌}
use Rattle.row_bounds.specs.Bounds.{BoundsBelow}
use Rattle.row_bounds.proofs.three_of_four.Given as goal

abbrev pub invariant-loop-pixel : goal.invariant-loop-pixel
invariant-loop-pixel l = BoundsBelow l.bound 4 l.a l.b l.c l.e (4 * l.pixel)
