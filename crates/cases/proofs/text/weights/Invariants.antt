use Rattle.std.proofs.Common.{◌≡◌}
use Rattle.cases.proofs.text.weights.Given as goal

abbrev pub invariant-loop-weight : goal.invariant-loop-weight
invariant-loop-weight l = l.printed ≡ l.weight-index
