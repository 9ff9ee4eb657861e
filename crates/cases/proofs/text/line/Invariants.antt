use Rattle.std.proofs.Common.{◌≡◌}
use Rattle.cases.proofs.text.line.Given as goal

abbrev pub invariant-loop-n : goal.invariant-loop-n
invariant-loop-n l = l.printed ≡ l.n-index
