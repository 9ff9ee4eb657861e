use Rattle.std.proofs.Common.{None}
use mathlib.Core.Path.{◌≡◌}
use Rattle.rules.specs.Search.{first_below}
use Rattle.formed_search.proofs.RowSearch.{in_row}
use Rattle.formed_search.proofs.first_malformed.Given as goal

abbrev pub invariant-loop-row : goal.invariant-loop-row
invariant-loop-row l = first_below l.row (in_row l.s l.stride l.wide l.words) ≡ None
