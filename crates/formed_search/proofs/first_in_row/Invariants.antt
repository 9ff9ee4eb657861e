use Rattle.std.proofs.Common.{None}
use mathlib.Core.Path.{◌≡◌}
use lib.ListN.{get_or}
use Rattle.rules.specs.Search.{first_below, failing}
use Rattle.formed_rows.specs.Formed.{is_formed}
use Rattle.formed_search.proofs.first_in_row.Given as goal

abbrev pub invariant-loop-element : goal.invariant-loop-element
invariant-loop-element l = first_below l.element (λ e. failing (is_formed l.s (get_or l.part e 0)) l.row e) ≡ None
