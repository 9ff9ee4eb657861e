use Rattle.std.proofs.Common.{None}
use mathlib.Core.Path.{◌≡◌}
use lib.Dec.{leb}
use Rattle.rules.specs.Search.{first_below, failing}
use Rattle.row_search.specs.RowSamples.{sample_of}
use Rattle.row_search.proofs.first_high.Given as goal

abbrev pub invariant-loop-element : goal.invariant-loop-element
invariant-loop-element l = first_below l.element (λ n. failing (leb (sample_of l.channels l.part n) l.m) l.row n) ≡ None
