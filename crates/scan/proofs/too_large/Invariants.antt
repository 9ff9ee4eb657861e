use Rattle.std.proofs.Common.{None}
use mathlib.Core.Path.{◌≡◌}
use Rattle.rules.specs.Search.{first_below}
use Rattle.rules.specs.Frames.{window}
use Rattle.scan.specs.RowSearch.{search_row}
use Rattle.scan.proofs.too_large.Given as goal

abbrev pub invariant-loop-row : goal.invariant-loop-row
invariant-loop-row l = first_below l.row (search_row l.m l.f (window l.channels l.f l.source)) ≡ None
