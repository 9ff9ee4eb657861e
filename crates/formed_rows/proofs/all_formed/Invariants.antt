use mathlib.Core.Path.{◌≡◌}
use mathlib.Core.Bool.{◌&&◌}
use lib.ListN.{drop}
use Rattle.formed_rows.specs.Formed.{all_formed}
use Rattle.formed_rows.proofs.all_formed.Given as goal

abbrev pub invariant-loop-word : goal.invariant-loop-word
invariant-loop-word l = (l.formed && all_formed l.s (drop l.word-index l.part)) ≡ all_formed l.s l.part
