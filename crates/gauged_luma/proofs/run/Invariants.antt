use mathlib.Core.List.{[], ◌∷◌}
use Prim.Native.Nat.{ℕ}
use lib.ListN.{get_or}
use Rattle.rules.specs.Storage.{exchanged}
use Rattle.fractions.specs.Sums.{sums_of}
use Rattle.frames.specs.Rows.{row_pixel}
use Rattle.gauges.specs.Gauges.{luma_near}
use Rattle.gauges.specs.Prefixes.{Passed}
use Rattle.gauged_luma.proofs.run.Given as goal

abbrev pub invariant-loop-e : goal.invariant-loop-e
invariant-loop-e l = Passed (λ (x : ℕ). luma_near l.g l.h (sums_of (row_pixel l.channels l.pixels x ∷ [])) (exchanged l.endianness (get_or l.luma x 0))) l.width l.e
