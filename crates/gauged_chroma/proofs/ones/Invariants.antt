use mathlib.Core.List.{[], ◌∷◌}
use Prim.Native.Nat.{ℕ, ◌-◌}
use Rattle.fractions.specs.Sums.{sums_of}
use Rattle.frames.specs.Rows.{row_pixel}
use Rattle.gauges.specs.Prefixes.{Passed}
use Rattle.gauged_chroma.specs.Pairing.{pair_near}
use Rattle.gauged_chroma.proofs.ones.Given as goal

abbrev pub invariant-loop-pair : goal.invariant-loop-pair
invariant-loop-pair l = Passed (λ (x : ℕ). pair_near l.ruler (sums_of (row_pixel l.ruler.channels l.top x ∷ [])) l.chroma x) l.width l.pair

abbrev pub decreases-loop-pair : goal.decreases-loop-pair
decreases-loop-pair l = l.width - l.pair
