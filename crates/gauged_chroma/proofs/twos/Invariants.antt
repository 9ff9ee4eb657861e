use mathlib.Core.List.{[], ◌∷◌}
use Prim.Native.Nat.{ℕ, ◌+◌, ◌*◌, ◌/◌}
use Rattle.fractions.specs.Sums.{sums_of}
use Rattle.frames.specs.Rows.{row_pixel}
use Rattle.gauges.specs.Prefixes.{Passed}
use Rattle.gauged_chroma.specs.Pairing.{pair_near}
use Rattle.gauged_chroma.proofs.twos.Given as goal

abbrev pub invariant-loop-pair : goal.invariant-loop-pair
invariant-loop-pair l = Passed (λ (x : ℕ). pair_near l.ruler (sums_of (row_pixel l.ruler.channels l.top (2 * x) ∷ row_pixel l.ruler.channels l.top (2 * x + 1) ∷ [])) l.chroma x) (l.width / 2) l.pair
