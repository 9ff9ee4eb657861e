use mathlib.Core.Bool.{true}
use Prim.Native.Nat.{ℕ, ◌*◌, ◌/◌}
use Rattle.blocks.specs.Tiles.{tiles}
use Rattle.fractions.specs.Sums.{sums_of}
use Rattle.frames.specs.Rows.{row_pixel}
use Rattle.gauges.specs.Prefixes.{Passed}
use Rattle.gauged_chroma.specs.Pairing.{pair_near}
use Rattle.gauged_chroma.proofs.fours.Given as goal

abbrev pub invariant-loop-pair : goal.invariant-loop-pair
invariant-loop-pair l = Passed (λ (x : ℕ). pair_near l.ruler (sums_of (tiles true true (row_pixel l.ruler.channels l.top) (row_pixel l.ruler.channels l.low) (2 * x))) l.chroma x) (l.width / 2) l.pair
