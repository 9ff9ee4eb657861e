use Prim.Native.Nat.{ℕ, ◌*◌, ◌<◌}
use Rattle.rules.specs.Frames.{window}
use Rattle.frames.specs.Rows.{LowRow}
use Rattle.scan.proofs.rows_low.Given as goal

abbrev pub invariant-loop-four : goal.invariant-loop-four
invariant-loop-four l = (k : ℕ) → k < 4 * l.four → k < l.f.height → LowRow l.m (window l.channels l.f l.source k) l.f.width
