use mathlib.Core.Path.{◌≡◌}
use Prim.Native.Nat.{◌-◌, ◌*◌, ◌%◌, ◌≤◌}
use lib.ListN.{length}
use Rattle.plane_laws.specs.Rows.{Begun}
use Rattle.packed_store.specs.Packed.{packed_luma_row}
use Rattle.packed_blocks.proofs.luma_loop.Given as goal

abbrev pub invariant-loop-i : goal.invariant-loop-i
invariant-loop-i l = ((l.i ≡ l.x * l.n) × (l.i ≤ length l.rgba) × (l.x % 2 ≡ 0)) × Begun l.x (packed_luma_row l.s l.w l.rgba) l.initial.luma l.luma

abbrev pub decreases-loop-i : goal.decreases-loop-i
decreases-loop-i l = length l.rgba - l.i
