use mathlib.Core.Bool.{false}
use Prim.Native.Nat.{◌*◌}
use Rattle.plane_laws.specs.Rows.{Begun}
use Rattle.packed_store.specs.Packed.{packed_luma_row, packed_chroma_row}
use Rattle.packed_rows.proofs.paired_loop.Given as goal

abbrev pub invariant-loop-pair : goal.invariant-loop-pair
invariant-loop-pair l = Begun (2 * l.pair) (packed_luma_row l.s l.w l.rgba) l.initial.luma l.luma × Begun (2 * l.pair) (packed_chroma_row l.s l.w l.width false l.rgba l.rgba) l.initial.chroma l.chroma
