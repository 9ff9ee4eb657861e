use mathlib.Core.Bool.{true}
use Prim.Native.Nat.{◌*◌}
use Rattle.plane_laws.specs.Rows.{Begun}
use Rattle.packed_store.specs.Packed.{packed_luma_row, packed_chroma_row}
use Rattle.packed_blocks.proofs.block_loop.Given as goal

abbrev pub invariant-loop-block : goal.invariant-loop-block
invariant-loop-block l = Begun (2 * l.block) (packed_luma_row l.s l.w l.upper) l.initial.luma l.luma × Begun (2 * l.block) (packed_chroma_row l.s l.w l.width true l.upper l.lower) l.initial.chroma l.chroma
