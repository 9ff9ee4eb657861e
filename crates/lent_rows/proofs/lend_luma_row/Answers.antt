-- `lent_rows::lend_luma_row` meets its contract.
use Prim.Native.Nat.{◌*◌}
use native.Mathlib.Nat.{add-sub_cancel_left}
use Rattle.frames.proofs.Places.{convertible}
use Rattle.lent_rows.proofs.Turns.{luma_one}
use Rattle.lent_rows.proofs.lend_luma_row.Goals as goal

pub process_luma_row-requires-clause-convertible : goal.process_luma_row-requires-clause-convertible
process_luma_row-requires-clause-convertible c =
    let v = c.args in
    let ready = c.requires.ready.0 in
    convertible ready c.requires.ready.1 c.source_row-rgba.ensures

pub returns : goal.returns
returns c =
    let v = c.args in
    luma_one v.s v.w v.f _ v.row _ _ v.luma.now _ c.requires.ready.0.laid.luma c.requires.ready.1 c.source_row-rgba.ensures.shows (add-sub_cancel_left (v.row * v.f.luma_stride) v.f.width) c.process_luma_row.ensures
