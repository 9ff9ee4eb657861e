-- `lent_rows::lend_row` meets its contract.
use mathlib.Core.Path.{◌∙◌}
use Prim.Native.Nat.{◌+◌, ◌*◌, ◌≤◌, ◌<◌}
use native.Mathlib.Nat.{add-sub_cancel_left}
use native.Mathlib.Omega.{arith}
use lib.ListN.{length}
use Rattle.blocks.proofs.Tiles.{second_below}
use Rattle.frames.proofs.Places.{convertible}
use Rattle.lent_rows.proofs.Turns.{top_in, next_in, chroma_in, second_shown, luma_one, chroma_one}
use Rattle.lent_rows.proofs.lend_row.Goals as goal
use Rattle.lent_rows.proofs.lend_row.Goals.{After-chroma_width, After-second, After-slice_known-2-1}

-- the luma row lies in its plane, whose bytes are counted by a usize
record Luma (c : After-slice_known-2-1) : Type 0 where
  inside : c.args.top * c.args.f.luma_stride + c.args.f.width ≤ length c.args.luma.now
  bytes : (c.args.top * c.args.f.luma_stride + c.args.f.width) * 2 ≤ 18446744073709551615

luma : (c : After-slice_known-2-1) → Luma c
luma c =
    let l = c.requires.ready.laid.luma.fits c.args.top (top_in c.requires.turn) in
    record { inside = l; bytes = omega arith }

chroma_bytes : (c : After-slice_known-2-1) → length c.args.chroma.now * 2 ≤ 18446744073709551615
chroma_bytes c = omega arith

second_in : (c : After-second) → c.second.result < c.args.f.height
second_in c = second_below c.args.two c.args.top c.args.f.height c.second.ensures (top_in c.requires.turn) (next_in c.requires.turn)

-- and so does the chroma row
record Chroma (c : After-chroma_width) : Type 0 where
  inside : c.args.row * c.args.f.chroma_stride + c.chroma_width.result ≤ length c.args.chroma.now
  bytes : (c.args.row * c.args.f.chroma_stride + c.chroma_width.result) * 2 ≤ 18446744073709551615

chroma : (c : After-chroma_width) → Chroma c
chroma c =
    let l = chroma_in c.requires.ready c.requires.turn c.chroma_width.ensures in
    record { inside = l; bytes = omega (arith, l, chroma_bytes (goal.at.After-chroma_width c).After-slice_known-2-1) }

pub process_row-requires-clause-convertible : goal.process_row-requires-clause-convertible
process_row-requires-clause-convertible c =
    let v = c.args in
    let ready = c.requires.ready in
    let turn = c.requires.turn in (convertible ready (top_in turn) c.source_row-upper.ensures, convertible ready (second_in (goal.at.process_row-requires-clause-convertible c).After-second) c.source_row-lower.ensures)

pub returns-clause-luma_grows : goal.returns-clause-luma_grows
returns-clause-luma_grows c =
    let v = c.args in
    let ready = c.requires.ready in
    let turn = c.requires.turn in
    let shown = c.source_row-upper.ensures.shows in luma_one v.s v.w v.f _ v.top _ _ v.luma.now _ ready.laid.luma (top_in turn) shown (add-sub_cancel_left (v.top * v.f.luma_stride) v.f.width) c.process_row.ensures.luma_after

pub returns-clause-chroma_grows : goal.returns-clause-chroma_grows
returns-clause-chroma_grows c =
    let v = c.args in
    let ready = c.requires.ready in
    let turn = c.requires.turn in
    let shown = c.source_row-upper.ensures.shows in chroma_one v.s v.w v.f _ v.row v.top _ v.two _ _ v.chroma.now _ ready.laid.chroma turn shown
    (λ e. second_shown v.two v.top c.second.ensures e c.source_row-lower.ensures.shows)
    (add-sub_cancel_left (v.row * v.f.chroma_stride) c.chroma_width.result ∙ c.chroma_width.ensures) c.process_row.ensures.chroma_after
