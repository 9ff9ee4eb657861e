-- `restored_frame::lend_row` meets its contract.
use mathlib.Core.Path.{◌≡◌, ap, ◌∙◌, subst}
use Prim.Native.Nat.{ℕ, ◌*◌}
use native.Mathlib.Nat.{add-sub_cancel_left}
use Rattle.rules.specs.Channels.{count}
use Rattle.rules.specs.Blocks.{chroma_row_over}
use Rattle.rules.specs.Planes.{tabulate}
use Rattle.plane_laws.proofs.Tables.{tabulate_ext}
use Rattle.frames.specs.Rows.{PlaneRow}
use Rattle.frames.proofs.Grown.{row_put}
use Rattle.restoring_weights.specs.declared.RestoringWeights.{RestoringWeights}
use Rattle.restoring_weights.specs.RestoringWeights.{SmallWeights}
use Rattle.restored_rows.specs.Columns.{row_by}
use Rattle.restored_frame.specs.Restorable.{restored_row}
use Rattle.restored_frame.proofs.Rows.{row_is}
use Rattle.restored_frame.proofs.lend_row.Goals as goal
use Rattle.restored_frame.proofs.lend_row.Goals.{After-get_channels_count}

-- the elements of a row, by the count that was worked out
wide_is : (c : After-get_channels_count) → let v = c.args in v.f.width * c.get_channels_count.result ≡ v.f.width * count v.s.channels
wide_is c = ap (λ (n : ℕ). c.args.f.width * n) c.get_channels_count.ensures

pub returns : goal.returns
returns c =
    let v = c.args in
    let wide = v.f.width * count v.s.channels in
    let y = c.plane_row-y in
    let u = c.plane_row-c in
    let over = subst (λ (n : ℕ). PlaneRow v.f.chroma_stride n v.chroma.now (chroma_row_over v.s.subsampling v.row) u.result.now) c.chroma_width-wide.ensures
    (subst (λ (n : ℕ). PlaneRow v.f.chroma_stride c.chroma_width-wide.result v.chroma.now n u.result.now) c.chroma_row-over.ensures u.ensures) in
    row_put v.f.source_stride wide v.f.height v.row _ (restored_row v.s v.w v.f v.luma.now v.chroma.now) v.rest.now _ c.requires.readable.1 c.requires.row_lt_height
    (add-sub_cancel_left (v.row * v.f.source_stride) (v.f.width * c.get_channels_count.result) ∙ wide_is (goal.at.returns c).After-get_channels_count)
    (c.restore_row.ensures
    ∙ ap (λ (r : RestoringWeights). tabulate wide (row_by v.s r y.result.now u.result.now)) c.requires.reach.2
    ∙ tabulate_ext wide _ _ (row_is v.s c.requires.reach.0 v.w v.f v.luma.now v.chroma.now c.requires.readable.0 (subst SmallWeights c.requires.reach.2 c.requires.reach.3) v.row c.requires.row_lt_height y.result.now u.result.now y.ensures over))
