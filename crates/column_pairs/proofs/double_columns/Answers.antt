-- `column_pairs::double_columns` meets its contract.
use mathlib.Core.Bool.{true}
use Rattle.frames.specs.Rows.{row_pixel}
use Rattle.column_pairs.proofs.Exchanges.{luma_exchanged, chroma_exchanged, pairs_exchanged}
use Rattle.column_pairs.proofs.double_columns.Goals as goal

pub returns : goal.returns
returns c =
    let v = c.args in
    let t = row_pixel v.s.channels v.upper.now in
    let u = row_pixel v.s.channels v.lower.now in
    pairs_exchanged v.s (luma_exchanged v.s v.w t) (chroma_exchanged v.s v.w v.width true t u) c.block_loop.ensures c.exchange_columns.ensures
