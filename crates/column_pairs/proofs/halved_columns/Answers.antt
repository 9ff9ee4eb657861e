-- `column_pairs::halved_columns` meets its contract.
use mathlib.Core.Bool.{false}
use Rattle.frames.specs.Rows.{row_pixel}
use Rattle.column_pairs.proofs.Exchanges.{luma_exchanged, chroma_exchanged, pairs_exchanged}
use Rattle.column_pairs.proofs.halved_columns.Goals as goal

pub returns : goal.returns
returns c =
    let v = c.args in
    let t = row_pixel v.s.channels v.rgba.now in
    pairs_exchanged v.s (luma_exchanged v.s v.w t) (chroma_exchanged v.s v.w v.width false t t) c.halved_packed.ensures c.exchange_columns.ensures
