-- `column_pairs::luma_columns` meets its contract.
use Rattle.frames.specs.Rows.{row_pixel}
use Rattle.column_pairs.proofs.Exchanges.{luma_exchanged, begun_exchanged}
use Rattle.column_pairs.proofs.luma_columns.Goals as goal

pub returns : goal.returns
returns c =
    let v = c.args in
    begun_exchanged c.luma_loop.ensures c.exchange.ensures (luma_exchanged v.s v.w (row_pixel v.s.channels v.rgba.now))
