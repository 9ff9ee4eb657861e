-- `sample_check::row::chroma_at` meets its contract.
use lib.ListN.{get_or}
use Rattle.sample_check.proofs.Rows.{element_is}
use Rattle.sample_check.proofs.row.chroma_at.Goals as goal

pub returns : goal.returns
returns c =
    let a = c.args in
    element_is a.judge.settings a.judge.named a.width a.two a.top.now a.low.now a.e (get_or a.chroma.now a.e 0) c.is_u.ensures c.tile-t.ensures c.chroma_right.ensures
