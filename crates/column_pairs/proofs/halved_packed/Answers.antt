-- `column_pairs::halved_packed` meets its contract.
use Rattle.column_pairs.proofs.Twice.{written_once}
use Rattle.column_pairs.proofs.halved_packed.Goals as goal

pub returns-in-Yuv420 : goal.returns-in-Yuv420
returns-in-Yuv420 c =
    let v = c.args in
    written_once v.s v.w v.width v.rgba.now c.block_loop.ensures
