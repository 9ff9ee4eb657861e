-- `restored_frame::restore_rows` meets its contract: the rows passed are written.
use Rattle.plane_laws.proofs.Planes.{plane_none}
use Rattle.restored_frame.proofs.restore_rows.Goals as goal

pub loop-row-init : goal.loop-row-init
loop-row-init c = plane_none _ _ _ _
