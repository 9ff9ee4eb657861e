-- `last_column::column_mean` meets its contract.
use mathlib.Core.Path.{refl}
use Rattle.last_column.proofs.Tiles.{alone}
use Rattle.last_column.proofs.column_mean.Goals as goal

pub returns : goal.returns
returns c = alone _ _ _ _ _ refl c.if-two.false c.row_pixel-p.ensures
