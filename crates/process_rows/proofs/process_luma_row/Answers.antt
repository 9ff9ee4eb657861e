-- `process_rows::process_luma_row` meets its contract.
use Rattle.plane_laws.proofs.Tables.{row_written}
use Rattle.process_rows.proofs.process_luma_row.Goals as goal

pub returns : goal.returns
returns c = row_written _ _ _ _ _ _ c.requires.width_bound.1 c.luma_columns.ensures c.last_luma.ensures
