-- `process_rows::process_double_row` meets its contract.
use Rattle.plane_laws.proofs.Tables.{row_written}
use Rattle.process_rows.proofs.process_double_row.Goals as goal

pub returns-clause-luma_after : goal.returns-clause-luma_after
returns-clause-luma_after c =
    row_written _ _ _ _ _ _ c.requires.row_lengths.luma_long c.double_columns.ensures.in_luma_lem c.last_luma.ensures

pub returns-clause-chroma_after : goal.returns-clause-chroma_after
returns-clause-chroma_after c =
    row_written _ _ _ _ _ _ c.requires.row_lengths.chroma_long c.double_columns.ensures.in_chroma_lem c.last_pair.ensures
