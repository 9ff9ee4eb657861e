-- `process_rows::process_row` meets its contract.
use mathlib.Core.Path.{refl, sym, ◌∙◌}
use mathlib.Core.Bool.{false, true≢false}
use Rattle.rules.specs.Blocks.{chroma_width}
use Rattle.rules.specs.Planes.{tabulate}
use Rattle.plane_laws.proofs.Tables.{tabulate_ext}
use Rattle.frames.specs.Rows.{row_pixel}
use Rattle.last_column.specs.Words.{chroma_words}
use Rattle.last_column.proofs.Tiles.{element_ext}
use Rattle.process_rows.proofs.process_row.Goals as goal

pub returns-clause-chroma_after : goal.returns-clause-chroma_after
returns-clause-chroma_after c =
    let v = c.args in
    let h = c.process_halved_row.ensures in
    let t = row_pixel v.s.channels v.upper.now in
    let u = row_pixel v.s.channels v.lower.now in h.chroma_after
    ∙ tabulate_ext (chroma_width v.s.subsampling v.width) _ _ (element_ext v.s v.w v.width false t t t u (λ x l. refl) (λ g. absurd (true≢false (sym g))))
    ∙ (λ i. tabulate (chroma_width v.s.subsampling v.width) (chroma_words v.s v.w v.width (sym c.if-two.false i) v.upper.now v.lower.now))
