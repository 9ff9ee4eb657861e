-- `row_check::passed::chroma_passed` meets its contract.
use mathlib.Core.Path.{sym, ◌∙◌}
use Rattle.formed_rows.proofs.Formed.{all_formed_iff}
use Rattle.row_check.proofs.Runs.{row_right}
use Rattle.row_check.proofs.passed.chroma_passed.Goals as goal

pub returns : goal.returns
returns c =
    let a = c.args in
    row_right a.judge.settings a.judge.named a.judge.limits c.args.judge.limits_of a.width a.two a.top.now a.low.now a.chroma.now ((all_formed_iff a.judge.settings a.chroma.now).0 (sym c.all_formed.ensures ∙ c.if-not-all_formed.false)) c.requires.width_bound.1
    c.ruler_of-ruler.result c.chroma_run.result c.ruler_of-ruler.ensures.0 c.chroma_run.ensures
