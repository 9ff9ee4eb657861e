-- `frame_check::check` meets its contract, for every input.
use Rattle.std.proofs.lemmas.Result.{err_from_is_err_and}
use mathlib.Core.Path.{sym}
use Rattle.rules.specs.Settle.{settle_lines}
use Rattle.rules.specs.Check.{judgement, check}
use Rattle.rule_laws.proofs.Refusals.{passed_on, refused_before}
use Rattle.rule_laws.proofs.Answers.{by_refusing}
use Rattle.rule_laws.proofs.Settling.{weighed_passes, refused_refuses}
use Rattle.check_laws.proofs.Joined.{carried}
use Rattle.frame_check.proofs.check.Goals as goal

pub returns-in_err-settle : goal.returns-in_err-settle
unfolding check
returns-in_err-settle c =
    let v = c.args in
    let p = err_from_is_err_and c.from_residual.result c.from_residual.ensures.1 in
    rw (p.1, p.2)
    (by_refusing (judgement v.s v.f v.source.now v.luma.now v.chroma.now)
    (refused_before (settle_lines v.s) _ (refused_refuses v.s _ _ c.in_err-settle.ensures.exact)))

pub returns : goal.returns
unfolding check
returns c =
    let v = c.args in
    carried (judgement v.s v.f v.source.now v.luma.now v.chroma.now)
    (sym (passed_on (settle_lines v.s) _ (weighed_passes v.s _ c.in_ok-settle.ensures.exact).0)) c.check_matrix.ensures
