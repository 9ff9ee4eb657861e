-- `rgb_to_nv_p16::convert` meets its contract, for every input.
use Rattle.std.proofs.lemmas.Result.{err_from_is_err_and}
use Rattle.rule_laws.proofs.Answers.{converted_by_line}
use Rattle.rgb_to_nv_p16.proofs.Verdicts.{refused_settings, answered}
use Rattle.rgb_to_nv_p16.proofs.convert.Goals as goal

pub returns-in_err-w-clause-answer : goal.returns-in_err-w-clause-answer
returns-in_err-w-clause-answer c =
    let v = c.args in
    let p = err_from_is_err_and c.from_residual.result c.from_residual.ensures.1 in
    rw (p.1, p.2) (refused_settings v.s v.f v.source.now v.luma.now v.chroma.now _ _ c.in_err-w.ensures.exact).0

pub returns-in_err-w-clause-luma : goal.returns-in_err-w-clause-luma
returns-in_err-w-clause-luma c =
    let v = c.args in
    (refused_settings v.s v.f v.source.now v.luma.now v.chroma.now _ _ c.in_err-w.ensures.exact).1.0

pub returns-in_err-w-clause-chroma : goal.returns-in_err-w-clause-chroma
returns-in_err-w-clause-chroma c =
    let v = c.args in
    (refused_settings v.s v.f v.source.now v.luma.now v.chroma.now _ _ c.in_err-w.ensures.exact).1.1

pub returns-clause-answer : goal.returns-clause-answer
returns-clause-answer c =
    let v = c.args in
    answered v.s v.f v.source.now v.luma.now v.chroma.now (converted_by_line c.convert_settled.result) c.convert_settled.ensures.verdict
