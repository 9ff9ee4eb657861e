-- `nv_p16_to_rgb::to_rgb` meets its contract.
use Rattle.std.proofs.lemmas.Result.{err_from_is_err_and}
use Rattle.rule_laws.proofs.Answers.{converted_by_line}
use Rattle.nv_p16_to_rgb.proofs.Verdicts.{refused_settings, settled}
use Rattle.nv_p16_to_rgb.proofs.to_rgb.Goals as goal

pub returns-in_err-settle-clause-answer : goal.returns-in_err-settle-clause-answer
returns-in_err-settle-clause-answer c =
    let v = c.args in
    let p = err_from_is_err_and c.from_residual.result c.from_residual.ensures.1 in
    rw (p.1, p.2) (refused_settings v.s v.f v.luma.now v.chroma.now v.rgb.now _ _ c.in_err-settle.ensures.exact).0

pub returns-in_err-settle-clause-rgb : goal.returns-in_err-settle-clause-rgb
returns-in_err-settle-clause-rgb c =
    let v = c.args in
    (refused_settings v.s v.f v.luma.now v.chroma.now v.rgb.now _ _ c.in_err-settle.ensures.exact).1

pub returns : goal.returns
returns c =
    let v = c.args in
    let e = c.restore_matrix.ensures in
    let o = settled v.s v.f v.luma.now v.chroma.now v.rgb.now _ c.in_ok-settle.ensures.exact (converted_by_line c.restore_matrix.result) e.verdict e.rgb in
    record { answer = o.0; rgb = o.1 }
