-- `rgb_to_nv_p16::convert_settled` meets its contract, for every input.
use Rattle.std.proofs.lemmas.Result.{err_from_is_err_and}
use Rattle.rgb_to_nv_p16.proofs.Verdicts.{refused_frame, passed_frame}
use Rattle.rgb_to_nv_p16.proofs.convert_settled.Goals as goal

pub returns-in_err-frame_verdict-clause-verdict : goal.returns-in_err-frame_verdict-clause-verdict
returns-in_err-frame_verdict-clause-verdict c =
    let v = c.args in
    let p = err_from_is_err_and c.from_residual.result c.from_residual.ensures.1 in
    rw (p.1, p.2) (refused_frame v.s v.f v.source.now v.luma.now v.chroma.now v.w c.requires.by_settle _ c.in_err-frame_verdict.ensures.exact).0

pub returns-in_err-frame_verdict-clause-luma : goal.returns-in_err-frame_verdict-clause-luma
returns-in_err-frame_verdict-clause-luma c =
    let v = c.args in
    (refused_frame v.s v.f v.source.now v.luma.now v.chroma.now v.w c.requires.by_settle _ c.in_err-frame_verdict.ensures.exact).1.0

pub returns-in_err-frame_verdict-clause-chroma : goal.returns-in_err-frame_verdict-clause-chroma
returns-in_err-frame_verdict-clause-chroma c =
    let v = c.args in
    (refused_frame v.s v.f v.source.now v.luma.now v.chroma.now v.w c.requires.by_settle _ c.in_err-frame_verdict.ensures.exact).1.1

pub returns : goal.returns
returns c =
    let v = c.args in
    let e = c.convert_rows.ensures in
    let o = passed_frame v.s v.f v.source.now v.luma.now v.chroma.now v.w c.requires.by_settle c.in_ok-frame_verdict.ensures.exact e.luma_after e.chroma_after in
    record { verdict = o.0; luma = o.1.0; chroma = o.1.1 }
