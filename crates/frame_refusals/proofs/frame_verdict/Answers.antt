-- `frame_refusals::frame_verdict` meets its contract.
use Rattle.std.proofs.lemmas.Result.{err_from_is_err_and}
use mathlib.Core.Path.{◌≡◌, sym, ap, ◌∙◌}
use lib.ListN.{length}
use Rattle.rules.specs.Refusals.{first, line_of}
use Rattle.rules.specs.Frames.{layout_lines, frame_lines}
use Rattle.rule_laws.proofs.Refusals.{alone, passed_on, refused_before}
use Rattle.frames.proofs.Tests.{clear}
use Rattle.frame_refusals.proofs.frame_verdict.Goals as goal
use Rattle.frame_refusals.proofs.frame_verdict.Goals.{After-samples_verdict}

pub returns-in_err-layout_verdict-clause-exact : goal.returns-in_err-layout_verdict-clause-exact
returns-in_err-layout_verdict-clause-exact c =
    let v = c.args in
    let p = err_from_is_err_and c.from_residual.result c.from_residual.ensures.1 in
    rw (p.1, p.2) (sym (refused_before (layout_lines v.s v.f (length v.source.now) v.luma v.chroma) _ (sym c.in_err-layout_verdict.ensures.exact)))

-- what the lines come to, where those before refusal 10 pass
last_line : (c : After-samples_verdict) → let v = c.args in line_of c.samples_verdict.result ≡ first (frame_lines v.s v.f v.source.now v.luma v.chroma)
last_line c =
    let v = c.args in
    c.samples_verdict.ensures
    ∙ sym (passed_on (layout_lines v.s v.f (length v.source.now) v.luma v.chroma) _ (sym c.layout_verdict.ensures.exact ∙ ap line_of c.in_ok-layout_verdict.was) ∙ alone _)

pub returns-clause-exact : goal.returns-clause-exact
returns-clause-exact c = last_line (goal.at.returns-clause-exact c).After-samples_verdict

pub returns-clause-clear : goal.returns-clause-clear
returns-clause-clear c =
    let v = c.args in
    clear v.s v.f v.source.now v.luma v.chroma c.samples_verdict.result (last_line (goal.at.returns-clause-clear c).After-samples_verdict)
