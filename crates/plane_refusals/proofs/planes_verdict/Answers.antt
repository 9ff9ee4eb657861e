-- `plane_refusals::planes_verdict` meets its contract.
use Rattle.std.proofs.lemmas.Result.{err_from_is_err_and}
use mathlib.Core.Path.{sym, ap, ◌∙◌}
use mathlib.Core.List.{List}
use lib.ListN.{length}
use Rattle.rules.specs.Refusals.{Line, line_of}
use Rattle.rules.specs.Frames.{layout_lines}
use Rattle.rules.specs.ToRgb.{malformed, malformed_line}
use Rattle.rule_laws.proofs.Refusals.{alone, passed_on, refused_before}
use Rattle.plane_refusals.proofs.planes_verdict.Goals as goal
use Rattle.plane_refusals.proofs.planes_verdict.Goals.{Start}

-- the lines of 7, 12, 8 and 9, and that of 13
abbrev layout : Start → List Line
layout a = let v = a.args in layout_lines v.s v.f v.rgb (length v.luma.now) (length v.chroma.now)

abbrev formed : Start → Line
formed a = let v = a.args in malformed_line (malformed v.s v.f v.luma.now v.chroma.now)

pub returns-in_err-layout_verdict-clause-exact : goal.returns-in_err-layout_verdict-clause-exact
returns-in_err-layout_verdict-clause-exact c =
    let p = err_from_is_err_and c.from_residual.result c.from_residual.ensures.1 in
    rw (p.1, p.2) (sym (refused_before (layout (goal.at.returns-in_err-layout_verdict-clause-exact c).Start) _ (sym c.in_err-layout_verdict.ensures.exact)))

-- 13 decides where the first four pass
pub returns-clause-exact : goal.returns-clause-exact
returns-clause-exact c =
    let a = (goal.at.returns-clause-exact c).Start in
    c.formed_verdict.ensures ∙ sym (passed_on (layout a) _ (sym c.layout_verdict.ensures.exact ∙ ap line_of c.in_ok-layout_verdict.was) ∙ alone (formed a))
