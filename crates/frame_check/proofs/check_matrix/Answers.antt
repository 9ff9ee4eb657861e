-- `frame_check::check_matrix` meets its contract.
use mathlib.Core.Path.{sym, ap, ◌∙◌}
use Rattle.rules.specs.Check.{is_custom, judgement}
use Rattle.rule_laws.proofs.Refusals.{stopped, skipped}
use Rattle.rule_laws.proofs.Answers.{by_refusing}
use Rattle.check_laws.proofs.Joined.{carried}
use Rattle.frame_check.proofs.check_matrix.Goals as goal

pub returns-in-Own : goal.returns-in-Own
returns-in-Own c =
    let v = c.args in
    by_refusing (judgement v.s v.f v.source.now v.luma.now v.chroma.now) (stopped _ _ _ (ap is_custom (sym c.requires.matrix_value ∙ c.in-Own.is)))

pub returns-in-Tabled : goal.returns-in-Tabled
returns-in-Tabled c =
    let v = c.args in
    carried (judgement v.s v.f v.source.now v.luma.now v.chroma.now) (sym (skipped _ _ _ (ap is_custom (sym c.requires.matrix_value ∙ c.in-Tabled.is)))) c.check_named.ensures
