-- `nv_p16_to_rgb::restore_matrix` meets its contract.
use mathlib.Core.Path.{sym, ap, ◌∙◌}
use Rattle.rules.specs.Check.{is_custom}
use Rattle.rule_laws.proofs.Refusals.{stopped, skipped}
use Rattle.nv_p16_to_rgb.proofs.restore_matrix.Goals as goal

pub returns-in-Own-clause-verdict : goal.returns-in-Own-clause-verdict
returns-in-Own-clause-verdict c =
    sym (stopped _ _ _ (ap is_custom (sym c.requires.1 ∙ c.in-Own.is)))

pub returns-in-Tabled-clause-verdict : goal.returns-in-Tabled-clause-verdict
returns-in-Tabled-clause-verdict c =
    let e = c.restore_named.ensures in
    e.verdict ∙ sym (skipped _ _ _ (ap is_custom (sym c.requires.1 ∙ c.in-Tabled.is)))
