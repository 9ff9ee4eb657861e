-- `restored_rows::Restorer::second_terms` meets its contract.
use mathlib.Core.Path.{sym, ap, ◌∙◌}
use Rattle.restored_rows.specs.Columns.{terms_in}
use Rattle.restored_rows.proofs.Pairs.{shared}
use Rattle.restored_rows.proofs.Restorer.second_terms.Goals as goal

pub returns-then-paired-clause-exact : goal.returns-then-paired-clause-exact
returns-then-paired-clause-exact c =
    let v = c.args in
    c.requires.terms_value.0 ∙ ap (terms_in v.self.settings v.self.weights v.chroma.now) (shared v.self.settings.subsampling v.x c.requires.x_bound.1 (sym c.paired.ensures ∙ c.if-paired.true))
