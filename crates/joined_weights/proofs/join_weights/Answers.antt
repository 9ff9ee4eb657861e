-- `joined_weights::join_weights` meets its contract.
use mathlib.Core.Path.{◌∙◌}
use Rattle.integer_laws.proofs.Machine.{back32, got}
use Rattle.joined_weights.specs.JoinedWeights.{join}
use Rattle.joined_weights.proofs.Products.{weights_eq}
use Rattle.joined_weights.proofs.join_weights.Goals as goal

pub returns : goal.returns
returns c =
    let v = c.args in
    let one = c.join in
    let two = c.join-2 in
    let three = c.join-3 in
    let four = c.join-4 in
    let a = c.struct_told-5-1.given in
    let b = c.struct_told-6-1.given in
    weights_eq
    (got one.result one.type_inv (one.ensures ∙ (λ i. join (back32 v.sa c.ranges.sa i) (back32 v.sb c.ranges.sb i))))
    (got two.result two.type_inv (two.ensures ∙ (λ i. join (back32 v.a.red (record { sfits = a.0.1 }) i) (back32 v.b.red (record { sfits = b.0.1 }) i))))
    (got three.result three.type_inv (three.ensures ∙ (λ i. join (back32 v.a.green (record { sfits = a.1.0.1 }) i) (back32 v.b.green (record { sfits = b.1.0.1 }) i))))
    (got four.result four.type_inv (four.ensures ∙ (λ i. join (back32 v.a.blue (record { sfits = a.1.1.0.1 }) i) (back32 v.b.blue (record { sfits = b.1.1.0.1 }) i))))
