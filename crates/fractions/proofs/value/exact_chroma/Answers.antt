-- `exact_chroma` meets its contract: its two parts are the fraction's numerator.
use mathlib.Core.Path.{ap, ◌∙◌}
use Prim.Native.Nat.{ℕ, ◌*◌}
use borrow.Author.Rules.{rules}
use Rattle.fractions.specs.Sums.{blend, own_sum}
use Rattle.fractions.proofs.Values.{parts_times}
use Rattle.fractions.proofs.value.exact_chroma.Goals as goal

pub returns : goal.returns
returns c =
    let a = c.args in
    let plus = c.ranged.ensures.0 ∙ ap (λ (n : ℕ). 10000 * n * a.range) (c.from.ensures ∙ c.own.ensures) in
    let minus = c.ranged-2.ensures.0 ∙ ap (λ (n : ℕ). n * a.range) c.blend.ensures.0 in
    let over = parts_times (10000 * own_sum a.u a.s) (blend a.k a.s) a.range plus minus in
    record { value = λ i. record { bias = a.bias; over = over i; under = a.under }; small = search rules }
