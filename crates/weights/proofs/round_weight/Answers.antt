-- `weights::round_weight` meets its contract.
use Rattle.std.proofs.Common.{neg_ℤ, ap, ◌∙◌, w32}
use lib.Ieee.{of_bits}
use mir.ValLaws.{to_z_pos}
use Rattle.float_laws.proofs.Rounding.{rounded_lt, rounded_neg, neg_not_negative}
use Rattle.integer_laws.proofs.Machine.{minus_fits32, minus_back32}
use Rattle.weights.proofs.round_weight.Goals as goal

pub round_half_up-requires : goal.round_half_up-requires
unfolding of_bits
round_half_up-requires c = neg_not_negative c.args.x c.if-x.true

pub overflow_cast-result : goal.overflow_cast-result
overflow_cast-result c = record { sfits = rounded_lt c.round_half_up.result _ c.round_half_up.ensures }

pub overflow_sub-result : goal.overflow_sub-result
overflow_sub-result c = minus_fits32 c.round_half_up.result (rounded_lt c.round_half_up.result _ c.round_half_up.ensures)

pub overflow_cast-result-else-x : goal.overflow_cast-result-else-x
overflow_cast-result-else-x c = record { sfits = rounded_lt c.round_half_up-else-x.result _ c.round_half_up-else-x.ensures }

pub returns-then-x : goal.returns-then-x
returns-then-x c =
    let n = c.round_half_up.result in
    minus_back32 n (rounded_lt n _ c.round_half_up.ensures) ∙ ap neg_ℤ c.round_half_up.ensures ∙ rounded_neg c.args.x

pub returns-else-x : goal.returns-else-x
returns-else-x c =
    let n = c.round_half_up-else-x.result in
    to_z_pos w32 n (rounded_lt n _ c.round_half_up-else-x.ensures) ∙ c.round_half_up-else-x.ensures
