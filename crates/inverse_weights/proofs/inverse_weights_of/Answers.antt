-- `inverse_weights::inverse_weights_of` meets its contract.
use Rattle.std.proofs.Common.{ap, ◌∙◌}
use Rattle.rules.specs.Weights.{pair}
use Rattle.rules.specs.Inverse.{backward, inverse_integers, inverse_weights_of}
use Rattle.inverse_weights.proofs.inverse_weights_of.Goals as goal

pub returns : goal.returns
unfolding inverse_weights_of
returns c =
    let k = c.get_kr_kb-k in
    let g = c.get_yuv_range-g in
    let m = c.most-m in
    c.to_integers.ensures
    ∙ ap (inverse_integers c.args.s.precision)
    (c.get_inverse_transform-f.ensures ∙ (λ i. backward (m.ensures i) (g.ensures i).range_y (g.ensures i).range_uv (pair (k.ensures i).kr (k.ensures i).kb)))
