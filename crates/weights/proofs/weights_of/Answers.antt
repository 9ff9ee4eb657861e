-- `weights::weights_of` meets its contract.
use Rattle.std.proofs.Common.{ap, ◌∙◌}
use Rattle.rules.specs.Weights.{pair, forward, integers, weights_of}
use Rattle.weights.proofs.weights_of.Goals as goal

pub returns-clause-exact : goal.returns-clause-exact
unfolding weights_of
returns-clause-exact c =
    let k = c.get_kr_kb-k in
    let g = c.get_yuv_range-g in
    let m = c.most-m in
    let f = c.get_forward_transform-f in c.to_integers.ensures
    ∙ ap (integers c.args.s.precision)
    (f.ensures.exact ∙ (λ i. forward (m.ensures i) (g.ensures i).range_y (g.ensures i).range_uv (pair (k.ensures i).kr (k.ensures i).kb)))
