-- `joined_weights::scaled_weights` meets its contract.
use Rattle.joined_weights.proofs.Sizes.{scalable}
use Rattle.joined_weights.proofs.scaled_weights.Goals as goal

pub scaled_triple-requires : goal.scaled_triple-requires
scaled_triple-requires c =
    let v = c.args in
    scalable v.s c.requires.reach v.w c.requires.no_weight_above c.scale_of.ensures c.in_source_order.ensures
