-- `sums_of` meets its contract.
use Rattle.std.proofs.Common.{◌≡◌, rules, take, take_all}
use Rattle.std.proofs.lemmas.List.Sums.{sum_by_more}
use Rattle.fractions.proofs.Totals.{total_of}
use Rattle.fractions.proofs.block.sums_of.Goals as goal

pub loop-red-preserved : goal.loop-red-preserved
loop-red-preserved g c =
    (search (rules, sum_by_more), search rules, search (rules, sum_by_more), search rules, search (rules, sum_by_more), search rules)

pub returns : goal.returns
returns g c =
    let k = c.loop-red.invariant in
    let whole : take c.loop-red.red-index c.args.block ≡ c.args.block = take_all _ _ (search rules) in (
      λ i. record { red = total_of _ k.0 whole i; green = total_of _ k.2 whole i; blue = total_of _ k.4 whole i },
      search rules,
    )
