-- `scan::bound_from` meets its contract.
use native.Mathlib.Omega.{arith}
use Rattle.std.proofs.Common.{◌∙◌}
use Rattle.std.proofs.Math.Nat.{min-eq_left}
use Rattle.scan.proofs.Lows.{low_four}
use Rattle.scan.proofs.bound_from.Goals as goal

pub returns : goal.returns
returns c =
    let one = c.source_row-a.ensures in
    let two = c.source_row-b.ensures in
    let three = c.source_row-c.ensures in
    let four = c.source_row-e.ensures in
    low_four one two three four c.four_rows.ensures
    (λ h. c.min.ensures ∙ min-eq_left (omega (arith, h)))
    (λ h. c.min-2.ensures ∙ min-eq_left (omega (arith, h)))
    (λ h. c.min-3.ensures ∙ min-eq_left (omega (arith, h)))
