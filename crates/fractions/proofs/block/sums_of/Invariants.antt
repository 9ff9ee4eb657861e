use Rattle.std.proofs.Common.{◌≡◌, ◌≤◌, ◌*◌, take}
use Rattle.std.specs.List.{sum_by}
use Rattle.rules.specs.declared.Pixel.{Pixel}
use Rattle.fractions.proofs.block.sums_of.Given as goal

abbrev pub invariant-loop-red : goal.invariant-loop-red
invariant-loop-red g l =
    (l.sums.red ≡ sum_by (λ (p : Pixel). p.red) (take l.red-index l.red-items)) × (l.sums.red ≤ 65535 * l.red-index)
    × (l.sums.green ≡ sum_by (λ (p : Pixel). p.green) (take l.red-index l.red-items)) × (l.sums.green ≤ 65535 * l.red-index)
    × (l.sums.blue ≡ sum_by (λ (p : Pixel). p.blue) (take l.red-index l.red-items)) × (l.sums.blue ≤ 65535 * l.red-index)
