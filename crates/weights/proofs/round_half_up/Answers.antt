-- `weights::round_half_up` meets its contract.
use Rattle.std.proofs.Common.{◌≡◌, T, pos, sym, subst}
use lib.Ieee.{binary32, binary64, fits, of_bits, in_unsigned, to_unsigned}
use Rattle.rules.specs.Weights.{rounded}
use Rattle.float_laws.proofs.Rounding.{rounds_big, rounds_none}
use Rattle.float_laws.proofs.Sums.{summed, rounds_by_sums}
use Rattle.weights.proofs.round_half_up.Goals as goal
use Rattle.weights.proofs.round_half_up.Goals.{Start, After-from-lifted}

held : (c : Start) → T (fits binary32 c.args.x)
held c = subst T (sym c.well_formed.0.1) tt

by_sums : (c : After-from-lifted) → let v = c.from-lifted.result in
    T (in_unsigned binary64 32 (summed v)) × (pos (to_unsigned 32 (summed v)) ≡ rounded c.args.x)
unfolding of_bits
by_sums c = rw c.from-lifted.ensures (rounds_by_sums c.args.x (held (goal.at.After-from-lifted c).Start) c.requires c.if-x.true)

pub float_to_int-result : goal.float_to_int-result
unfolding of_bits
float_to_int-result c = (by_sums (goal.at.float_to_int-result c).After-from-lifted).0

pub returns-then-x : goal.returns-then-x
unfolding of_bits
returns-then-x c = (by_sums (goal.at.returns-then-x c).After-from-lifted).1

pub returns-then-x-2 : goal.returns-then-x-2
unfolding of_bits
returns-then-x-2 c = rounds_big c.args.x c.if-x.false c.if-x-2.true

pub returns : goal.returns
unfolding of_bits
returns c = rounds_none c.args.x c.requires c.if-x-2.false
