-- `samples::code::code` meets its contract.
use mathlib.Core.Path.{◌≡◌, ap}
use lib.IntN.{nat_abs}
use mir.Syntax.{w64}
use mir.Val.{to_z, of_z}
use Rattle.rules.specs.Sample.{signed_code, code}
use Rattle.integer_laws.proofs.Machine.{got}
use Rattle.samples.proofs.code.code.Goals as goal
use Rattle.samples.proofs.code.code.Goals.{After-signed_code}

-- what is read back of the code
back : (c : After-signed_code) → let a = c.args in to_z w64 (of_z w64 c.signed_code.result) ≡ signed_code a.precision a.bias a.w a.p
back c = got c.signed_code.result c.signed_code.type_inv c.signed_code.ensures

pub returns : goal.returns
unfolding code
returns c = ap nat_abs (back (goal.at.returns c).After-signed_code)
