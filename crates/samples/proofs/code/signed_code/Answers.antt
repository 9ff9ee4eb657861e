-- `samples::code::signed_code` meets its contract.
use mathlib.Core.Path.{ap, ◌∙◌}
use Prim.Native.Nat.{◌+◌, ◌-◌, ◌*◌, ◌^◌}
use lib.IntN.{ℤ, pos, ◌+ℤ◌}
use lib.Signed.{shr_z}
use Rattle.rules.specs.Sample.{signed_code}
use Rattle.samples.proofs.Sums.{shifted_sum}
use Rattle.samples.proofs.code.signed_code.Goals as goal

pub returns : goal.returns
unfolding signed_code
returns c =
    let b = c.args.bias in
    let p = c.args.precision in
    shifted_sum b p c.requires.2 c.requires.0 c.requires.1 c.weighted.result _ c.weighted.ensures.1 (c.from.ensures ∙ ap pos c.start.ensures)
    ∙ ap (λ (z : ℤ). shr_z (z +ℤ pos (b * 2 ^ p + (2 ^ (p - 1) - 1))) (2 ^ p)) c.weighted.ensures.0
