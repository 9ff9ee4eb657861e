-- `power` meets its contract: a shift below 64 loses nothing.
use Rattle.std.proofs.Common.{◌≡◌, ◌*◌, ◌%◌, ◌^◌, ◌∙◌, one-mul, arith, lit<, pow_pos, pow_mono, shl_exact}
use Rattle.tolerance_bounds.proofs.power.Goals as goal

pub returns : goal.returns
returns c =
    let e : 1 * 2 ^ c.args.exponent % 18446744073709551616 ≡ 2 ^ c.args.exponent = shl_exact {a = 1} 1 c.args.exponent 64 (lit< tt) (omega arith) ∙ one-mul _ in
    (e, omega (arith, pow_pos c.args.exponent), omega (arith, pow_mono c.requires))
