-- `matrices::ten_thousandths` meets its contract.
use Rattle.std.proofs.Common.{ap, ◌∙◌, arith}
use lib.Ieee.{Float, binary32, div, of_bits}
use Rattle.float_laws.proofs.TenThousandths.{ten_thousand, ten_thousandths}
use Rattle.matrices.proofs.ten_thousandths.Goals as goal

pub returns : goal.returns
unfolding of_bits
returns c = ap (λ (x : Float). div binary32 x ten_thousand) c.nearest_u32_to_f32.ensures ∙ ten_thousandths c.args.n (omega arith)
