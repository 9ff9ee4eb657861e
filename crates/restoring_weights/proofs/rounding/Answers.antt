-- `restoring_weights::rounding` meets its contract.
use mathlib.Core.Path.{◌≡◌, ap, ◌∙◌, subst⁻¹}
use Prim.Native.Nat.{ℕ, ◌-◌, ◌*◌, ◌^◌, ◌%◌, ◌≤◌}
use native.Mathlib.Omega.{arith}
use Rattle.integer_laws.proofs.Shifts.{one_shl, shl}
use Rattle.restoring_weights.proofs.Sizes.{rounding_bound, half_less}
use Rattle.restoring_weights.proofs.rounding.Goals as goal

pub returns : goal.returns
returns c =
    let P = c.args.precision in
    let e : ((1 * 2 ^ (P - 1)) % 4294967296 - 1) * 2 ^ (19 - P) % 4294967296 ≡ (2 ^ (P - 1) - 1) * 2 ^ (19 - P) =
    ap (λ (n : ℕ). (n - 1) * 2 ^ (19 - P) % 4294967296) (one_shl (P - 1) (omega arith)) ∙ shl (2 ^ (P - 1) - 1) 13 (19 - P) (half_less P c.requires.1) (omega arith) in
    (e, subst⁻¹ (λ (n : ℕ). n ≤ 524288) e (rounding_bound P c.requires.0 c.requires.1))
