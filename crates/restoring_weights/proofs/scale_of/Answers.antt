-- `restoring_weights::scale_of` meets its contract.
use mathlib.Core.Path.{◌≡◌, ◌∙◌, subst⁻¹}
use Prim.Native.Nat.{ℕ, ◌-◌, ◌*◌, ◌/◌, ◌^◌, ◌%◌, ◌≤◌}
use native.Mathlib.Omega.{arith}
use Rattle.integer_laws.proofs.Shifts.{one_shl}
use Rattle.restoring_weights.proofs.Sizes.{scale_bound}
use Rattle.restoring_weights.proofs.scale_of.Goals as goal
use Rattle.restoring_weights.proofs.scale_of.Goals.{After-from}

-- the power that was worked out
shifted : (k : ℕ) → k ≤ 13 → (1 * 2 ^ k) % 4294967296 ≡ 2 ^ k
shifted k h = one_shl k (omega arith)

module _ (c : After-from) where
  abbrev P : ℕ
  P = c.args.s.precision

  abbrev f : ℕ
  f = c.from.result

  worked_out : (1 * 2 ^ (13 - P)) % 4294967296 * (64 / f) ≡ 2 ^ (13 - P) * (64 / f)
  worked_out = λ i. shifted (13 - P) (omega arith) i * (64 / f)

  small : (1 * 2 ^ (13 - P)) % 4294967296 * (64 / f) * 2 ^ P ≤ 524288
  small = subst⁻¹ (λ (n : ℕ). n * 2 ^ P ≤ 524288) worked_out (scale_bound P f (omega arith))

pub returns : goal.returns
returns c =
    let k = (goal.at.returns c).After-from in
    let e = c.from.ensures ∙ c.packing_factor.ensures.0 in
    ((λ i. shifted (13 - P k) (omega arith) i * (64 / e i)), small k)
