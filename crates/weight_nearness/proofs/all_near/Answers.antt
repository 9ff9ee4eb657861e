-- `weight_nearness::all_near` meets its contract.
use Rattle.std.proofs.Common.{◌≡◌, ℕ, ◌*◌, ◌^◌, ◌≤◌, ◌<◌, arith, unsigned_abs, w64, ℤ, pos, ◌-ℤ◌, to_z, of_z}
use Rattle.std.proofs.lemmas.Int.{ints}
use Rattle.std.proofs.lemmas.Grind.{common_steps}
use Rattle.std.proofs.Math.Nat.{mul-le-mul}
use lib.IntN.{neg_ℤ}
use lib.Signed.{mag}
use Rattle.rules.specs.Settle.{all_near}
use Rattle.weight_nearness.proofs.all_near.Goals as goal

negated : (x : ℤ) (n : ℕ) → x ≡ pos n → mag x < 2 ^ 63 → to_z w64 (of_z w64 (pos 0 -ℤ to_z w64 (of_z w64 x))) ≡ neg_ℤ (pos n)
negated x n e h = omega (arith, ints)

small : (x : ℤ) (a b : ℕ) → x ≡ pos (a * b) → a ≤ 10000 → b < 65536 → unsigned_abs (to_z w64 (of_z w64 (pos 0 -ℤ to_z w64 (of_z w64 x)))) < 4294967296
small x a b e h k =
    let l : a * b ≤ 10000 * 65536 = mul-le-mul h (let m : b ≤ 65536 = omega arith in m) in
    omega (arith, ints)

pub row_near-requires-then-row_near-clause-small :
    goal.row_near-requires-then-row_near-clause-small
row_near-requires-then-row_near-clause-small c =
    let a = c.args in
    (small _ a.k.kr a.uv c.from-cb_r.ensures (omega arith) (omega arith), small _ _ a.uv c.from-c_g.ensures (omega arith) (omega arith), grind (arith, ints))

pub returns-then-row_near-2 : goal.returns-then-row_near-2
unfolding all_near
returns-then-row_near-2 c =
    let p = negated c.from-cb_r.result _ c.from-cb_r.ensures (omega arith) in
    let q = negated c.from-c_g.result _ c.from-c_g.ensures (omega arith) in
    let r = negated c.from-cr_b.result _ c.from-cr_b.ensures (omega arith) in
    grind (arith, common_steps)

pub returns-else-row_near-2 : goal.returns-else-row_near-2
unfolding all_near
returns-else-row_near-2 c =
    let p = negated c.from-cb_r.result _ c.from-cb_r.ensures (omega arith) in
    let q = negated c.from-c_g.result _ c.from-c_g.ensures (omega arith) in
    let r = negated c.from-cr_b.result _ c.from-cr_b.ensures (omega arith) in
    grind (arith, common_steps)
