-- What `rounded` means: the exact half goes away from zero, and the result is within a half. Assumes nothing.
use mathlib.Core.Path.{◌≡◌, ap, ◌∙◌}
use Prim.Native.Nat.{ℕ, ◌+◌, ◌*◌, ◌≤◌, ◌<◌}
use native.Mathlib.Nat.{mul_assoc, mul_comm, add-mul, mul-pos, div-eq_of_lt-le, div-mul-le_self, lt-div-mul-add}
use native.Mathlib.Omega.{arith}
use mathlib.Core.Bool.{Bool}
use lib.Dec.{lit<}
use lib.IntN.{ℤ}
use lib.Ieee.{fin, up, down}
use lib.Ieee.Fits.{down_pos}
use Rattle.rules.specs.Weights.{half_up, signed, rounded}
use Rattle.float_laws.proofs.Rounding.{capped}

half_at : (a c k : ℕ) → 0 < c → a * 2 ≡ (k * 2 + 1) * c → half_up a c ≡ k + 1
half_at a c k C h =
    let x : (k * 2 + 1) * c ≡ k * 2 * c + 1 * c = add-mul (k * 2) 1 c in
    let y : (k + 1) * (c * 2) ≡ k * (c * 2) + 1 * (c * 2) = add-mul k 1 (c * 2) in
    let z : (k + 1 + 1) * (c * 2) ≡ (k + 1) * (c * 2) + 1 * (c * 2) = add-mul (k + 1) 1 (c * 2) in
    let v : k * 2 * c ≡ k * (c * 2) = mul_assoc k 2 c ∙ ap (λ (t : ℕ). k * t) (mul_comm 2 c) in
    let lo : (k + 1) * (c * 2) ≤ a * 2 + c = omega arith in
    let hi : a * 2 + c < (k + 1 + 1) * (c * 2) = omega arith in
    div-eq_of_lt-le (c * 2) lo hi

-- k + 1 / 2 in size, exactly: away from zero
pub half_away : (s : Bool) (m : ℕ) (e : ℤ) (k : ℕ) → m * up e * 2 ≡ (k * 2 + 1) * down e → k < 2147483647 → rounded (fin s m e) ≡ signed s (k + 1)
unfolding rounded
half_away s m e k h b =
    let q : half_up (m * up e) (down e) ≡ k + 1 = half_at (m * up e) (down e) k (down_pos e) h in
    let r : capped (half_up (m * up e) (down e)) ≡ k + 1 = omega arith in
    ap (signed s) r

-- within a half: 2 * a - c < 2 * c * h ≤ 2 * a + c
pub within_half : (a c : ℕ) → 0 < c → (half_up a c * (c * 2) ≤ a * 2 + c) × (a * 2 < half_up a c * (c * 2) + c)
within_half a c C =
    let p = mul-pos C (lit< {m = 0} {n = 2} tt) in
    let lo = div-mul-le_self (a * 2 + c) (c * 2) in
    let hi = lt-div-mul-add {a = a * 2 + c} {b = c * 2} p in
    (lo, omega arith)
