-- An integer read as a difference of two naturals, so that `omega` serves. Assumes nothing.
use mathlib.Core.Path.{◌≡◌, refl, ap, subst⁻¹}
use mathlib.Core.Bool.{Bool, true, false, not, cond}
use Prim.Native.Nat.{ℕ, zero, suc, ◌+◌, ◌*◌, ◌-◌, ◌^◌, ◌≤◌, ◌<◌}
use native.Mathlib.Nat.{div-add-mod', mod-lt}
use native.Mathlib.Omega.{arith}
use lib.Dec.{T, ltb, ltb→lt, nltb→le}
use lib.IntN.{ℤ, pos, negsuc, ◌+ℤ◌, ◌-ℤ◌, ◌*ℤ◌, neg_ℤ, nat_abs, sub_ℕ}
use lib.Signed.{shr_z, le_z}
use mir.Syntax.{w64}
use mir.Val.{SFits}

abbrev pub pp : ℤ → ℕ
pp (pos n) = n
pp (negsuc n) = 0

abbrev pub np : ℤ → ℕ
np (pos n) = 0
np (negsuc n) = suc n

-- z is p − n
pub record Is (z : ℤ) (p n : ℕ) : Type 0 where
  pub is : pp z + n ≡ np z + p

pub is_self : (z : ℤ) → Is z (pp z) (np z)
is_self z = record { is = omega arith }

pub is_pos : (k : ℕ) → Is (pos k) k 0
is_pos k = record { is = omega arith }

-- the difference of two naturals, by the test that `sub_ℕ` makes
sub_at : (a b : ℕ) (t : Bool) → ltb a b ≡ t → Is (cond t (negsuc (b - suc a)) (pos (a - b))) a b
sub_at a b true e = let h : a < b = ltb→lt a b (subst⁻¹ T e tt) in record { is = omega arith }
sub_at a b false e = let h : b ≤ a = nltb→le a b (subst⁻¹ (λ (t : Bool). T (not t)) e tt) in record { is = omega arith }

is_sub : (a b : ℕ) → Is (sub_ℕ a b) a b
is_sub a b = sub_at a b (ltb a b) refl

pub is_neg : {z : ℤ} {p n : ℕ} → Is z p n → Is (neg_ℤ z) n p
is_neg {z = pos zero} h = record { is = omega (arith, h.is) }
is_neg {z = pos (suc k)} h = record { is = omega (arith, h.is) }
is_neg {z = negsuc k} h = record { is = omega (arith, h.is) }

pub is_add : {y z : ℤ} {p n q m : ℕ} → Is y p n → Is z q m → Is (y +ℤ z) (p + q) (n + m)
is_add {y = pos a} {z = pos b} h k = record { is = omega (arith, h.is, k.is) }
is_add {y = pos a} {z = negsuc b} h k = record { is = omega (arith, h.is, k.is, (is_sub a (suc b)).is) }
is_add {y = negsuc a} {z = pos b} h k = record { is = omega (arith, h.is, k.is, (is_sub b (suc a)).is) }
is_add {y = negsuc a} {z = negsuc b} h k = record { is = omega (arith, h.is, k.is) }

pub is_minus : {y z : ℤ} {p n q m : ℕ} → Is y p n → Is z q m → Is (y -ℤ z) (p + m) (n + q)
is_minus h k = is_add h (is_neg k)

-- a product with a natural on the right, or on the left
pub is_times : {z : ℤ} {p n : ℕ} → Is z p n → (x : ℕ) → Is (z *ℤ pos x) (p * x) (n * x)
is_times {z = pos a} h x = record { is = omega (arith, ap (λ (t : ℕ). t * x) h.is) }
is_times {z = negsuc a} h x =
    record { is = omega (arith, ap (λ (t : ℕ). t * x) h.is, (is_neg (is_pos (suc a * x))).is) }

pub le_abs : {z : ℤ} {p n t : ℕ} → Is z p n → nat_abs z ≤ t → (p ≤ n + t) × (n ≤ p + t)
le_abs {z = pos k} h o = (omega (arith, h.is), omega (arith, h.is))
le_abs {z = negsuc k} h o = (omega (arith, h.is), omega (arith, h.is))

-- the shift rounds down: c·Q ≤ z < (c + 1)·Q for c = shr_z z Q
pub shr_low : {z : ℤ} {p n : ℕ} (Q : ℕ) → 0 < Q → Is z p n → pp (shr_z z Q) * Q + n ≤ p + np (shr_z z Q) * Q
shr_low {z = pos a} Q q h = omega (arith, h.is, div-add-mod' a Q, mod-lt a q)
shr_low {z = negsuc a} Q q h = omega (arith, h.is, div-add-mod' a Q, mod-lt a q)

pub shr_high : {z : ℤ} {p n : ℕ} (Q : ℕ) → 0 < Q → Is z p n → p + np (shr_z z Q) * Q + 1 ≤ pp (shr_z z Q) * Q + Q + n
shr_high {z = pos a} Q q h = omega (arith, h.is, div-add-mod' a Q, mod-lt a q)
shr_high {z = negsuc a} Q q h = omega (arith, h.is, div-add-mod' a Q, mod-lt a q)

-- the same at a result that is not negative
pub shr_is : {z : ℤ} {p n : ℕ} (Q c : ℕ) → 0 < Q → Is z p n → shr_z z Q ≡ pos c → (c * Q + n ≤ p) × (p + 1 ≤ c * Q + Q + n)
shr_is {z} {p} {n} Q c q h e =
    let l : pp (pos c) * Q + n ≤ p + np (pos c) * Q = rw e at (shr_low Q q h) in
    let g : p + np (pos c) * Q + 1 ≤ pp (pos c) * Q + Q + n = rw e at (shr_high Q q h) in
    (omega arith, omega arith)

-- |z| is the greater less the smaller
pub abs_is : {z : ℤ} {p n : ℕ} → Is z p n → nat_abs z ≡ (p - n) + (n - p)
abs_is {z = pos k} h = omega (arith, h.is)
abs_is {z = negsuc k} h = omega (arith, h.is)

-- |z|·k ≤ t from the two orders, multiplied
pub abs_times : {z : ℤ} {p n : ℕ} (k t : ℕ) → Is z p n → k * p ≤ k * n + t → k * n ≤ k * p + t → nat_abs z * k ≤ t
abs_times {z = pos j} k t h o u = omega (arith, ap (λ (v : ℕ). k * v) h.is)
abs_times {z = negsuc j} k t h o u = omega (arith, ap (λ (v : ℕ). k * v) h.is)

pub is_as : {z : ℤ} {p n q m : ℕ} → Is z p n → p ≡ q → n ≡ m → Is z q m
is_as h e f = record { is = omega (arith, h.is) }

-- the same difference by another pair
pub is_shift : {z : ℤ} {p n q m : ℕ} → Is z p n → p + m ≡ q + n → Is z q m
is_shift h e = record { is = omega (arith, h.is) }

pub abs_parts : (z : ℤ) → nat_abs z ≡ pp z + np z
abs_parts (pos n) = omega arith
abs_parts (negsuc n) = omega arith

-- ---- sizes: the triangle's law, and what fits an `i64`

pub abs_neg : (z : ℤ) → nat_abs (neg_ℤ z) ≡ nat_abs z
abs_neg (pos zero) = refl
abs_neg (pos (suc n)) = refl
abs_neg (negsuc n) = refl

pub abs_mul : (z : ℤ) (x : ℕ) → nat_abs (z *ℤ pos x) ≡ nat_abs z * x
abs_mul (pos a) x = refl
abs_mul (negsuc a) x = abs_neg (pos (suc a * x))

pub abs_plus : (y z : ℤ) → nat_abs (y +ℤ z) ≤ nat_abs y + nat_abs z
abs_plus y z = omega (arith, abs_is (is_add (is_self y) (is_self z)), abs_parts y, abs_parts z)

pub sfits_abs : {z : ℤ} → nat_abs z < 2 ^ 63 → SFits w64 z
sfits_abs {z = pos n} h = record { sfits = h }
sfits_abs {z = negsuc n} h = record { sfits = omega arith }

-- ---- equal differences, and integers that are not negative

-- one difference, one integer
pub is_same : {y z : ℤ} {p n : ℕ} → Is y p n → Is z p n → y ≡ z
is_same {y = pos a} {z = pos b} h k = ap pos (omega (arith, h.is, k.is))
is_same {y = pos a} {z = negsuc b} h k = absurd (omega (arith, h.is, k.is))
is_same {y = negsuc a} {z = pos b} h k = absurd (omega (arith, h.is, k.is))
is_same {y = negsuc a} {z = negsuc b} h k = ap negsuc (omega (arith, h.is, k.is))

-- the difference of two naturals
pub is_less : (p n : ℕ) → Is (pos p -ℤ pos n) p n
is_less p n = is_shift (is_minus (is_pos p) (is_pos n)) (omega arith)

-- an integer that is not negative is its size
pub sized : (z : ℤ) → T (le_z (pos 0) z) → z ≡ pos (nat_abs z)
sized (pos n) t = refl
sized (negsuc n) t = absurd t
