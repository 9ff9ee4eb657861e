-- What `rounded` is of a float: of one that is not negative, of the other sign, and in size. Assumes nothing.
use mathlib.Core.Path.{◌≡◌, refl, sym, ap, ◌∙◌, subst}
use Prim.Native.Nat.{ℕ, zero, suc, ◌+◌, ◌*◌, ◌/◌, ◌^◌, ◌≤◌, ◌<◌, min}
use native.Mathlib.Nat.{mul-pos, le-div_iff_mul-le, div-eq_of_lt}
use native.Mathlib.Omega.{arith}
use mathlib.Core.Bool.{Bool, true, false, not, true≢false}
use lib.Dec.{T, ltb, ltb→lt, nltb→le, lit<, lit≤}
use lib.IntN.{ℤ, pos, neg_ℤ}
use lib.Ieee.{Float, nan, inf, fin, up, down, lt, neg}
use lib.Ieee.Fits.{down_pos}
use lib.Ieee.Positive.{num, den}
use Rattle.rules.specs.Weights.{nought, signed, half_up, rounded}

-- a number at most 2 ^ 31 - 1
abbrev pub capped : ℕ → ℕ
capped n = min n 2147483647

abbrev pub top : Float
top = fin false 1 (pos 31)

pub no : {X : Type 0} → false ≡ true → X
no e = absurd (true≢false (sym e))

-- ---- what `rounded` is of a float that is not negative
big : (n d : ℕ) → 0 < d → 2 ^ 31 * d ≤ n → capped (half_up n d) ≡ 2147483647
big n d D h =
    let g : 2147483648 ≤ (n * 2 + d) / (d * 2) = (le-div_iff_mul-le (mul-pos D (lit< tt))).1 (omega arith) in
    omega arith

pub rounds_big : (x : Float) → lt x top ≡ false → lt nought x ≡ true → pos 2147483647 ≡ rounded x
unfolding lt rounded
rounds_big nan a b = no b
rounds_big (inf true) a b = no b
rounds_big (inf false) a b = refl
rounds_big (fin true m e) a b = no b
rounds_big (fin false m e) a b =
    let h = nltb→le (m * up e * 1) (1 * 2 ^ 31 * down e) (subst (λ (t : Bool). T (not t)) (sym a) tt) in
    ap pos (sym (big (m * up e) (down e) (down_pos e) (omega arith)))

nothing : (n : ℕ) (e : ℤ) → n ≡ 0 → half_up n (down e) ≡ 0
nothing n e z = let d = down_pos e in div-eq_of_lt (omega arith)

-- with the sign of a negative float and no less than 0: it is 0 in size
pub minus_nought : (m : ℕ) (e : ℤ) → lt (fin true m e) nought ≡ false → m * up e ≡ 0
unfolding lt
minus_nought m e a =
    let g = nltb→le 0 (m * up e * 1 + 0 * down e) (subst (λ (b : Bool). T (not b)) (sym a) tt) in
    omega arith

pub rounds_none : (x : Float) → lt x nought ≡ false → lt nought x ≡ false → pos 0 ≡ rounded x
unfolding lt rounded
rounds_none nan a b = refl
rounds_none (inf true) a b = no (sym a)
rounds_none (inf false) a b = no (sym b)
rounds_none (fin true m e) a b = sym (ap (λ (n : ℕ). signed true (capped n)) (nothing (m * up e) e (minus_nought m e a)))
rounds_none (fin false m e) a b =
    let h : m * up e * 1 ≤ 0 * down e = nltb→le (0 * down e) (m * up e * 1) (subst (λ (t : Bool). T (not t)) (sym b) tt) in
    sym (ap (λ (n : ℕ). signed false (capped n)) (nothing (m * up e) e (omega arith)))

pub rounds_below : (x : Float) → lt x nought ≡ false → lt x top ≡ true → half_up (num x) (den x) < 2147483648 → pos (half_up (num x) (den x)) ≡ rounded x
unfolding lt rounded
rounds_below nan a b h = no b
rounds_below (inf true) a b h = no (sym a)
rounds_below (inf false) a b h = no b
rounds_below (fin false m e) a b h =
    let c : half_up (m * up e) (down e) ≡ capped (half_up (m * up e) (down e)) = omega arith in
    ap pos c
rounds_below (fin true m e) a b h = let z = nothing (m * up e) e (minus_nought m e a) in ap pos z ∙ sym (ap (λ (n : ℕ). signed true (capped n)) z)

-- ---- the sign
signed_not : (s : Bool) (n : ℕ) → neg_ℤ (signed (not s) n) ≡ signed s n
signed_not true n = refl
signed_not false zero = refl
signed_not false (suc n) = refl

pub rounded_neg : (x : Float) → neg_ℤ (rounded (neg x)) ≡ rounded x
unfolding neg rounded
rounded_neg nan = refl
rounded_neg (inf s) = signed_not s 2147483647
rounded_neg (fin s m e) = signed_not s (capped (half_up (m * up e) (down e)))

pub neg_not_negative : (x : Float) → lt x nought ≡ true → lt (neg x) nought ≡ false
unfolding lt neg
neg_not_negative nan h = refl
neg_not_negative (inf true) h = refl
neg_not_negative (inf false) h = no h
neg_not_negative (fin true m e) h = never (m * up e * 1) (down e)
  where
    never : (a d : ℕ) → ltb a (0 * d) ≡ false
    never a d = go (ltb a (0 * d)) (ltb→lt a (0 * d))
      where
        go : (t : Bool) → (T t → a < 0 * d) → t ≡ false
        go false f = refl
        go true f = absurd (let g = f tt in omega arith)
neg_not_negative (fin false m e) h = absurd (none (m * up e * 1) (down e) (subst T (sym h) tt))
  where
    none : (a d : ℕ) → T (ltb a (0 * d)) → ⊥
    none a d t = let g = ltb→lt a (0 * d) t in omega arith

-- ---- within 31 bits
within : (n : ℕ) (s : Bool) (k : ℕ) → k ≤ 2147483647 → pos n ≡ signed s k → n < 2147483648
within n false k h e = let q : n ≡ k = cc in omega arith
within n true zero h e = let q : n ≡ 0 = cc in omega arith
within n true (suc k) h e = let z : ◌≡◌ {A = ℕ} 0 1 = cc in absurd (omega arith)

pub rounded_lt : (n : ℕ) (x : Float) → pos n ≡ rounded x → n < 2147483648
unfolding rounded
rounded_lt n nan h = let e : n ≡ 0 = cc in omega arith
rounded_lt n (inf s) h = within n s 2147483647 (lit≤ tt) h
rounded_lt n (fin s m e) h = within n s (capped (half_up (m * up e) (down e))) (omega arith) h
