-- From 2 ^ 52 to 2 ^ 53 the 64-bit floats are the whole numbers: 2 ^ 52 added to a float and taken off again leaves the whole number nearest to it. Assumes nothing.
use mathlib.Core.Path.{◌≡◌, sym, ap, ◌∙◌, subst}
use Prim.Native.Nat.{ℕ, suc, ◌+◌, ◌-◌, ◌*◌, ◌/◌, ◌%◌, ◌^◌, ◌≤◌, ◌<◌, compare, Ordering}
use native.Mathlib.Nat.{le_trans, le_of_eq, le_antisymm, lt_of_lt_of_le, lt_of_le_of_lt, lt_of_not-le, lt_irrefl, le_of_lt, lt_of_mul-lt-mul_right, mul-one, mul_right_comm, mul_assoc, mul_comm, add-mul, mul-pos, mul-le-mul_right, mul-lt-mul_of_pos_right, le-div_iff_mul-le, div-lt_iff_lt-mul, div-add-mod', mod-lt}
use native.Mathlib.Omega.{arith}
use mathlib.Core.Bool.{Bool, true, false, not, cond, true≢false}
use lib.Dec.{T, is_le, compare_is_eq, ltb, ltb→lt, leb→le, nleb→lt, eqb→eq, lit<}
use lib.IntN.{pos}
use lib.Pow.{pow_pos, pow_mono}
use lib.Ieee.{Float, nan, inf, fin, binary64, up, down, size, nearest, units, round, add, sub, neg, sum}
use lib.Ieee.Digits.{size-lt, size-le}
use lib.Ieee.Fits.{down_pos, core, round_is}
use lib.Ieee.Exact.{HasValue}
use lib.Ieee.Nearest.{closest, closest_same}
use lib.Ieee.Scale.{round_same}
use lib.Ieee.Back.{round_whole}
use lib.Ieee.Positive.{num, den, positive, den_pos}

abbrev pub two52 : Float
two52 = fin false 1 (pos 52)

-- ---- a / c, nearer than a half to n
abbrev pub Near : ℕ → ℕ → ℕ → Type 0
Near n a c = (n * c * 2 < a * 2 + c) × (a * 2 < n * c * 2 + c)

-- a float above zero, nearer than a half to n
abbrev pub NearestTo : ℕ → Float → Type 0
NearestTo n y = T (positive y) × Near n (num y) (den y)

module _ (a c n : ℕ) (C : 0 < c) (h : Near n a c) where
  parts : a / c * c + a % c ≡ a
  parts = div-add-mod' a c

  rest : a % c < c
  rest = mod-lt a C

  under : (k : ℕ) → k * c < (n + 1) * c → k ≤ n
  under k l = let t = lt_of_mul-lt-mul_right c l in omega arith

  over : (k : ℕ) → n * c < (k + 1) * c → n ≤ k
  over k l = let t = lt_of_mul-lt-mul_right c l in omega arith

  by_remainder : (o : Ordering) → (T (is_le o) → a % c * 2 ≤ c) → (T (not (is_le o)) → c < a % c * 2) → (T (compare_is_eq o) → a % c * 2 ≡ c) → nearest (a / c) o ≡ n
  by_remainder Ordering.lt at_most more half =
      let r = at_most tt in
      le_antisymm (under (a / c) (omega (arith, parts, h.0, h.1, r, add-mul n 1 c))) (over (a / c) (omega (arith, parts, h.0, h.1, r, add-mul (a / c) 1 c)))
  by_remainder Ordering.eq at_most more half =
      let r = half tt in
      absurd (lt_irrefl n (lt_of_le_of_lt (over (a / c) (omega (arith, parts, h.0, h.1, r, add-mul (a / c) 1 c))) (lt_of_mul-lt-mul_right c (omega (arith, parts, h.0, h.1, r)))))
  by_remainder Ordering.gt at_most more half =
      let r = more tt in
      le_antisymm (lt_of_mul-lt-mul_right c (omega (arith, parts, h.0, h.1, r))) (over (suc (a / c)) (omega (arith, parts, rest, h.0, h.1, r, add-mul (a / c) 1 c, add-mul (suc (a / c)) 1 c)))

  closest_is : closest a c ≡ n
  closest_is = by_remainder (compare (a % c * 2) c) (leb→le (a % c * 2) c) (nleb→lt (a % c * 2) c) (eqb→eq (a % c * 2) c)

-- ---- from 2 ^ 52 to 2 ^ 53 the unit is 1
size_is : (z j : ℕ) → 2 ^ j ≤ z → z < 2 ^ suc j → size z ≡ suc j
size_is z j lo hi = le_antisymm (size-le z (suc j) hi) (lt_of_not-le (λ (g : size z ≤ j). lt_irrefl z (lt_of_lt_of_le (size-lt z) (le_trans (pow_mono g) lo))))

one_unit : (a c : ℕ) → 0 < c → 2 ^ 52 * c ≤ a → a < 2 ^ 53 * c → round binary64 false a c ≡ units binary64 false (closest a c) 1074
one_unit a c C lo hi =
    round_is binary64 false a c
    ∙ ap (λ (k : ℕ). core binary64 false (a * 2 ^ 1074) c k) dropped
    ∙ ap (λ (q : ℕ). units binary64 false q 1074) (closest_same (a * 2 ^ 1074) (c * 2 ^ 1074) a c (mul-pos C (pow_pos 1074)) C (swap a (2 ^ 1074) c))
  where
    swap : (a k c : ℕ) → a * k * c ≡ a * (c * k)
    swap a k c = mul_assoc a k c ∙ ap (λ (z : ℕ). a * z) (mul_comm k c)

    lower : 2 ^ 1126 ≤ a * 2 ^ 1074 / c
    lower = (le-div_iff_mul-le C).1 (le_trans (le_of_eq (mul_right_comm (2 ^ 52) (2 ^ 1074) c)) (mul-le-mul_right (2 ^ 1074) lo))

    upper : a * 2 ^ 1074 / c < 2 ^ 1127
    upper = (div-lt_iff_lt-mul C).1 (lt_of_lt_of_le (mul-lt-mul_of_pos_right hi (pow_pos 1074)) (le_of_eq (mul_right_comm (2 ^ 53) c (2 ^ 1074))))

    dropped : size (a * 2 ^ 1074 / c) - 53 ≡ 1074
    dropped = ap (λ (z : ℕ). z - 53) (size_is (a * 2 ^ 1074 / c) 1126 lower upper)

whole_unit : (n : ℕ) → closest n 1 ≡ n
whole_unit n = closest_is n 1 n (lit< tt) (omega arith, omega arith)

-- what is nearer than a half to a whole number there is rounded to it
to_whole : (a c n : ℕ) → 0 < c → 2 ^ 52 * c ≤ a → a < 2 ^ 53 * c → 2 ^ 52 ≤ n → n < 2 ^ 53 → Near n a c → round binary64 false a c ≡ round binary64 false n 1
to_whole a c n C lo hi lo' hi' h =
    one_unit a c C lo hi
    ∙ ap (λ (q : ℕ). units binary64 false q 1074) (closest_is a c n C h ∙ sym (whole_unit n))
    ∙ sym (one_unit n 1 (lit< tt) (omega arith) (omega arith))

-- ---- 2 ^ 52 added, and taken off again
added : (y : Float) → T (positive y) → add binary64 y two52 ≡ round binary64 false (num y + 2 ^ 52 * den y) (den y)
unfolding add sum
added nan p = absurd p
added (inf s) p = absurd p
added (fin true m e) p = absurd p
added (fin false m e) p =
    round_same binary64 false (m * up e * 1 + 1 * 2 ^ 52 * down e) (down e * 1) (m * up e + 2 ^ 52 * down e) (down e) (mul-pos (down_pos e) (lit< tt)) (down_pos e)
    (ap (λ (z : ℕ). z * down e) (tidy (m * up e) (down e)) ∙ ap (λ (z : ℕ). (m * up e + 2 ^ 52 * down e) * z) (sym (mul-one (down e))))
  where
    tidy : (x d : ℕ) → x * 1 + 1 * 2 ^ 52 * d ≡ x + 2 ^ 52 * d
    tidy x d = omega arith

taken_off : (t : Float) (n : ℕ) → HasValue t false (2 ^ 52 + n) 1 → sub binary64 t two52 ≡ round binary64 false n 1
unfolding sub add sum neg
taken_off nan n v = absurd v
taken_off (inf s) n v = absurd v
taken_off (fin true m e) n v = absurd (true≢false v.0)
taken_off (fin false m e) n v = go (ltb (m * up e * 1) (1 * 2 ^ 52 * down e)) (ltb→lt (m * up e * 1) (1 * 2 ^ 52 * down e))
  where
    go : (b : Bool) → (T b → m * up e * 1 < 1 * 2 ^ 52 * down e)
        → cond b (round binary64 true (1 * 2 ^ 52 * down e - m * up e * 1) (down e * 1)) (round binary64 false (m * up e * 1 - 1 * 2 ^ 52 * down e) (down e * 1))
        ≡ round binary64 false n 1
    go true f = absurd (omega (arith, v.1, f tt, add-mul (2 ^ 52) n (down e)))
    go false f =
        round_same binary64 false (m * up e * 1 - 1 * 2 ^ 52 * down e) (down e * 1) n 1 (mul-pos (down_pos e) (lit< tt)) (lit< tt)
        (omega (arith, v.1, add-mul (2 ^ 52) n (down e), ap (λ (z : ℕ). n * z) (mul-one (down e))))

pub by_sums : (y : Float) (n : ℕ) → n < 2 ^ 32 → NearestTo n y → sub binary64 (add binary64 y two52) two52 ≡ round binary64 false n 1
by_sums y n b h =
    let d = den y in
    let s : (2 ^ 52 + n) * d ≡ 2 ^ 52 * d + n * d = add-mul (2 ^ 52) n d in
    let k : n * d ≤ 2 ^ 32 * d = mul-le-mul_right d (le_of_lt b) in
    let l = h.1.0 in
    let u = h.1.1 in
    let D = den_pos y in
    let t : add binary64 y two52 ≡ round binary64 false (2 ^ 52 + n) 1 =
    added y h.0 ∙ to_whole (num y + 2 ^ 52 * d) d (2 ^ 52 + n) D (omega arith) (omega arith) (omega arith) (omega arith) (omega arith, omega arith) in
    taken_off (add binary64 y two52) n (subst (λ (z : Float). HasValue z false (2 ^ 52 + n) 1) (sym t) (round_whole binary64 false (2 ^ 52 + n) (omega arith)))
