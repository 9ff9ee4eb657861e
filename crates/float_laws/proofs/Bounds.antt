-- Bounds on the values that the weights pass through, with their signs. Assumes nothing.
use mathlib.Core.Path.{◌≡◌, refl, sym, ap, ◌∙◌, subst}
use Prim.Native.Nat.{ℕ, zero, suc, ◌+◌, ◌-◌, ◌*◌, ◌^◌, ◌≤◌, ◌<◌}
use native.Mathlib.Nat.{le_trans, le_of_eq, le_of_lt, lt_of_lt_of_le, lt_of_le_of_lt, mul-one, one-mul, mul_assoc, mul_left_comm, mul_right_comm, mul-pos, mul-le-mul, mul-le-mul_left, mul-le-mul_right, mul-lt-mul_of_pos_right, sub-le}
use native.Mathlib.Omega.{arith}
use mathlib.Core.Bool.{Bool, true, false, not, ◌&&◌, ◌||◌, cond, true≢false}
use lib.Dec.{T, ltb, eqb, ltb→lt, eqb→eq, lit<, lit≤}
use lib.IntN.{pos, negsuc}
use lib.Pow.{pow-add, pow_pos, pow_mono}
use lib.Ieee.{Float, nan, inf, fin, Format, binary32, prec, emax, low, up, down, round, units, odd, mul, div, le, neg, fits, of_int, unlike}
use lib.Ieee.Fits.{up_pos, down_pos, round_is}
use lib.Ieee.Exact.{HasValue, round_exact}
use lib.Ieee.Back.{round_whole}
use lib.Ieee.Order.{round_mono, drop, kept}
use lib.Ieee.Positive.{num, den, positive, through, positive_of_value, value→cross}
use Rattle.float_laws.proofs.Values.{fits_small, fits_fine, fits_below, pow_le_back}

-- finite, with the sign s, and a / c at most in size
abbrev pub Under : Float → Bool → ℕ → ℕ → Type 0
Under nan s a c = ⊥
Under (inf t) s a c = ⊥
Under (fin t m e) s a c = (t ≡ s) × (m * up e * c ≤ a * down e)

-- a / c is a value of the format
abbrev pub Exact : ℕ → ℕ → Type 0
Exact a c = HasValue (round binary32 false a c) false a c

-- no NaN, no infinity, and with the sign s
abbrev pub Finite : Bool → Float → Type 0
Finite s nan = ⊥
Finite s (inf t) = ⊥
Finite s (fin t m e) = t ≡ s

-- the sign s, a NaN counted in
abbrev pub SignIs : Bool → Float → Type 0
SignIs s nan = Unit
SignIs s (inf t) = t ≡ s
SignIs s (fin t m e) = t ≡ s

pub under_finite : (x : Float) (s : Bool) (a c : ℕ) → Under x s a c → Finite s x
under_finite nan s a c u = u
under_finite (inf t) s a c u = u
under_finite (fin t m e) s a c u = u.0

pub under_cross : (x : Float) (s : Bool) (a c : ℕ) → Under x s a c → num x * c ≤ a * den x
under_cross nan s a c u = absurd u
under_cross (inf t) s a c u = absurd u
under_cross (fin t m e) s a c u = u.1

-- ---- `round` with either sign
odd_sign : (d : ℕ) (s : Bool) (q k l : ℕ) → SignIs s (odd d s q k l)
unfolding odd
odd_sign d s zero k l = refl
odd_sign d s (suc q) k l = refl

units_sign : (f : Format) (s : Bool) (q k : ℕ) → SignIs s (units f s q k)
unfolding units
units_sign f s q k = go (ltb (q * 2 ^ k) (2 ^ (low f + suc (emax f))))
  where
    go : (b : Bool) → SignIs s (cond b (odd (suc (prec f)) s q k (low f)) (inf s))
    go true = odd_sign (suc (prec f)) s q k (low f)
    go false = refl

pub round_sign : (f : Format) (s : Bool) (a b : ℕ) → SignIs s (round f s a b)
round_sign f s a b = subst (SignIs s) (sym (round_is f s a b)) (units_sign f s (kept (prec f) (a * 2 ^ low f) b) (drop (prec f) (a * 2 ^ low f) b))

odd_neg : (d : ℕ) (q k l : ℕ) → odd d true q k l ≡ neg (odd d false q k l)
unfolding odd neg
odd_neg d zero k l = refl
odd_neg d (suc q) k l = refl

units_neg : (f : Format) (q k : ℕ) → units f true q k ≡ neg (units f false q k)
unfolding units
units_neg f q k = go (ltb (q * 2 ^ k) (2 ^ (low f + suc (emax f))))
  where
    go : (b : Bool) → cond b (odd (suc (prec f)) true q k (low f)) (inf true) ≡ neg (cond b (odd (suc (prec f)) false q k (low f)) (inf false))
    go true = odd_neg (suc (prec f)) q k (low f)
    go false = unfold neg in refl

round_neg : (f : Format) (a b : ℕ) → round f true a b ≡ neg (round f false a b)
round_neg f a b =
    round_is f true a b
    ∙ units_neg f (kept (prec f) (a * 2 ^ low f) b) (drop (prec f) (a * 2 ^ low f) b)
    ∙ ap neg (sym (round_is f false a b))

under_neg : (x : Float) (a c : ℕ) → Under x false a c → Under (neg x) true a c
unfolding neg
under_neg nan a c u = u
under_neg (inf t) a c u = u
under_neg (fin t m e) a c u = (ap not u.0, u.1)

or_cross : (a b : ℕ) → T (ltb a b || (eqb a b && true)) → a ≤ b
or_cross a b = go (ltb a b) (eqb a b) (ltb→lt a b) (eqb→eq a b)
  where
    go : (x y : Bool) → (T x → a < b) → (T y → a ≡ b) → T (x || (y && true)) → a ≤ b
    go true y f g t = le_of_lt (f tt)
    go false true f g t = le_of_eq (g tt)
    go false false f g t = absurd t

-- a value at most one that is a / c
le_under : (x y : Float) (a c : ℕ) → SignIs false x → T (le x y) → HasValue y false a c → Under x false a c
unfolding le
le_under nan y a c s h v = h
le_under (inf t) nan a c s h v = absurd v
le_under (inf t) (inf r) a c s h v = absurd v
le_under (inf true) (fin r n d) a c s h v = absurd (true≢false s)
le_under (inf false) (fin r n d) a c s h v = h
le_under (fin t m e) nan a c s h v = absurd v
le_under (fin t m e) (inf r) a c s h v = absurd v
le_under (fin true m e) (fin r n d) a c s h v = absurd (true≢false s)
le_under (fin false m e) (fin true n d) a c s h v = absurd (true≢false v.0)
le_under (fin false m e) (fin false n d) a c s h v =
    (refl, through (m * up e) (n * up d) a (down e) (down d) c (down_pos d) (or_cross (m * up e * down d) (n * up d * down e) h) (le_of_eq v.1))

plain_under : (n d a c : ℕ) → 0 < d → 0 < c → Exact a c → n * c ≤ a * d → Under (round binary32 false n d) false a c
plain_under n d a c D C x h = le_under (round binary32 false n d) (round binary32 false a c) a c (round_sign binary32 false n d) (round_mono binary32 n d a c D C h) x

pub round_under : (s : Bool) (n d a c : ℕ) → 0 < d → 0 < c → Exact a c → n * c ≤ a * d → Under (round binary32 s n d) s a c
round_under false n d a c D C x h = plain_under n d a c D C x h
round_under true n d a c D C x h = subst (λ (z : Float). Under z true a c) (sym (round_neg binary32 n d)) (under_neg (round binary32 false n d) a c (plain_under n d a c D C x h))

-- a finite value at least one that is a / c
le_over : (x y : Float) (a c : ℕ) → 0 < c → HasValue x false a c → Finite false y → T (le x y) → a * den y ≤ num y * c
unfolding le
le_over nan y a c C v s h = absurd v
le_over (inf t) y a c C v s h = absurd v
le_over (fin t m e) nan a c C v s h = absurd s
le_over (fin t m e) (inf r) a c C v s h = absurd s
le_over (fin true m e) (fin r n d) a c C v s h = absurd (true≢false v.0)
le_over (fin false m e) (fin true n d) a c C v s h = absurd (true≢false s)
le_over (fin false m e) (fin false n d) a c C v s h =
    through a (m * up e) (n * up d) c (down e) (down d) (down_pos e) (le_of_eq (sym v.1)) (or_cross (m * up e * down d) (n * up d * down e) h)

pub round_over : (n d a c : ℕ) → 0 < d → 0 < c → Exact a c → Finite false (round binary32 false n d) → a * d ≤ n * c → a * den (round binary32 false n d) ≤ num (round binary32 false n d) * c
round_over n d a c D C x s h = le_over (round binary32 false a c) (round binary32 false n d) a c C x s (round_mono binary32 a c n d C D h)

-- ---- products and quotients whose second part is above zero keep the first one's sign
like : (s : Bool) → unlike s false ≡ s
like true = refl
like false = refl

pub mul_under : (x y : Float) (s : Bool) (a c : ℕ) → Finite s x → T (positive y) → 0 < c → Exact a c → num x * num y * c ≤ a * (den x * den y) → Under (mul binary32 x y) s a c
unfolding mul
mul_under nan y s a c p q C x h = absurd p
mul_under (inf t) y s a c p q C x h = absurd p
mul_under (fin t m e) nan s a c p q C x h = absurd q
mul_under (fin t m e) (inf r) s a c p q C x h = absurd q
mul_under (fin t m e) (fin true n d) s a c p q C x h = absurd q
mul_under (fin t m e) (fin false n d) s a c p q C x h =
    subst (λ (r : Bool). Under (round binary32 r (m * up e * (n * up d)) (down e * down d)) s a c) (sym (like t ∙ p))
    (round_under s (m * up e * (n * up d)) (down e * down d) a c (mul-pos (down_pos e) (down_pos d)) C x h)

not_zero : (n : ℕ) → 0 < n → eqb n 0 ≡ false
not_zero n h = go (eqb n 0) (eqb→eq n 0)
  where
    go : (b : Bool) → (T b → n ≡ 0) → b ≡ false
    go false f = refl
    go true f = absurd (let e = f tt in zero_pos n h e)
      where
        zero_pos : (k : ℕ) → 0 < k → k ≡ 0 → ⊥
        zero_pos k h e = omega arith

pub div_under : (x y : Float) (s : Bool) (a c : ℕ) → Finite s x → T (positive y) → 0 < c → Exact a c → num x * den y * c ≤ a * (num y * den x) → Under (div binary32 x y) s a c
unfolding div
div_under nan y s a c p q C x h = absurd p
div_under (inf t) y s a c p q C x h = absurd p
div_under (fin t m e) nan s a c p q C x h = absurd q
div_under (fin t m e) (inf r) s a c p q C x h = absurd q
div_under (fin t m e) (fin true n d) s a c p q C x h = absurd q
div_under (fin t m e) (fin false n d) s a c p q C x h =
    subst (λ (b : Bool). Under (cond b (cond (eqb m 0) nan (inf (unlike t false))) (round binary32 (unlike t false) (m * up e * down d) (n * up d * down e))) s a c) (sym (not_zero n (ltb→lt 0 n q)))
    (subst (λ (r : Bool). Under (round binary32 r (m * up e * down d) (n * up d * down e)) s a c) (sym (like t ∙ p))
    (round_under s (m * up e * down d) (n * up d * down e) a c (mul-pos (mul-pos (ltb→lt 0 n q) (up_pos d)) (down_pos e)) C x h))

-- ---- which fractions are values
pub exact_one : Exact 1 1
unfolding round
exact_one = (refl, refl)

pub exact_whole : (n : ℕ) → n ≤ 2 ^ 24 → Exact n 1
exact_whole n h = round_whole binary32 false n h

pub exact_own : (x : Float) → T (positive x) → T (fits binary32 x) → Exact (num x) (den x)
exact_own nan p f = absurd p
exact_own (inf s) p f = absurd p
exact_own (fin true m e) p f = absurd p
exact_own (fin false m (pos k)) p f =
    let w : m * 2 ^ (k + 149) ≡ m * 2 ^ k * 2 ^ 149 = ap (λ (z : ℕ). m * z) (pow-add 2 k 149) ∙ sym (mul_assoc m (2 ^ k) (2 ^ 149)) in
    round_exact binary32 false (m * 2 ^ k) 1 m (k + 149) (lit< tt) (fits_small m (pos k) f)
    (lt_of_le_of_lt (le_of_eq w) (lt_of_lt_of_le (mul-lt-mul_of_pos_right (fits_below m (pos k) f) (pow_pos 149)) (lit≤ tt)))
    (sym (mul-one (m * 2 ^ (k + 149)) ∙ w))
exact_own (fin false m (negsuc k)) p f =
    let s : suc k ≤ 149 = pow_le_back (suc k) 149 (fits_fine m (negsuc k) f) in
    let b : m < 2 ^ 24 = fits_small m (negsuc k) f in
    let j = 149 - suc k in
    let e : 2 ^ 149 ≡ 2 ^ j * 2 ^ suc k = ap (λ (z : ℕ). 2 ^ z) (sub_back s) ∙ pow-add 2 j (suc k) in
    round_exact binary32 false (m * 1) (2 ^ suc k) m j (pow_pos (suc k)) b
    (lt_of_lt_of_le (mul-lt-mul_of_pos_right b (pow_pos j)) (le_trans (mul-le-mul_left (2 ^ 24) (pow_mono (sub-le 149 (suc k)))) (lit≤ tt)))
    (ap (λ (z : ℕ). z * 2 ^ 149) (mul-one m) ∙ ap (λ (z : ℕ). m * z) e ∙ sym (mul_assoc m (2 ^ j) (2 ^ suc k)))
  where
    sub_back : suc k ≤ 149 → 149 ≡ 149 - suc k + suc k
    sub_back s = omega arith

-- ---- an integer up to 2 ^ 24 as a float
pub int_value : (n : ℕ) → n ≤ 2 ^ 24 → HasValue (of_int binary32 (pos n)) false n 1
unfolding of_int
int_value n h = round_whole binary32 false n h

pub int_positive : (n : ℕ) → 0 < n → n ≤ 2 ^ 24 → T (positive (of_int binary32 (pos n)))
int_positive n N h = positive_of_value (of_int binary32 (pos n)) n 1 (int_value n h) N

-- num (ofN n) = n * den (ofN n)
int_cross : (n : ℕ) → n ≤ 2 ^ 24 → num (of_int binary32 (pos n)) ≡ n * den (of_int binary32 (pos n))
int_cross n h = sym (mul-one (num (of_int binary32 (pos n)))) ∙ value→cross (of_int binary32 (pos n)) n 1 (int_value n h)

-- ---- x at most 1, times n: at most n
pub times : (x : Float) (s : Bool) (n : ℕ) → Under x s 1 1 → 0 < n → n ≤ 2 ^ 24 → Under (mul binary32 x (of_int binary32 (pos n))) s n 1
times x s n u N h =
    let y = of_int binary32 (pos n) in
    mul_under x y s n 1 (under_finite x s 1 1 u) (int_positive n N h) (lit< tt) (exact_whole n h)
    (le_trans (le_of_eq (mul-one (num x * num y)))
    (le_trans (mul-le-mul (le_trans (le_of_eq (sym (mul-one (num x)))) (le_trans (under_cross x s 1 1 u) (le_of_eq (one-mul (den x))))) (le_of_eq (int_cross n h)))
    (le_of_eq (mul_left_comm (den x) n (den y)))))

-- divided by g, where n is at most g: at most 1
pub over : (x : Float) (s : Bool) (n g : ℕ) → Under x s n 1 → 0 < g → n ≤ g → g ≤ 2 ^ 24 → Under (div binary32 x (of_int binary32 (pos g))) s 1 1
over x s n g u G h k =
    let y = of_int binary32 (pos g) in
    let a : num x ≤ n * den x = le_trans (le_of_eq (sym (mul-one (num x)))) (under_cross x s n 1 u) in
    div_under x y s 1 1 (under_finite x s n 1 u) (int_positive g G k) (lit< tt) exact_one
    (le_trans (le_of_eq (mul-one (num x * den y)))
    (le_trans (mul-le-mul_right (den y) (le_trans a (mul-le-mul_right (den x) h)))
    (le_of_eq (mul_right_comm g (den x) (den y) ∙ ap (λ (z : ℕ). z * den x) (sym (int_cross g k)) ∙ sym (one-mul (num y * den x))))))

pub divided : (x : Float) (s : Bool) (n g : ℕ) → Under x s 1 1 → 0 < n → n ≤ g → g ≤ 2 ^ 24 → Under (div binary32 (mul binary32 x (of_int binary32 (pos n))) (of_int binary32 (pos g))) s 1 1
divided x s n g u N h k = over (mul binary32 x (of_int binary32 (pos n))) s n g (times x s n u N (le_trans h k)) (lt_of_lt_of_le N h) h k
