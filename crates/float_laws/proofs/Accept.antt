-- What rule 3 tells of a pair: kr, kb and kg are above zero and at most 1, and each is at most 1 - kb and 1 - kr, as they are worked out. Assumes nothing.
use mathlib.Core.Path.{◌≡◌, refl, sym, ap, ◌∙◌, subst}
use mathlib.Core.Logic.{inl, inr}
use Prim.Native.Nat.{ℕ, suc, ◌+◌, ◌-◌, ◌*◌, ◌≤◌, ◌<◌, zero-le}
use native.Mathlib.Nat.{le_trans, le_of_eq, le_of_lt, lt_of_lt_of_le, lt_of_le_of_lt, lt_of_not-le, not-le_of_lt, lt_irrefl, eq-or-lt_of_le, mul-one, one-mul, mul_assoc, mul_comm, mul_left_comm, mul-pos, mul-le-mul_right, mul-le-mul_left, mul-sub, sub-le, le_of_mul-le-mul_right}
use native.Mathlib.Omega.{arith}
use mathlib.Core.Bool.{Bool, true, false, ◌&&◌, cond, true≢false}
use lib.Dec.{T, ltb, ltb→lt, lt→ltb, lit<}
use lib.IntN.{ℤ, pos}
use lib.Ieee.{Float, nan, inf, fin, binary32, up, down, round, sum, sub, mul, div, le, lt, fits}
use lib.Ieee.Fits.{up_pos, down_pos, sub-fits}
use lib.Ieee.Exact.{HasValue, round_exact}
use lib.Ieee.Order.{round_mono}
use lib.Ieee.Positive.{num, den, positive, above, den_pos, first_pos, through, value_pos, le→cross}
use Rattle.rules.specs.Weights.{nought, one, minus_half, pair}
use Rattle.rules.specs.Weights as W
use Rattle.rules.specs.Settle.{positive_pair}
use Rattle.float_laws.proofs.Bounds.{Under, Exact, Finite, SignIs, under_finite, under_cross, round_sign, round_under, round_over, mul_under, div_under, exact_one, exact_own}

-- kg of a pair
abbrev pub rest : Float → Float → Float
rest kr kb = W.rest (pair kr kb)

-- ---- above zero
lt→above : (x : Float) → T (lt nought x) → T (above x)
unfolding lt
lt→above nan h = h
lt→above (inf true) h = h
lt→above (inf false) h = h
lt→above (fin true m e) h = h
lt→above (fin false m e) h =
    let g : 0 * down e < m * up e * 1 = ltb→lt (0 * down e) (m * up e * 1) h in
    lt→ltb 0 m (first_pos m (up e) (omega arith))

negative_not_above : (x : Float) → SignIs true x → T (above x) → ⊥
negative_not_above nan s h = h
negative_not_above (inf true) s h = h
negative_not_above (inf false) s h = true≢false (sym s)
negative_not_above (fin true m e) s h = h
negative_not_above (fin false m e) s h = true≢false (sym s)

-- ---- differences
both_negative : (x : Float) (n : ℕ) (d : ℤ) → SignIs true x → SignIs true (sub binary32 x (fin false n d))
unfolding sub
both_negative nan n d s = tt
both_negative (inf t) n d s = s
both_negative (fin false m e) n d s = absurd (true≢false (sym s))
both_negative (fin true m e) n d s = round_sign binary32 true (m * up e * down d + n * up d * down e) (down e * down d)

from_infinity : (x : Float) → T (above (sub binary32 x (inf false))) → ⊥
unfolding sub
from_infinity nan h = h
from_infinity (inf true) h = h
from_infinity (inf false) h = h
from_infinity (fin t m e) h = h

infinity_first : (y : Float) → T (above y) → T (above (sub binary32 (sub binary32 one (inf false)) y)) → ⊥
unfolding sub
infinity_first nan a h = h
infinity_first (inf true) a h = a
infinity_first (inf false) a h = h
infinity_first (fin t n d) a h = h

opened : (m : ℕ) (e : ℤ) (n : ℕ) (d : ℤ) → sub binary32 (fin false m e) (fin false n d) ≡ sum binary32 false (m * up e * down d) true (n * up d * down e) (down e * down d)
unfolding sub
opened m e n d = refl

pick_ge : (a b c : ℕ) → b ≤ a → sum binary32 false a true b c ≡ round binary32 false (a - b) c
unfolding sum
pick_ge a b c h = go (ltb a b) (ltb→lt a b)
  where
    go : (t : Bool) → (T t → a < b) → cond t (round binary32 true (b - a) c) (round binary32 false (a - b) c) ≡ round binary32 false (a - b) c
    go true k = absurd (not-le_of_lt (k tt) h)
    go false k = refl

pick_lt : (a b c : ℕ) → a < b → sum binary32 false a true b c ≡ round binary32 true (b - a) c
unfolding sum
pick_lt a b c h = go (ltb a b) (lt→ltb a b h)
  where
    go : (t : Bool) → T t → cond t (round binary32 true (b - a) c) (round binary32 false (a - b) c) ≡ round binary32 true (b - a) c
    go true k = refl
    go false k = absurd k

-- x - y above zero, for an x and a y that are finite and not negative, says that y is below x
nothing_left : (c : ℕ) → 0 < c → T (above (round binary32 false 0 c)) → ⊥
nothing_left c C h =
    let v : HasValue (round binary32 false 0 c) false 0 c = round_exact binary32 false 0 c 0 0 C (lit< tt) (lit< tt) (zero_eq c) in
    lt_irrefl 0 (value_pos (round binary32 false 0 c) 0 c (finite_above (round binary32 false 0 c) v h) C v)
  where
    zero_eq : (d : ℕ) → 0 ≡ 0 * d
    zero_eq d = omega arith

    finite_above : (x : Float) → HasValue x false 0 c → T (above x) → T (positive x)
    finite_above nan v h = h
    finite_above (inf s) v h = absurd v
    finite_above (fin true m e) v h = h
    finite_above (fin false m e) v h = h

same : (x y : ℕ) → x ≡ y → x - y ≡ 0
same x y q = omega arith

sum_above : (a b c : ℕ) → 0 < c → T (above (sum binary32 false a true b c)) → b < a
sum_above a b c C h = lt_of_not-le (λ (g : a ≤ b). elim (eq-or-lt_of_le g) [
  | inl q ↦
      nothing_left c C
      (subst (λ (z : ℕ). T (above (round binary32 false z c))) (same a b q)
      (subst (λ (z : Float). T (above z)) (pick_ge a b c (le_of_eq (sym q))) h))
  | inr l ↦ negative_not_above (round binary32 true (b - a) c) (round_sign binary32 true (b - a) c) (subst (λ (z : Float). T (above z)) (pick_lt a b c l) h)
])

below_of_above : (m : ℕ) (e : ℤ) (n : ℕ) (d : ℤ) → T (above (sub binary32 (fin false m e) (fin false n d))) → n * up d * down e < m * up e * down d
below_of_above m e n d h = sum_above (m * up e * down d) (n * up d * down e) (down e * down d) (mul-pos (down_pos e) (down_pos d)) (subst (λ (z : Float). T (above z)) (opened m e n d) h)

-- ---- the pair
data Both : Float → Float → Type 0 where
  both : (m : ℕ) (e : ℤ) (n : ℕ) (d : ℤ) → T (ltb 0 m) → T (ltb 0 n) → Both (fin false m e) (fin false n d)

both_finite : (kr kb : Float) → T (above kr) → T (above kb) → T (above (rest kr kb)) → Both kr kb
both_finite nan kb p q r = absurd p
both_finite (inf true) kb p q r = absurd p
both_finite (inf false) kb p q r = absurd (infinity_first kb q r)
both_finite (fin true m e) kb p q r = absurd p
both_finite (fin false m e) nan p q r = absurd q
both_finite (fin false m e) (inf true) p q r = absurd q
both_finite (fin false m e) (inf false) p q r = absurd (from_infinity (sub binary32 one (fin false m e)) r)
both_finite (fin false m e) (fin true n d) p q r = absurd q
both_finite (fin false m e) (fin false n d) p q r = both m e n d p q

le_of_not_lt : (x y : ℕ) → (y < x → ⊥) → x ≤ y
le_of_not_lt x y f = go (lt_of_not-le f)
  where
    go : x < suc y → x ≤ y
    go h = omega arith

-- 1 - x for an x that is not negative and at most 1
one_minus : (m : ℕ) (e : ℤ) → m * up e ≤ down e → sub binary32 one (fin false m e) ≡ round binary32 false (down e - m * up e) (down e)
one_minus m e h =
    opened 1 (pos 0) m e
    ∙ pick_ge (1 * down e) (m * up e * 1) (1 * down e) (omega arith)
    ∙ ap (λ (z : ℕ). round binary32 false (z - m * up e * 1) z) (one-mul (down e))
    ∙ ap (λ (z : ℕ). round binary32 false (down e - z) (down e)) (mul-one (m * up e))

one_minus_under : (m : ℕ) (e : ℤ) → m * up e ≤ down e → Under (sub binary32 one (fin false m e)) false 1 1
one_minus_under m e h =
    subst (λ (z : Float). Under z false 1 1) (sym (one_minus m e h))
    (round_under false (down e - m * up e) (down e) 1 1 (down_pos e) (lit< tt) exact_one (omega arith))

at_most_one : (m : ℕ) (e : ℤ) (n : ℕ) (d : ℤ) → T (above (rest (fin false m e) (fin false n d))) → m * up e ≤ down e
at_most_one m e n d r = le_of_not_lt (m * up e) (down e) (λ (g : down e < m * up e).
    negative_not_above (rest (fin false m e) (fin false n d))
    (both_negative (sub binary32 one (fin false m e)) n d
    (subst (SignIs true) (sym (opened 1 (pos 0) m e ∙ pick_lt (1 * down e) (m * up e * 1) (1 * down e) (longer (down e) (m * up e) g)))
    (round_sign binary32 true (m * up e * 1 - 1 * down e) (1 * down e)))) r)
  where
    longer : (x y : ℕ) → x < y → 1 * x < y * 1
    longer x y g = omega arith

-- r - kb, for an r that is not negative
less_is : (r : Float) (n : ℕ) (d : ℤ) → Finite false r → n * up d * den r ≤ num r * down d → sub binary32 r (fin false n d) ≡ round binary32 false (num r * down d - n * up d * den r) (den r * down d)
less_is nan n d f h = absurd f
less_is (inf t) n d f h = absurd f
less_is (fin true p q) n d f h = absurd (true≢false f)
less_is (fin false p q) n d f h = opened p q n d ∙ pick_ge (p * up q * down d) (n * up d * down q) (down q * down d) h

less_above : (r : Float) (n : ℕ) (d : ℤ) → Finite false r → T (above (sub binary32 r (fin false n d))) → n * up d * den r < num r * down d
less_above nan n d f h = absurd f
less_above (inf t) n d f h = absurd f
less_above (fin true p q) n d f h = absurd (true≢false f)
less_above (fin false p q) n d f h = below_of_above p q n d h

finite_positive : (x : Float) → Finite false x → 0 < num x → T (positive x)
finite_positive nan f h = absurd f
finite_positive (inf t) f h = absurd f
finite_positive (fin true m e) f h = absurd (true≢false f)
finite_positive (fin false m e) f h = lt→ltb 0 m (first_pos m (up e) h)

above_positive : (x : Float) → Finite false x → T (above x) → T (positive x)
above_positive nan f h = absurd f
above_positive (inf t) f h = absurd f
above_positive (fin true m e) f h = absurd (true≢false f)
above_positive (fin false m e) f h = h

-- ---- what is known of the pair
pub record Known (kr kb : Float) : Type 0 where
  pub kr_above : T (positive kr)
  pub kb_above : T (positive kb)
  pub kg_above : T (positive (rest kr kb))
  pub kr_one : Under kr false 1 1
  pub kb_one : Under kb false 1 1
  pub kg_one : Under (rest kr kb) false 1 1
  pub sub_kb : T (positive (sub binary32 one kb))
  pub sub_kr : T (positive (sub binary32 one kr))
  pub kr_part : num kr * den (sub binary32 one kb) ≤ num (sub binary32 one kb) * den kr
  pub kg_part : num (rest kr kb) * den (sub binary32 one kb) ≤ num (sub binary32 one kb) * den (rest kr kb)
  pub kb_part : num kb * den (sub binary32 one kr) ≤ num (sub binary32 one kr) * den kb
  pub kg_part_r : num (rest kr kb) * den (sub binary32 one kr) ≤ num (sub binary32 one kr) * den (rest kr kb)

-- orders of products, with p ≡ q for two ways to write one
swap_parts : (a b c g : ℕ) → a ≤ b → c * b ≤ (b - a) * g → a * g ≤ (g - c) * b
swap_parts a b c g h k =
    let x : (b - a) * g ≡ g * b - g * a = mul_comm (b - a) g ∙ mul-sub g b a in
    let y : (g - c) * b ≡ b * g - b * c = mul_comm (g - c) b ∙ mul-sub b g c in
    let ag : g * a ≡ a * g = mul_comm g a in
    let bg : g * b ≡ b * g = mul_comm g b in
    let cb : b * c ≡ c * b = mul_comm b c in
    let l : g * a ≤ g * b = mul-le-mul_left g h in
    omega arith

-- R is 1 - kr, rounded, and U is 1 - kb, rounded. a / b is kr, and c / g is kb
sum_below : (a b c g : ℕ) (R : Float) → 0 < b → 0 < g → a ≤ b → Exact c g → R ≡ round binary32 false (b - a) b → c * den R < num R * g → c * b ≤ (b - a) * g
sum_below a b c g R B G h x q l = le_of_not_lt (c * b) ((b - a) * g) (λ (k : (b - a) * g < c * b).
    not-le_of_lt l (under_cross R false c g (subst (λ (z : Float). Under z false c g) (sym q) (round_under false (b - a) b c g B G x (le_of_lt k)))))

kg_frac : (p q c g : ℕ) → p ≤ q → (p * g - c * q) * g ≤ (g - c) * (q * g)
kg_frac p q c g h =
    let l : p * g ≤ q * g = mul-le-mul_right g h in
    let x : (g - c) * q ≡ q * g - q * c = mul_comm (g - c) q ∙ mul-sub q g c in
    let y : q * c ≡ c * q = mul_comm q c in
    let k : p * g - c * q ≤ (g - c) * q = omega arith in
    le_trans (mul-le-mul_right g k) (le_of_eq (mul_assoc (g - c) q g))

kg_own : (p q c g : ℕ) → (p * g - c * q) * q ≤ p * (q * g)
kg_own p q c g = le_trans (mul-le-mul_right q (sub-le (p * g) (c * q))) (le_of_eq (mul_assoc p g q ∙ ap (λ (z : ℕ). p * z) (mul_comm g q)))

kg-one' : (p q c g : ℕ) → p ≤ q → (p * g - c * q) * 1 ≤ 1 * (q * g)
kg-one' p q c g h = let l : p * g ≤ q * g = mul-le-mul_right g h in omega arith

plain : (x y : ℕ) → x * 1 ≤ 1 * y → x ≤ y
plain x y h = omega arith

unplain : (x y : ℕ) → x ≤ y → x * 1 ≤ 1 * y
unplain x y h = omega arith

known_of : (m : ℕ) (e : ℤ) (n : ℕ) (d : ℤ) → T (ltb 0 m) → T (ltb 0 n) → T (fits binary32 (fin false m e)) → T (fits binary32 (fin false n d))
    → T (above (rest (fin false m e) (fin false n d))) → Known (fin false m e) (fin false n d)
known_of m e n d P Q F G K =
    let kr = fin false m e in
    let kb = fin false n d in
    let a = m * up e in
    let b = down e in
    let c = n * up d in
    let g = down d in
    let R = sub binary32 one kr in
    let U = sub binary32 one kb in
    let kg = rest kr kb in
    let ab : a ≤ b = at_most_one m e n d K in
    let R-one : Under R false 1 1 = one_minus_under m e ab in
    let R-fin : Finite false R = under_finite R false 1 1 R-one in
    let kb-R : c * den R < num R * g = less_above R n d R-fin K in
    let R-pos : T (positive R) = finite_positive R R-fin (first_pos (num R) g (lt_of_le_of_lt zero-le kb-R)) in
    let R-le : num R ≤ den R = plain (num R) (den R) (under_cross R false 1 1 R-one) in
    let sums : c * b ≤ (b - a) * g = sum_below a b c g R (down_pos e) (down_pos d) ab (exact_own kb Q G) (one_minus m e ab) kb-R in
    let cg : c ≤ g = le_of_mul-le-mul_right (le_trans sums (le_trans (mul-le-mul_right g (sub-le b a)) (le_of_eq (mul_comm b g)))) (down_pos e) in
    let U-one : Under U false 1 1 = one_minus_under n d cg in
    let U-fin : Finite false U = under_finite U false 1 1 U-one in
    let U-is : U ≡ round binary32 false (g - c) g = one_minus n d cg in
    let kr-U : a * den U ≤ num U * b = subst (λ (z : Float). a * den z ≤ num z * b) (sym U-is) (round_over (g - c) g a b (down_pos d) (down_pos e) (exact_own kr P F) (subst (Finite false) U-is U-fin) (swap_parts a b c g ab sums)) in
    let U_pos : T (positive U) = finite_positive U U-fin (first_pos (num U) b (lt_of_lt_of_le (mul-pos (mul-pos (ltb→lt 0 m P) (up_pos e)) (den_pos U)) kr-U)) in
    let kg-is : kg ≡ round binary32 false (num R * g - c * den R) (den R * g) = less_is R n d R-fin (le_of_lt kb-R) in
    let D : 0 < den R * g = mul-pos (den_pos R) (down_pos d) in
    let kg_one : Under kg false 1 1 = subst (λ (z : Float). Under z false 1 1) (sym kg-is) (round_under false (num R * g - c * den R) (den R * g) 1 1 D (lit< tt) exact_one (kg-one' (num R) (den R) c g R-le)) in
    let kg-pos : T (positive kg) = above_positive kg (under_finite kg false 1 1 kg_one) K in
    let kg-R : Under kg false (num R) (den R) = subst (λ (z : Float). Under z false (num R) (den R)) (sym kg-is) (round_under false (num R * g - c * den R) (den R * g) (num R) (den R) D (den_pos R) (exact_own R R-pos (sub-fits binary32 one kr)) (kg_own (num R) (den R) c g)) in
    let kg-le : T (le kg U) = subst (λ (z : Float). T (le z U)) (sym kg-is) (subst (λ (z : Float). T (le (round binary32 false (num R * g - c * den R) (den R * g)) z)) (sym U-is) (round_mono binary32 (num R * g - c * den R) (den R * g) (g - c) g D (down_pos d) (kg_frac (num R) (den R) c g R-le))) in
    record {
      kr_above = P;
      kb_above = Q;
      kg_above = kg-pos;
      kr_one = (refl, unplain a b ab);
      kb_one = (refl, unplain c g cg);
      kg_one = kg_one;
      sub_kb = U_pos;
      sub_kr = R-pos;
      kr_part = kr-U;
      kg_part = le→cross kg U kg-pos U_pos kg-le;
      kb_part = le_of_lt kb-R;
      kg_part_r = under_cross kg false (num R) (den R) kg-R;
    }

and3 : (x y z : Bool) → T (x && (y && z)) → T x × T y × T z
and3 true true true t = (tt, tt, tt)
and3 true true false t = absurd t
and3 true false z t = absurd t
and3 false y z t = absurd t

pub known : (kr kb : Float) → T (fits binary32 kr) → T (fits binary32 kb) → T (positive_pair (pair kr kb)) → Known kr kb
known kr kb f g t =
    let h = and3 (lt nought kr) (lt nought kb) (lt nought (rest kr kb)) t in
    let k = lt→above (rest kr kb) h.2 in
    go kr kb (both_finite kr kb (lt→above kr h.0) (lt→above kb h.1) k) f g k
  where
    go : (kr kb : Float) → Both kr kb → T (fits binary32 kr) → T (fits binary32 kb) → T (above (rest kr kb)) → Known kr kb
    go kr kb (both m e n d p q) f g k = known_of m e n d p q f g k

-- ---- -1/2 * k / u for a k at most u
half_part : (x y : ℕ) → 1 * x * y ≤ x * (2 * y)
half_part x y =
    let a : x * (2 * y) ≡ 2 * (x * y) = mul_left_comm x 2 y in
    let b : 1 * x * y ≡ x * y = ap (λ (z : ℕ). z * y) (one-mul x) in
    omega arith

pub ratio : (k u : Float) → T (positive k) → T (fits binary32 k) → T (positive u) → num k * den u ≤ num u * den k → Under (div binary32 (mul binary32 minus_half k) u) true 1 1
ratio k u p f q h =
    let x = mul binary32 minus_half k in
    let b : Under x true (num k) (den k) = mul_under minus_half k true (num k) (den k) refl p (den_pos k) (exact_own k p f) (half_part (num k) (den k)) in
    div_under x u true 1 1 (under_finite x true (num k) (den k) b) q (lit< tt) exact_one
    (unplain (num x * den u) (num u * den x) (through (num x) (num k) (num u) (den x) (den k) (den u) (den_pos k) (under_cross x true (num k) (den k) b) h))
