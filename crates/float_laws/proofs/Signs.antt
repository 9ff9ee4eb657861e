-- The nine whole weights of a pair that rule 3 accepts have their signs, and are at most 2 ^ P in size. Assumes nothing.
use mathlib.Core.Path.{◌≡◌, refl, sym, ap, subst}
use Prim.Native.Nat.{ℕ, zero, suc, ◌+◌, ◌*◌, ◌/◌, ◌^◌, ◌≤◌, ◌<◌}
use native.Mathlib.Nat.{mul_assoc, add-mul, mul-pos, div-lt_iff_lt-mul}
use native.Mathlib.Omega.{arith}
use mathlib.Core.Bool.{Bool, true, false}
use lib.Dec.{T, lit<, lit≤}
use lib.Pow.{pow_pos}
use lib.IntN.{nat_abs}
use lib.Ieee.{Float, nan, inf, fin, binary32, up, down, mul, div, sub, fits}
use lib.Ieee.Fits.{down_pos, sub-fits}
use Rattle.rules.specs.Weights.{one, half, minus_half, whole, own_part, pair, forward, integers, half_up, signed, rounded, scaled}
use Rattle.rules.specs.Settle.{positive_pair}
use Rattle.rule_laws.specs.Signs.{SignedWithin, Bounded}
use Rattle.float_laws.proofs.Rounding.{capped}
use Rattle.float_laws.proofs.Bounds.{Under, times, divided}
use Rattle.float_laws.proofs.Accept.{known, ratio, rest}

half_le : (a c n : ℕ) → 0 < c → a * 1 ≤ n * c → capped (half_up a c) ≤ n
half_le a c n C h =
    let x : (n + 1) * (c * 2) ≡ n * (c * 2) + 1 * (c * 2) = add-mul n 1 (c * 2) in
    let y : n * c * 2 ≡ n * (c * 2) = mul_assoc n c 2 in
    let g : (a * 2 + c) / (c * 2) < n + 1 = (div-lt_iff_lt-mul (mul-pos C (lit< tt))).1 (omega arith) in
    omega arith

abs_signed : (s : Bool) (k : ℕ) → nat_abs (signed s k) ≡ k
abs_signed false k = refl
abs_signed true zero = refl
abs_signed true (suc k) = refl

sized : (s : Bool) (k b : ℕ) → k ≤ b → SignedWithin s b (signed s k)
sized s k b h = record { sign = ap (signed s) (sym (abs_signed s k)); size = subst (λ (z : ℕ). z ≤ b) (sym (abs_signed s k)) h }

sized_rounded : (x : Float) (s : Bool) (n : ℕ) → Under x s n 1 → SignedWithin s n (rounded x)
unfolding rounded
sized_rounded nan s n u = absurd u
sized_rounded (inf t) s n u = absurd u
sized_rounded (fin t m e) s n u =
    subst (λ (r : Bool). SignedWithin s n (signed r (capped (half_up (m * up e) (down e))))) (sym u.0)
    (sized s (capped (half_up (m * up e) (down e))) n (half_le (m * up e) (down e) n (down_pos e) u.1))

weight : (x : Float) (s : Bool) (p : ℕ) → Under x s 1 1 → 2 ^ p ≤ 2 ^ 24 → SignedWithin s (2 ^ p) (scaled p x)
weight x s p u h = sized_rounded (mul binary32 x (whole (2 ^ p))) s (2 ^ p) (times x s (2 ^ p) u (pow_pos p) h)

-- any of the nine, from what it is before the range comes in
part : (x : Float) (s : Bool) (n g p : ℕ) → Under x s 1 1 → 0 < n → n ≤ g → g ≤ 2 ^ 24 → 2 ^ p ≤ 2 ^ 24 → SignedWithin s (2 ^ p) (scaled p (div binary32 (mul binary32 x (whole n)) (whole g)))
part x s n g p u N k G h = weight (div binary32 (mul binary32 x (whole n)) (whole g)) s p (divided x s n g u N k G) h

halved_own : Under half false 1 1
halved_own = (refl, lit≤ tt)

pub signs : (rgba ry ruv p : ℕ) (kr kb : Float) → 0 < ry → ry ≤ rgba → 0 < ruv → ruv ≤ rgba → rgba ≤ 2 ^ 24 → 2 ^ p ≤ 2 ^ 24
    → T (fits binary32 kr) → T (fits binary32 kb) → T (positive_pair (pair kr kb)) → Bounded (2 ^ p) (integers p (forward rgba ry ruv (pair kr kb)))
unfolding forward
signs rgba ry ruv p kr kb y0 y1 v0 v1 top small f f' t =
    let k = known kr kb f f' t in
    let kg = rest kr kb in
    let kgf = sub-fits binary32 (sub binary32 one kr) kb in
    let U = sub binary32 one kb in
    let R = sub binary32 one kr in
    let own : SignedWithin false (2 ^ p) (scaled p (own_part rgba ruv)) = part half false ruv rgba p halved_own v0 v1 top small in
    record {
      yr = part kr false ry rgba p k.kr_one y0 y1 top small;
      yg = part kg false ry rgba p k.kg_one y0 y1 top small;
      yb = part kb false ry rgba p k.kb_one y0 y1 top small;
      cbr = part (div binary32 (mul binary32 minus_half kr) U) true ruv rgba p (ratio kr U k.kr_above f k.sub_kb k.kr_part) v0 v1 top small;
      cbg = part (div binary32 (mul binary32 minus_half kg) U) true ruv rgba p (ratio kg U k.kg_above kgf k.sub_kb k.kg_part) v0 v1 top small;
      cbb = own;
      crr = own;
      crg = part (div binary32 (mul binary32 minus_half kg) R) true ruv rgba p (ratio kg R k.kg_above kgf k.sub_kr k.kg_part_r) v0 v1 top small;
      crb = part (div binary32 (mul binary32 minus_half kb) R) true ruv rgba p (ratio kb R k.kb_above f' k.sub_kr k.kb_part) v0 v1 top small;
    }
