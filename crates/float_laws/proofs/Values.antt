-- What a 32-bit float holds: a significand below 2 ^ 24, over at most 2 ^ 149, and a value below 2 ^ 128. Assumes nothing.
use mathlib.Core.Path.{sym, ◌∙◌, subst}
use Prim.Native.Nat.{ℕ, zero, suc, ◌*◌, ◌%◌, ◌^◌, ◌≤◌, ◌<◌}
use native.Mathlib.Nat.{le_trans, le_of_eq, lt_of_not-le, not-le_of_lt, one-mul, zero-mul, mul-pos}
use native.Mathlib.Omega.{arith}
use mathlib.Core.Bool.{Bool, true, false, ◌&&◌}
use lib.Dec.{T, ltb, leb, eqb, ltb→lt, leb→le, eqb→eq, lit<, lit≤}
use lib.IntN.{ℤ, pos, negsuc}
use lib.Pow.{pow-lt}
use lib.Ieee.{fin, binary32, up, down, fits}
use lib.Ieee.Fits.{down_pos}

pub pow_le_back : (i j : ℕ) → 2 ^ i ≤ 2 ^ j → i ≤ j
pow_le_back i j h = lt_back (λ (g : j < i). not-le_of_lt (pow-lt g) h)
  where
    lt_back : (j < i → ⊥) → i ≤ j
    lt_back f = le_of_suc (lt_of_not-le f)
      where
        le_of_suc : i < suc j → i ≤ j
        le_of_suc g = omega arith

-- ---- a value that a 32-bit float holds
middle : (a b c d : Bool) → T (a && b && c && d) → T b × T c × T d
middle true true true d t = (tt, tt, t)
middle true true false d t = absurd t
middle true false c d t = absurd t
middle false b c d t = absurd t

held : (m : ℕ) (e : ℤ) → T (fits binary32 (fin false (suc m) e)) → T (ltb (suc m) (2 ^ 24)) × T (leb (down e) (2 ^ 149)) × T (ltb (suc m * up e) (2 ^ 128 * down e))
unfolding fits
held m e t = middle (eqb (suc m % 2) 1) (ltb (suc m) (2 ^ 24)) (leb (down e) (2 ^ 149)) (ltb (suc m * up e) (2 ^ 128 * down e)) t

pub fits_small : (m : ℕ) (e : ℤ) → T (fits binary32 (fin false m e)) → m < 2 ^ 24
fits_small zero e t = lit< tt
fits_small (suc m) e t = ltb→lt (suc m) (2 ^ 24) (held m e t).0

pub fits_fine : (m : ℕ) (e : ℤ) → T (fits binary32 (fin false m e)) → down e ≤ 2 ^ 149
unfolding fits
fits_fine zero (pos k) t = lit≤ tt
fits_fine zero (negsuc k) t = le_trans (le_of_eq (sym (one-mul (2 ^ suc k)) ∙ eqb→eq (1 * 2 ^ suc k) 1 t)) (lit≤ tt)
fits_fine (suc m) e t = leb→le (down e) (2 ^ 149) (held m e t).1

pub fits_below : (m : ℕ) (e : ℤ) → T (fits binary32 (fin false m e)) → m * up e < 2 ^ 128 * down e
fits_below zero e t = subst (λ (z : ℕ). z < 2 ^ 128 * down e) (sym (zero-mul (up e))) (mul-pos (lit< tt) (down_pos e))
fits_below (suc m) e t = ltb→lt (suc m * up e) (2 ^ 128 * down e) (held m e t).2
