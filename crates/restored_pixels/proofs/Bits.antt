-- Three numbers whose bits joined have none outside m = 2^d − 1 are 0 to m. Assumes nothing.
use mathlib.Core.Path.{◌≡◌, refl, sym, ap, ◌∙◌, subst}
use mathlib.Core.Bool.{true}
use Prim.Native.Nat.{ℕ, zero, suc, ◌+◌, ◌-◌, ◌*◌, ◌/◌, ◌^◌, ◌≤◌, ◌<◌}
use native.Mathlib.Nat.{div-add-mod', mod-lt}
use native.Mathlib.Omega.{arith}
use lib.Bits.{bit_and, bit_or, or_add_and, and_le_l, and_le_r, or_lt, and_high}
use lib.Dec.{eqb}
use lib.IntN.{ℤ, pos, negsuc, ◌-ℤ◌}
use lib.Pow.{pow_pos, pow_mono, shr_mod}
use borrow.Author.Tests.{eqb-true}
use mir.Syntax.{w64}
use mir.Val.{SFits, to_z, of_z}
use mir.ValLaws.{to_z_pos}
use Rattle.restored_pixels.specs.Terms.{UpTo, OnlyUpTo}

-- a number as 64 bits
of_lt : (z : ℤ) → SFits w64 z → of_z w64 z < 2 ^ 64
of_lt (pos n) f = omega (arith, f.sfits)
of_lt (negsuc n) f = omega (arith, f.sfits)

up_to : (m : ℕ) (z : ℤ) → SFits w64 z → m ≤ 65535 → of_z w64 z ≤ m → UpTo m z
up_to m (pos n) f h l = record { is = refl; small = l }
up_to m (negsuc n) f h l = absurd (omega (arith, f.sfits))

or_left : (a b : ℕ) → a ≤ bit_or a b
or_left a b = omega (arith, or_add_and a b, and_le_r a b)

or_right : (a b : ℕ) → b ≤ bit_or a b
or_right a b = omega (arith, or_add_and a b, and_le_l a b)

-- the bits outside m
less_all : (m : ℕ) → negsuc 0 -ℤ pos m ≡ negsuc m
less_all zero = refl
less_all (suc m) = let e : 0 + m ≡ m = omega arith in ap (λ (k : ℕ). negsuc (suc k)) e

module _ (d m : ℕ) (h : d ≤ 16) (e : m ≡ 2 ^ d - 1) where
  m_small : m ≤ 65535
  m_small = omega (arith, pow_mono {i = d} {j = 16} h)

  mask : negsuc 0 -ℤ to_z w64 m ≡ negsuc m
  mask = ap (λ (z : ℤ). negsuc 0 -ℤ z) (to_z_pos w64 m (omega (arith, m_small))) ∙ less_all m

  pub mask_fits : SFits w64 (negsuc 0 -ℤ to_z w64 m)
  mask_fits = rw mask (record { sfits = omega (arith, m_small) })

  -- a number of 64 bits that has none of these is at most m
  inside : (n : ℕ) → n < 2 ^ 64 → bit_and n (of_z w64 (negsuc 0 -ℤ to_z w64 m)) ≡ 0 → n ≤ m
  inside n l z =
      let s : (64 - d) + d ≡ 64 = omega arith in
      let o : of_z w64 (negsuc 0 -ℤ to_z w64 m) ≡ 2 ^ ((64 - d) + d) - 2 ^ d =
      ap (of_z w64) mask ∙ (let q : 2 ^ 64 - suc m ≡ 2 ^ 64 - 2 ^ d = omega (arith, pow_pos d) in q) ∙ ap (λ (k : ℕ). 2 ^ k - 2 ^ d) (sym s) in
      let l' : n < 2 ^ ((64 - d) + d) = subst (λ (k : ℕ). n < 2 ^ k) (sym s) l in
      let g : (n / 2 ^ d) * 2 ^ d ≡ 0 =
      sym (ap (λ (k : ℕ). k * 2 ^ d) (shr_mod (64 - d) d l')) ∙ sym (and_high n (64 - d) d) ∙ sym (ap (bit_and n) o) ∙ z in
      omega (arith, g, div-add-mod' n (2 ^ d), mod-lt n (pow_pos d))

  module _ (a b c : ℤ) (fa : SFits w64 a) (fb : SFits w64 b) (fc : SFits w64 c) where
    joined : ℕ
    joined = bit_or (bit_or (of_z w64 a) (of_z w64 b)) (of_z w64 c)

    small : eqb (bit_and joined (of_z w64 (negsuc 0 -ℤ to_z w64 m))) 0 ≡ true → joined ≤ m
    unfolding joined
    small t = inside joined (or_lt 64 _ _ (or_lt 64 _ _ (of_lt a fa) (of_lt b fb)) (of_lt c fc)) (eqb-true _ _ t)

    pub only_up_to : OnlyUpTo m a b c (eqb (bit_and (bit_or (bit_or (of_z w64 a) (of_z w64 b)) (of_z w64 c)) (of_z w64 (negsuc 0 -ℤ to_z w64 m))) 0)
    unfolding joined
    only_up_to =
        let ab = bit_or (of_z w64 a) (of_z w64 b) in
        record {
          first = λ t. up_to m a fa m_small (omega (arith, small t, or_left (of_z w64 a) (of_z w64 b), or_left ab (of_z w64 c)));
          second = λ t. up_to m b fb m_small (omega (arith, small t, or_right (of_z w64 a) (of_z w64 b), or_left ab (of_z w64 c)));
          third = λ t. up_to m c fc m_small (omega (arith, small t, or_right ab (of_z w64 c)));
        }
