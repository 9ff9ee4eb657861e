-- A pixel's elements in the buffer, written as if that were Rgb, are those of its layout. Assumes nothing.
use mathlib.Core.Path.{◌≡◌, refl, sym, ap, ◌∙◌}
use mathlib.Core.Bool.{Bool, true, false, cond}
use Prim.Native.Nat.{ℕ}
use native.Mathlib.Omega.{arith}
use lib.Dec.{eqb}
use lib.IntN.{ℤ, neg_ℤ, ◌+ℤ◌, ◌-ℤ◌, +ℤ_assoc, +ℤ_comm}
use borrow.Author.Tests.{eqb-true}
use Rattle.rules.specs.declared.Pixel.{Pixel}
use Rattle.rules.specs.declared.YuvSourceChannels.TheVariants.{Rgb, Bgr}
use Rattle.rules.specs.ToRgb.{pixel_element}

-- what is subtracted first does not matter
pub less_either : (a b c : ℤ) → a -ℤ b -ℤ c ≡ a -ℤ c -ℤ b
less_either a b c = +ℤ_assoc a (neg_ℤ b) (neg_ℤ c) ∙ ap (λ (z : ℤ). a +ℤ z) (+ℤ_comm (neg_ℤ b) (neg_ℤ c)) ∙ sym (+ℤ_assoc a (neg_ℤ c) (neg_ℤ b))

-- red and blue exchanged
pub turned : (m : ℕ) (p q : Pixel) → p.red ≡ q.blue → p.green ≡ q.green → p.blue ≡ q.red → (j : ℕ) → pixel_element Rgb m p j ≡ pixel_element Bgr m q j
turned m p q x y z j = go (eqb j 0) (eqb j 1) (eqb j 2) refl refl refl
  where
    go : (a b c : Bool) → eqb j 0 ≡ a → eqb j 1 ≡ b → eqb j 2 ≡ c →
        cond a p.red (cond b p.green (cond c p.blue m)) ≡ cond c q.red (cond b q.green (cond a q.blue m))
    go true true true d e f = absurd (omega (arith, eqb-true j 0 d, eqb-true j 1 e))
    go true true false d e f = absurd (omega (arith, eqb-true j 0 d, eqb-true j 1 e))
    go true false true d e f = absurd (omega (arith, eqb-true j 0 d, eqb-true j 2 f))
    go false true true d e f = absurd (omega (arith, eqb-true j 1 e, eqb-true j 2 f))
    go true false false d e f = x
    go false true false d e f = y
    go false false true d e f = z
    go false false false d e f = refl
