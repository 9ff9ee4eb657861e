-- A rounded weight, read back from the bits of a call's result. Assumes nothing.
use Rattle.std.proofs.Common.{◌≡◌, ℕ, ◌^◌, ℤ, ap, ◌∙◌, w32, SFits, to_z, of_z}
use lib.Ieee.{Float, binary32, mul}
use mir.ValLaws.{to_z-of_z}
use Rattle.rules.specs.Weights.{whole, rounded, scaled}

-- the weight at the precision p, for the scale k
pub scaled_back : (p : ℕ) (k : Float) → k ≡ whole (2 ^ p) → (x : Float) (z : ℤ) → SFits w32 z → z ≡ rounded (mul binary32 x k) → to_z w32 (of_z w32 z) ≡ scaled p x
scaled_back p k e x z f h = to_z-of_z w32 z f ∙ h ∙ ap (λ (y : Float). rounded (mul binary32 x y)) e
