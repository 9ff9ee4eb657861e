-- Weights that are worked out one by one, and a number of 32 bits that a call has returned. Assumes nothing.
use mathlib.Core.Path.{◌≡◌, ◌∙◌}
use Prim.Native.Nat.{◌^◌, ◌<◌}
use lib.IntN.{ℤ}
use lib.Signed.{mag}
use mir.Syntax.{w32}
use mir.Val.{to_z, of_z}
use mir.ValLaws.{to_z-of_z}
use Rattle.joined_weights.specs.declared.JoinedWeights.{JoinedWeights}

-- ---- records are equal where their fields are

pub weights_eq : {a b c d e f g h : ℤ} → a ≡ e → b ≡ f → c ≡ g → d ≡ h → ◌≡◌ {A = JoinedWeights} (record { start = a; first = b; second = c; third = d }) (record { start = e; first = f; second = g; third = h })
weights_eq p q r o = λ i. record { start = p i; first = q i; second = r i; third = o i }

-- ---- numbers of 32 bits

-- what a call has returned, read back
pub got32 : {y : ℤ} (z : ℤ) → mag z < 2 ^ 31 → z ≡ y → to_z w32 (of_z w32 z) ≡ y
got32 z h e = to_z-of_z w32 z (record { sfits = h }) ∙ e
