-- The five weights of each of the 910 named settings are 0 to 4·2^P, by computation. Assumes nothing.
use mathlib.Core.Path.{refl}
use mathlib.Core.Bool.{Bool, false, ◌&&◌}
use Prim.Native.Nat.{ℕ, ◌*◌, ◌^◌}
use lib.Dec.{leb}
use lib.IntN.{ℤ, pos, negsuc}
use lib.Ieee.{round, sub, mul, div, of_int}
use Rattle.rules.specs.declared.YuvRange.{YuvRange}
use Rattle.rules.specs.declared.Named.{Named}
use Rattle.rules.specs.declared.InverseWeights.{InverseWeights}
use Rattle.rules.specs.declared.YuvStandardMatrix.{YuvStandardMatrix}
use Rattle.rules.specs.declared.YuvStandardMatrix.TheVariants.{Bt601, Bt709, Bt2020, Smpte240, Bt470_6, Custom}
use Rattle.rules.specs.declared.Matrix.TheVariants.{Tabled}
use Rattle.rules.specs.Ranges.{most, y_range, uv_range}
use Rattle.rules.specs.Matrices.{matrix_of}
use Rattle.rules.specs.Weights.{pair_of, rounded}
use Rattle.rules.specs.Inverse.{backward, inverse_integers}
use Rattle.rule_laws.proofs.EveryNamed.{NamedTest, every, RowPasses}

-- z is 0 to b
abbrev pub up_to : ℕ → ℤ → Bool
up_to b (pos n) = leb n b
up_to b (negsuc n) = false

abbrev pub all_up_to : ℕ → InverseWeights → Bool
all_up_to b w = up_to b w.y_coef && (up_to b w.cr_coef && (up_to b w.cb_coef && (up_to b w.g_coeff_1 && up_to b w.g_coeff_2)))

-- the weights of a row of the table
abbrev pub row_weights : Named → YuvRange → ℕ → ℕ → InverseWeights
row_weights k g p d = inverse_integers p (backward (most d) (y_range g d) (uv_range g d) (pair_of (Tabled k)))

unfoldable pub one : NamedTest
unfolding round sub mul div of_int backward rounded
one k g p d = all_up_to (4 * 2 ^ p) (row_weights k g p d)

bt601 : RowPasses one (matrix_of Bt601)
unfolding every one
bt601 = refl

bt709 : RowPasses one (matrix_of Bt709)
unfolding every one
bt709 = refl

bt2020 : RowPasses one (matrix_of Bt2020)
unfolding every one
bt2020 = refl

smpte240 : RowPasses one (matrix_of Smpte240)
unfolding every one
smpte240 = refl

pub passes : (m : YuvStandardMatrix) → RowPasses one (matrix_of m)
passes Bt601 = bt601
passes Bt709 = bt709
passes Bt2020 = bt2020
passes Smpte240 = smpte240
passes Bt470_6 = bt601
passes (Custom r b) = tt
