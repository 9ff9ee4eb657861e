-- Each of the 910 named settings passes the test of refusal 4, by computation. Assumes nothing.
use mathlib.Core.Path.{refl}
use Prim.Native.Nat.{ℕ}
use lib.Ieee.{round, sub, mul, div, of_int}
use Rattle.rules.specs.declared.YuvRange.{YuvRange}
use Rattle.rules.specs.declared.Named.{Named}
use Rattle.rules.specs.declared.Weights.{Weights}
use Rattle.rules.specs.declared.YuvStandardMatrix.{YuvStandardMatrix}
use Rattle.rules.specs.declared.YuvStandardMatrix.TheVariants.{Bt601, Bt709, Bt2020, Smpte240, Bt470_6, Custom}
use Rattle.rules.specs.declared.Matrix.TheVariants.{Tabled}
use Rattle.rules.specs.Ranges.{most, y_range, uv_range}
use Rattle.rules.specs.Matrices.{matrix_of}
use Rattle.rules.specs.Weights.{pair_of, forward, rounded, integers}
use Rattle.rules.specs.Settle.{near, row_near, all_near}
use Rattle.rule_laws.proofs.EveryNamed.{NamedTest, every, RowPasses}

-- the weights of a row of the table
abbrev pub row_weights : Named → YuvRange → ℕ → ℕ → Weights
row_weights k g p d = integers p (forward (most d) (y_range g d) (uv_range g d) (pair_of (Tabled k)))

unfoldable pub one : NamedTest
unfolding round sub mul div of_int forward rounded near row_near all_near
one k g p d = all_near p k (most d) (y_range g d) (uv_range g d) (row_weights k g p d)

bt601 : RowPasses one (matrix_of Bt601)
unfolding every one
bt601 = refl

bt709 : RowPasses one (matrix_of Bt709)
unfolding every one
bt709 = refl

bt2020 : RowPasses one (matrix_of Bt2020)
unfolding every one
bt2020 = refl

smpte240 : RowPasses one (matrix_of Smpte240)
unfolding every one
smpte240 = refl

pub passes : (m : YuvStandardMatrix) → RowPasses one (matrix_of m)
passes Bt601 = bt601
passes Bt709 = bt709
passes Bt2020 = bt2020
passes Smpte240 = smpte240
passes Bt470_6 = bt601
passes (Custom r b) = tt
