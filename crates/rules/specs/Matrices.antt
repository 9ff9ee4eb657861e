-- Document 01, "Settings and weights": the table of matrices, in ten_thousandths (Rec. ITU-T H.273). Definitions only.
use Rattle.std.specs.Prelude.{ℕ, ◌-◌}
use Rattle.rules.specs.declared.YuvStandardMatrix.{YuvStandardMatrix}
use Rattle.rules.specs.declared.YuvStandardMatrix.TheVariants.{Bt601, Bt709, Bt2020, Smpte240, Bt470_6, Custom}
use Rattle.rules.specs.declared.Named.{Named}
use Rattle.rules.specs.declared.Matrix.{Matrix}
use Rattle.rules.specs.declared.Matrix.TheVariants.{Tabled, Own}

-- "Kg is the rest of 10,000"
abbrev pub kg : Named → ℕ
kg k = 10000 - k.kr - k.kb

-- "one of five names or a custom pair of 32-bit floats"; 02: "Bt470_6 must use 2990 and 1140 in weights, exact fractions and check"
abbrev pub matrix_of : YuvStandardMatrix → Matrix
matrix_of Bt601 = Tabled (record { kr = 2990; kb = 1140 })
matrix_of Bt709 = Tabled (record { kr = 2126; kb = 722 })
matrix_of Bt2020 = Tabled (record { kr = 2627; kb = 593 })
matrix_of Smpte240 = Tabled (record { kr = 2120; kb = 870 })
matrix_of Bt470_6 = Tabled (record { kr = 2990; kb = 1140 })
matrix_of (Custom kr kb) = Own (record { kr = kr; kb = kb })
