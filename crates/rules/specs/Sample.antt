-- Document 01, "One sample": the code of a pixel. Definitions only.
use Rattle.std.specs.Prelude.{ℕ, ◌+◌, ◌-◌, ◌*◌, ◌^◌, ℤ, pos, nat_abs, ◌+ℤ◌, ◌*ℤ◌}
use Rattle.std.specs.Int.Signed.{shr_z}
use Rattle.rules.specs.declared.Triple.{Triple}
use Rattle.rules.specs.declared.Pixel.{Pixel}

-- "R·yr + G·yg + B·yb"
unfoldable pub weighted : Triple → Pixel → ℤ
weighted w p = w.red *ℤ pos p.red +ℤ w.green *ℤ pos p.green +ℤ w.blue *ℤ pos p.blue

-- "+ bias_y·2^P + 2^(P−1) − 1": the sum before division, so that exact halves go down
abbrev pub before_division : ℕ → ℕ → Triple → Pixel → ℤ
before_division precision bias w p = weighted w p +ℤ pos (bias * 2 ^ precision + (2 ^ (precision - 1) - 1))

-- "divided by 2^P, rounded down": a negative sum too goes toward minus infinity
unfoldable pub signed_code : ℕ → ℕ → Triple → Pixel → ℤ
signed_code precision bias w p = shr_z (before_division precision bias w p) (2 ^ precision)

-- the code as it is stored; where settle accepts and no sample is too large, no code is negative
unfoldable pub code : ℕ → ℕ → Triple → Pixel → ℕ
code precision bias w p = nat_abs (signed_code precision bias w p)
