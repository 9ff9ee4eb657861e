-- `frames::rows::source_row` meets its contract.
use mathlib.Core.Path.{subst⁻¹}
use Prim.Native.Nat.{ℕ, ◌+◌, ◌*◌, ◌≤◌}
use native.Mathlib.Nat.{mul-one, mul-le-mul_left}
use native.Mathlib.Omega.{arith}
use lib.ListN.{length}
use Rattle.frames.proofs.Places.{source_row}
use Rattle.frames.proofs.rows.source_row.Goals as goal
use Rattle.frames.proofs.rows.source_row.Goals.{After-get_channels_count-n}

-- the row lies in the buffer
inside : (c : After-get_channels_count-n) → let v = c.args in (v.f.first_row + v.row) * v.f.source_stride + v.f.first_column * c.get_channels_count-n.result + v.f.width * c.get_channels_count-n.result ≤ length v.source.now
inside c =
    let v = c.args in
    subst⁻¹ (λ (n : ℕ). (v.f.first_row + v.row) * v.f.source_stride + v.f.first_column * n + v.f.width * n ≤ length v.source.now) c.get_channels_count-n.ensures
    (c.requires.window_rows.fits v.row c.requires.row_lt_height)

-- so its number is at most an index
numbered : (c : After-get_channels_count-n) → let v = c.args in v.f.first_row + v.row ≤ length v.source.now
numbered c =
    let v = c.args in
    let row = v.f.first_row + v.row in
    let h : row * 1 ≤ row * v.f.source_stride = mul-le-mul_left row c.requires.window_rows.some in
    omega (arith, mul-one row, inside c)

pub overflow_add-a : goal.overflow_add-a
overflow_add-a c = omega (arith, numbered (goal.at.overflow_add-a c).After-get_channels_count-n)

pub returns : goal.returns
returns c =
    let v = c.args in
    source_row v.channels v.f v.source.now v.row c.get_channels_count-n.ensures (c.requires.window_rows.fits v.row c.requires.row_lt_height)
