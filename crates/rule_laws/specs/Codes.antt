-- What is said of pixels and their codes. Definitions only.
use Rattle.std.specs.Prelude.{ℕ, ◌≤◌, T, ℤ, pos}
use Rattle.std.specs.Int.Signed.{le_z}
use Rattle.rules.specs.declared.Pixel.{Pixel}
use Rattle.rules.specs.declared.Triple.{Triple}
use Rattle.rules.specs.Sample.{signed_code}

-- no channel of a pixel exceeds m
pub record Low (m : ℕ) (p : Pixel) : Type 0 where
  pub red : p.red ≤ m
  pub green : p.green ≤ m
  pub blue : p.blue ≤ m

-- c lies from a to b
pub record Between (a b c : ℤ) : Type 0 where
  pub low : T (le_z a c)
  pub high : T (le_z c b)

-- the code of every pixel that is not too large lies from the code of one colour to that of another
abbrev pub Spans : ℕ → ℕ → ℕ → Triple → Pixel → Pixel → Type 0
Spans precision m bias w least greatest =
    (p : Pixel) → Low m p → Between (signed_code precision bias w least) (signed_code precision bias w greatest) (signed_code precision bias w p)

-- the code of every pixel that is not too large lies from 0 to m
abbrev pub Coded : ℕ → ℕ → ℕ → Triple → Type 0
Coded precision m bias w = (p : Pixel) → Low m p → Between (pos 0) (pos m) (signed_code precision bias w p)
