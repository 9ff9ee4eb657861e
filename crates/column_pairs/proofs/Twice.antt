-- A source row taken twice: the mean of a block whose two rows are the same is that of one of them. Assumes nothing.
use mathlib.Core.Path.{◌≡◌, ap, ◌∙◌}
use mathlib.Core.Bool.{Bool, true, false}
use mathlib.Core.List.{List}
use Prim.Native.Nat.{ℕ, ◌+◌, ◌/◌}
use native.Mathlib.Omega.{arith}
use Rattle.rules.specs.declared.Settings.{Settings}
use Rattle.rules.specs.declared.Weights.{Weights}
use Rattle.rules.specs.declared.Pixel.{Pixel}
use Rattle.rules.specs.Blocks.{total, averaged}
use Rattle.plane_laws.specs.Rows.{Begun}
use Rattle.blocks.specs.Tiles.{left_of, wide_at, tiles}
use Rattle.frames.specs.Rows.{row_pixel}
use Rattle.joined_codes.specs.Packed.{packed_chroma}
use Rattle.packed_store.specs.Packed.{packed_chroma_at, packed_chroma_row}
use Rattle.packed_store.specs.Pairs.{PackedWritten}

of_four : (a b : ℕ) → (a + (b + (a + (b + 0))) + 2) / 4 ≡ (a + (b + 0) + 1) / 2
of_four a b = omega arith

of_two : (a : ℕ) → (a + (a + 0) + 1) / 2 ≡ (a + 0 + 0) / 1
of_two a = omega arith

twice : (wide : Bool) (t : ℕ → Pixel) (x : ℕ) → averaged (tiles wide true t t x) ≡ averaged (tiles wide false t t x)
unfolding averaged total
twice true t x =
    let p = t x in
    let q = t (x + 1) in
    λ i. record { red = of_four p.red q.red i; green = of_four p.green q.green i; blue = of_four p.blue q.blue i }
twice false t x = let p = t x in λ i. record { red = of_two p.red i; green = of_two p.green i; blue = of_two p.blue i }

chroma_twice : (s : Settings) (w : Weights) (width : ℕ) (part : List ℕ) (k : ℕ) → packed_chroma_row s w width true part part k ≡ packed_chroma_row s w width false part part k
unfolding packed_chroma_at
chroma_twice s w width part k =
    let x = left_of s.subsampling (k / 2) in
    ap (packed_chroma s w k) (twice (wide_at s.subsampling width x) (row_pixel s.channels part) x)

begun_as : {n : ℕ} {f g : ℕ → ℕ} {old y : List ℕ} → ((k : ℕ) → f k ≡ g k) → Begun n f old y → Begun n g old y
begun_as e b = record { within = b.within; long = b.long; done = λ k h. b.done k h ∙ e k; kept = b.kept }

-- so what was written from a row taken twice is what that row alone gives
pub written_once : (s : Settings) (w : Weights) (width : ℕ) (part : List ℕ) {luma luma' chroma chroma' : List ℕ}
    → PackedWritten s w width true part part luma luma' chroma chroma' → PackedWritten s w width false part part luma luma' chroma chroma'
written_once s w width part h = record { in_luma_lem = h.in_luma_lem; in_chroma_lem = begun_as (chroma_twice s w width part) h.in_chroma_lem }
