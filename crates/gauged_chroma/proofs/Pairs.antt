-- The whole pairs of a chroma row: where they lie, and the test of both their samples. Assumes nothing.
use mathlib.Core.Path.{◌≡◌, refl, sym, ap, ◌∙◌}
use mathlib.Core.Bool.{Bool, true, false, ◌&&◌}
use mathlib.Core.List.{List}
use Prim.Native.Nat.{ℕ, ◌+◌, ◌*◌, ◌≤◌, ◌<◌}
use native.Mathlib.Omega.{arith}
use lib.ListN.{get_or}
use borrow.Author.Tests.{lt-ltb}
use Rattle.rules.specs.declared.Pixel.{Pixel}
use Rattle.rules.specs.declared.YuvNVOrder.{YuvNVOrder}
use Rattle.rules.specs.declared.YuvNVOrder.TheVariants.{UV, VU}
use Rattle.rules.specs.declared.YuvChromaSubsampling.{YuvChromaSubsampling}
use Rattle.rules.specs.declared.YuvChromaSubsampling.TheVariants.{Yuv420, Yuv422, Yuv444}
use Rattle.rules.specs.Channels.{u_at, v_at}
use Rattle.rules.specs.Storage.{exchanged}
use Rattle.rules.specs.Blocks.{chroma_width}
use Rattle.integer_laws.proofs.Tests.{both}
use Rattle.blocks.specs.Tiles.{paired, left_of, wide_at}
use Rattle.fractions.specs.declared.Sums.{Sums}
use Rattle.fractions.specs.Sums.{sums_of}
use Rattle.gauges.specs.Gauges.{chroma_near}
use Rattle.gauged_chroma.specs.declared.Ruler.{Ruler}
use Rattle.gauged_chroma.specs.Pairing.{whole_pairs, u_near, v_near, pair_near}

-- ---- where they lie

pub whole_small : (s : YuvChromaSubsampling) (width : ℕ) → whole_pairs s width ≤ width
whole_small Yuv420 width = omega arith
whole_small Yuv422 width = omega arith
whole_small Yuv444 width = omega arith

pub whole_inside : (s : YuvChromaSubsampling) (width : ℕ) → 2 * whole_pairs s width ≤ chroma_width s width
whole_inside Yuv420 width = omega arith
whole_inside Yuv422 width = omega arith
whole_inside Yuv444 width = omega arith

pub whole_wide : (s : YuvChromaSubsampling) (width pair : ℕ) → pair < whole_pairs s width → paired s ≡ wide_at s width (left_of s pair)
whole_wide Yuv420 width pair h = sym (lt-ltb (2 * pair + 1) width (omega arith))
whole_wide Yuv422 width pair h = sym (lt-ltb (2 * pair + 1) width (omega arith))
whole_wide Yuv444 width pair h = refl

-- a U and a V are the first or the second of their pair
pub u_low : (o : YuvNVOrder) → u_at o ≤ 1
u_low UV = omega arith
u_low VU = omega arith

pub v_low : (o : YuvNVOrder) → v_at o ≤ 1
v_low UV = omega arith
v_low VU = omega arith

-- ---- the test of both

module _ (m : Ruler) (z : Sums) (chroma : List ℕ) (pair : ℕ) where
  pub u_fails : u_near m z chroma pair ≡ false → false ≡ pair_near m z chroma pair
  unfolding pair_near
  u_fails e = sym (ap (λ (b : Bool). b && v_near m z chroma pair) e)

  pub v_decides : {r : Bool} → u_near m z chroma pair ≡ true → r ≡ v_near m z chroma pair → r ≡ pair_near m z chroma pair
  unfolding pair_near
  v_decides e h = h ∙ sym (ap (λ (b : Bool). b && v_near m z chroma pair) e)

  pub both_near : pair_near m z chroma pair ≡ true → (u_near m z chroma pair ≡ true) × (v_near m z chroma pair ≡ true)
  unfolding pair_near
  both_near e = both (u_near m z chroma pair) (v_near m z chroma pair) e

-- ---- the tests of a pair as the code makes them

-- of the U and of the V of a pair, from the word that was read and where it was read
module _ (m : Ruler) (z : Sums) (chroma : List ℕ) (pair : ℕ) where
  pub u_read : {r : Bool} {v at : ℕ} → r ≡ chroma_near m.cb m.shares z.blue z v → v ≡ exchanged m.endianness (get_or chroma (2 * pair + at) 0) → at ≡ u_at m.order → r ≡ u_near m z chroma pair
  u_read e w p = e ∙ ap (chroma_near m.cb m.shares z.blue z) (w ∙ ap (λ (n : ℕ). exchanged m.endianness (get_or chroma (2 * pair + n) 0)) p)

  pub v_read : {r : Bool} {v at : ℕ} → r ≡ chroma_near m.cr m.shares z.red z v → v ≡ exchanged m.endianness (get_or chroma (2 * pair + at) 0) → at ≡ v_at m.order → r ≡ v_near m z chroma pair
  v_read e w p = e ∙ ap (chroma_near m.cr m.shares z.red z) (w ∙ ap (λ (n : ℕ). exchanged m.endianness (get_or chroma (2 * pair + n) 0)) p)

-- of both, from the pixels that were read and their sums
pub pixels_read : (m : Ruler) (chroma : List ℕ) (pair : ℕ) (qs : List Pixel) {r : Bool} {z : Sums} {ps : List Pixel} → r ≡ pair_near m z chroma pair → z ≡ sums_of ps → ps ≡ qs → r ≡ true → pair_near m (sums_of qs) chroma pair ≡ true
pixels_read m chroma pair qs e f g h = sym (e ∙ ap (λ (s : Sums). pair_near m s chroma pair) (f ∙ ap sums_of g)) ∙ h
