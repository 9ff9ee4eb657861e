-- How many luma rows lie over the first chroma rows. Assumes nothing.
use mathlib.Core.Path.{◌≡◌, sym}
use mathlib.Core.Bool.{true, false}
use Prim.Native.Nat.{ℕ, ◌+◌, ◌*◌, ◌<◌}
use native.Mathlib.Omega.{arith}
use borrow.Author.Tests.{ltb-true, ltb-false}
use Rattle.rules.specs.declared.YuvChromaSubsampling.{YuvChromaSubsampling}
use Rattle.rules.specs.declared.YuvChromaSubsampling.TheVariants.{Yuv420, Yuv422, Yuv444}
use Rattle.rules.specs.Blocks.{chroma_height}
use Rattle.blocks.specs.Tiles.{top_of, two_at}
use Rattle.blocks.proofs.Tiles.{top_below, two_below}
use Rattle.lent_rows.specs.Turns.{rows_over}

module _ (height row : ℕ) where
  pub over_none : (sub : YuvChromaSubsampling) → 0 ≡ rows_over sub height 0
  over_none Yuv420 = omega arith
  over_none Yuv422 = omega arith
  over_none Yuv444 = omega arith

  pub over_here : (sub : YuvChromaSubsampling) → row < chroma_height sub height → rows_over sub height row ≡ top_of sub row
  over_here sub h = omega (arith, top_below sub height row h)

  pub over_one : (sub : YuvChromaSubsampling) → row < chroma_height sub height → false ≡ two_at sub height (top_of sub row) → top_of sub row + 1 ≡ rows_over sub height (row + 1)
  over_one Yuv420 h e = omega (arith, ltb-false (2 * row + 1) height (sym e))
  over_one Yuv422 h e = omega arith
  over_one Yuv444 h e = omega arith

  pub over_two : (sub : YuvChromaSubsampling) → true ≡ two_at sub height (top_of sub row) → top_of sub row + 2 ≡ rows_over sub height (row + 1)
  over_two Yuv420 e = omega (arith, ltb-true (2 * row + 1) height (sym e))
  over_two Yuv422 e = absurd (omega (arith, two_below Yuv422 height row (sym e), two_below Yuv422 0 row (sym e)))
  over_two Yuv444 e = absurd (omega (arith, two_below Yuv444 height row (sym e), two_below Yuv444 0 row (sym e)))

  pub over_all : (sub : YuvChromaSubsampling) → rows_over sub height (chroma_height sub height) ≡ height
  over_all Yuv420 = omega arith
  over_all Yuv422 = omega arith
  over_all Yuv444 = omega arith
