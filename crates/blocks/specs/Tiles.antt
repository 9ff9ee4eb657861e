-- A chroma block by cases: its first column and row, and whether it has a second of each. Definitions only.
use Rattle.std.specs.Prelude.{ℕ, ◌+◌, ◌*◌, Bool, true, false, cond, List, [], ◌∷◌, ltb}
use Rattle.rules.specs.declared.Pixel.{Pixel}
use Rattle.rules.specs.declared.YuvChromaSubsampling.{YuvChromaSubsampling}
use Rattle.rules.specs.declared.YuvChromaSubsampling.TheVariants.{Yuv420, Yuv422, Yuv444}

-- whether a chroma pair has two columns, but for an odd last one
abbrev pub paired : YuvChromaSubsampling → Bool
paired Yuv420 = true
paired Yuv422 = true
paired Yuv444 = false

abbrev pub left_of : YuvChromaSubsampling → ℕ → ℕ
left_of Yuv420 pair = 2 * pair
left_of Yuv422 pair = 2 * pair
left_of Yuv444 pair = pair

abbrev pub wide_at : YuvChromaSubsampling → ℕ → ℕ → Bool
wide_at Yuv420 width x = ltb (x + 1) width
wide_at Yuv422 width x = ltb (x + 1) width
wide_at Yuv444 width x = false

abbrev pub top_of : YuvChromaSubsampling → ℕ → ℕ
top_of Yuv420 row = 2 * row
top_of Yuv422 row = row
top_of Yuv444 row = row

abbrev pub two_at : YuvChromaSubsampling → ℕ → ℕ → Bool
two_at Yuv420 height top = ltb (top + 1) height
two_at Yuv422 height top = false
two_at Yuv444 height top = false

-- the second row of a block, or its first again where it has but one
abbrev pub second_of : Bool → ℕ → ℕ
second_of two top = cond two (top + 1) top

-- the pixels of a block, from its two rows
abbrev pub tiles : Bool → Bool → (ℕ → Pixel) → (ℕ → Pixel) → ℕ → List Pixel
tiles false false t u x = t x ∷ []
tiles true false t u x = t x ∷ t (x + 1) ∷ []
tiles false true t u x = t x ∷ u x ∷ []
tiles true true t u x = t x ∷ t (x + 1) ∷ u x ∷ u (x + 1) ∷ []
