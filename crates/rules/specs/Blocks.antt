-- Document 01, "One sample" and "Rows and lengths": which pixels a chroma pair is made of, and their mean. Definitions only.
use Rattle.std.specs.Prelude.{ℕ, ◌+◌, ◌*◌, ◌/◌, cond, List, [], ◌∷◌, ◌++◌, map, ltb, length}
use Rattle.rules.specs.declared.YuvChromaSubsampling.{YuvChromaSubsampling}
use Rattle.rules.specs.declared.YuvChromaSubsampling.TheVariants.{Yuv420, Yuv422, Yuv444}
use Rattle.rules.specs.declared.Pixel.{Pixel}
use Rattle.rules.specs.Channels.{Picture}

-- i and i + 1, where they lie below n: an odd last column or row stands by itself
abbrev pub pair_below : ℕ → ℕ → List ℕ
pair_below n i = cond (ltb (i + 1) n) (i ∷ (i + 1) ∷ []) (i ∷ [])

-- "4:4:4 uses each pixel. 4:2:2 uses pairs along the row; an odd last column stands by itself. 4:2:0 uses 2×2 blocks": the columns of a pair
abbrev pub columns : YuvChromaSubsampling → ℕ → ℕ → List ℕ
columns Yuv444 width pair = pair ∷ []
columns Yuv422 width pair = pair_below width (2 * pair)
columns Yuv420 width pair = pair_below width (2 * pair)

-- and its rows
abbrev pub rows : YuvChromaSubsampling → ℕ → ℕ → List ℕ
rows Yuv444 height row = row ∷ []
rows Yuv422 height row = row ∷ []
rows Yuv420 height row = pair_below height (2 * row)

-- 02: "each pixel taking the chroma of its own pair or block": the pair of a column
abbrev pub pair_over : YuvChromaSubsampling → ℕ → ℕ
pair_over Yuv444 column = column
pair_over Yuv422 column = column / 2
pair_over Yuv420 column = column / 2

-- and the chroma row of a row
abbrev pub chroma_row_over : YuvChromaSubsampling → ℕ → ℕ
chroma_row_over Yuv444 row = row
chroma_row_over Yuv422 row = row
chroma_row_over Yuv420 row = row / 2

abbrev pub along_row : Picture → List ℕ → ℕ → List Pixel
along_row px cs r = map (px r) cs

unfoldable pub crossed : Picture → List ℕ → List ℕ → List Pixel
crossed px cs [] = []
crossed px cs (r ∷ rs) = along_row px cs r ++ crossed px cs rs

-- the pixels of the chroma pair at a chroma row: one, two or four
unfoldable pub block : YuvChromaSubsampling → ℕ → ℕ → Picture → ℕ → ℕ → List Pixel
block s width height px row pair = crossed px (columns s width pair) (rows s height row)

unfoldable pub total : List ℕ → ℕ
total [] = 0
total (a ∷ rest) = a + total rest

-- the channel sums SR, SG, SB
abbrev pub reds : List Pixel → ℕ
reds b = total (map (λ (p : Pixel). p.red) b)

abbrev pub greens : List Pixel → ℕ
greens b = total (map (λ (p : Pixel). p.green) b)

abbrev pub blues : List Pixel → ℕ
blues b = total (map (λ (p : Pixel). p.blue) b)

-- "one pixel as it is; two pixels (a+b+1) rounded down to halves; four pixels (a+b+c+e+2) rounded down to quarters": (total + n/2) / n, rounded down
abbrev pub mean : ℕ → ℕ → ℕ
mean n t = (t + n / 2) / n

-- the mean of each channel
unfoldable pub averaged : List Pixel → Pixel
averaged b = record { red = mean (length b) (reds b); green = mean (length b) (greens b); blue = mean (length b) (blues b) }

-- "Chroma elements in a row: 2·width for 4:4:4, else twice width halved and rounded up"
abbrev pub chroma_width : YuvChromaSubsampling → ℕ → ℕ
chroma_width Yuv444 width = 2 * width
chroma_width Yuv422 width = 2 * ((width + 1) / 2)
chroma_width Yuv420 width = 2 * ((width + 1) / 2)

-- "Chroma rows: height, or for 4:2:0 height halved and rounded up"
abbrev pub chroma_height : YuvChromaSubsampling → ℕ → ℕ
chroma_height Yuv444 height = height
chroma_height Yuv422 height = height
chroma_height Yuv420 height = (height + 1) / 2
