-- Document 01, module 2 and "Rows and lengths": where a pixel's samples stand in the source, and U and V in a chroma pair. Definitions only.
use Rattle.std.specs.Prelude.{ℕ, ◌+◌, ◌*◌, ◌%◌, Bool, true, false, List, eqb, get_or}
use Rattle.rules.specs.declared.YuvSourceChannels.{YuvSourceChannels}
use Rattle.rules.specs.declared.YuvSourceChannels.TheVariants.{Rgb, Rgba, Bgra, Bgr}
use Rattle.rules.specs.declared.YuvNVOrder.{YuvNVOrder}
use Rattle.rules.specs.declared.YuvNVOrder.TheVariants.{UV, VU}
use Rattle.rules.specs.declared.Pixel.{Pixel}

-- "RGB, BGR, RGBA or BGRA samples"
abbrev pub count : YuvSourceChannels → ℕ
count Rgb = 3
count Rgba = 4
count Bgra = 4
count Bgr = 3

-- "Red stands at 0 in Rgb and Rgba, at 2 in Bgr and Bgra"
abbrev pub red_at : YuvSourceChannels → ℕ
red_at Rgb = 0
red_at Rgba = 0
red_at Bgra = 2
red_at Bgr = 2

-- "green at 1"
abbrev pub green_at : YuvSourceChannels → ℕ
green_at c = 1

-- "blue at 2 in Rgb and Rgba, at 0 in Bgr and Bgra"
abbrev pub blue_at : YuvSourceChannels → ℕ
blue_at Rgb = 2
blue_at Rgba = 2
blue_at Bgra = 0
blue_at Bgr = 0

abbrev pub has_alpha : YuvSourceChannels → Bool
has_alpha Rgb = false
has_alpha Rgba = true
has_alpha Bgra = true
has_alpha Bgr = false

-- "alpha, where there is one, at 3"; where there is none the Rust says 0, and nothing reads it
abbrev pub alpha_at : YuvSourceChannels → ℕ
alpha_at Rgb = 0
alpha_at Rgba = 3
alpha_at Bgra = 3
alpha_at Bgr = 0

-- "UV puts U first; VU puts V first": the place of U in a chroma pair, and of V
abbrev pub u_at : YuvNVOrder → ℕ
u_at UV = 0
u_at VU = 1

abbrev pub v_at : YuvNVOrder → ℕ
v_at UV = 1
v_at VU = 0

-- whether an element of a chroma row is a U
abbrev pub is_u : YuvNVOrder → ℕ → Bool
is_u o element = eqb (element % 2) (u_at o)

-- A picture gives the pixel at each row and column. All later rules speak of a picture, and not of a buffer.
abbrev pub Picture : Type 0
Picture = ℕ → ℕ → Pixel

-- the pixel whose samples start at an index of a buffer; "Alpha is never read"
abbrev pub pixel_at : YuvSourceChannels → List ℕ → ℕ → Pixel
pixel_at c source at =
    record { red = get_or source (at + red_at c) 0; green = get_or source (at + green_at c) 0; blue = get_or source (at + blue_at c) 0 }

-- the picture that a source buffer shows: "the part that starts at row × source stride", then a pixel's channels for each column
abbrev pub picture : YuvSourceChannels → ℕ → List ℕ → Picture
picture c stride source row column = pixel_at c source (row * stride + column * count c)
