-- Document 02, Six: two planes read back into RGB, and refusal 13. Definitions only.
use Rattle.std.specs.Prelude.{ℕ, ◌+◌, ◌-◌, ◌*◌, ◌/◌, ◌%◌, ◌^◌, min, cond, List, [], ◌∷◌, ◌++◌, eqb, ℤ, pos, negsuc, ◌+ℤ◌, ◌-ℤ◌, ◌*ℤ◌, length, take, drop}
use Rattle.std.specs.Int.Signed.{shr_z}
use Rattle.rules.specs.declared.Settings.{Settings}
use Rattle.rules.specs.declared.Frame.{Frame}
use Rattle.rules.specs.declared.Pixel.{Pixel}
use Rattle.rules.specs.declared.Codes.{Codes}
use Rattle.rules.specs.declared.InverseWeights.{InverseWeights}
use Rattle.rules.specs.declared.Component.TheVariants.{Y, Cb, Cr}
use Rattle.rules.specs.declared.YuvSourceChannels.{YuvSourceChannels}
use Rattle.rules.specs.Ranges.{most}
use Rattle.rules.specs.Channels.{count, red_at, green_at, blue_at, u_at, v_at, Picture}
use Rattle.rules.specs.Blocks.{pair_over, chroma_row_over, chroma_width, chroma_height}
use Rattle.rules.specs.PlaneSamples.{bias_of}
use Rattle.rules.specs.Planes.{element_at, written}
use Rattle.rules.specs.Storage.{well_formed, stored}
use Rattle.rules.specs.Inverse.{inverse_weights_of}
use Rattle.rules.specs.Search.{Test, first_failing, first_values}
use Rattle.rules.specs.Refusals.{Line, passes, refuses, first}
use Rattle.rules.specs.Answers.{Answer, given, answer}
use Rattle.rules.specs.Settle.{settle_lines}
use Rattle.rules.specs.Frames.{layout_lines}
use Rattle.rules.specs.Convert.{kept}
use Rattle.rules.specs.Check.{custom_line}

-- ---- the pixel rule, from three codes

-- "(Y − bias_y)·y_coef", and the same of Cb and Cr: a code less its bias, times a weight
abbrev pub term : ℕ → ℕ → ℤ → ℤ
term bias code weight = (pos code -ℤ pos bias) *ℤ weight

abbrev pub y_term : Settings → Codes → ℤ → ℤ
y_term s c weight = term (bias_of s Y) c.y weight

abbrev pub cb_term : Settings → Codes → ℤ → ℤ
cb_term s c weight = term (bias_of s Cb) c.cb weight

abbrev pub cr_term : Settings → Codes → ℤ → ℤ
cr_term s c weight = term (bias_of s Cr) c.cr weight

-- "red is (Y − bias_y)·y_coef + (Cr − bias_uv)·cr_coef"
abbrev pub red_sum : Settings → InverseWeights → Codes → ℤ
red_sum s w c = y_term s c w.y_coef +ℤ cr_term s c w.cr_coef

-- "green takes y_coef less Cr's g_coeff_1 and Cb's g_coeff_2"
abbrev pub green_sum : Settings → InverseWeights → Codes → ℤ
green_sum s w c = y_term s c w.y_coef -ℤ cr_term s c w.g_coeff_1 -ℤ cb_term s c w.g_coeff_2

-- "blue the same with Cb and cb_coef"
abbrev pub blue_sum : Settings → InverseWeights → Codes → ℤ
blue_sum s w c = y_term s c w.y_coef +ℤ cb_term s c w.cb_coef

-- "held to 0 to m"
abbrev pub held : ℕ → ℤ → ℕ
held m (pos n) = min n m
held m (negsuc n) = 0

-- "Each sum gets 2^(P−1) − 1, is divided by 2^P rounded down, and held to 0 to m"
unfoldable pub channel_code : ℕ → ℕ → ℤ → ℕ
channel_code precision m sum = held m (shr_z (sum +ℤ pos (2 ^ (precision - 1) - 1)) (2 ^ precision))

unfoldable pub restored : Settings → InverseWeights → Codes → Pixel
restored s w c =
    let channel = channel_code s.precision (most s.depth) in
    record { red = channel (red_sum s w c); green = channel (green_sum s w c); blue = channel (blue_sum s w c) }

-- ---- the picture that two planes hold

-- the code at a row and an element of a plane
abbrev pub code_at : Settings → ℕ → List ℕ → ℕ → ℕ → ℕ
code_at s stride words row element = stored s.packing s.endianness s.depth (element_at stride words row element)

-- "the chroma of its own pair or block": for a pixel's row and column, the code at a place in the chroma pair
abbrev pub chroma_code_at : Settings → Frame → List ℕ → ℕ → ℕ → ℕ → ℕ
chroma_code_at s f chroma row column at =
    code_at s f.chroma_stride chroma (chroma_row_over s.subsampling row) (2 * pair_over s.subsampling column + at)

abbrev pub codes_at : Settings → Frame → List ℕ → List ℕ → ℕ → ℕ → Codes
codes_at s f luma chroma row column = record {
  y = code_at s f.luma_stride luma row column;
  cb = chroma_code_at s f chroma row column (u_at s.order);
  cr = chroma_code_at s f chroma row column (v_at s.order);
}

abbrev pub restored_picture : Settings → InverseWeights → Frame → List ℕ → List ℕ → Picture
restored_picture s w f luma chroma row column = restored s w (codes_at s f luma chroma row column)

-- ---- the RGB buffer

-- an element of a pixel, in a layout: red, green and blue in their places, "alpha m"
abbrev pub pixel_element : YuvSourceChannels → ℕ → Pixel → ℕ → ℕ
pixel_element c m p at =
    cond (eqb at (red_at c)) p.red (cond (eqb at (green_at c)) p.green (cond (eqb at (blue_at c)) p.blue m))

-- an element of a row of pixels
abbrev pub row_element : YuvSourceChannels → ℕ → (ℕ → Pixel) → ℕ → ℕ
row_element c m pixels i = pixel_element c m (pixels (i / count c)) (i % count c)

-- where the window starts in the buffer
abbrev pub corner : YuvSourceChannels → Frame → ℕ
corner c f = f.first_row * f.source_stride + f.first_column * count c

-- "Windows apply to the RGB side. Padding and every RGB element outside the window survive": all before the window's corner stays, and
-- from there on rows of the window's width are written
abbrev pub rgb_written : YuvSourceChannels → ℕ → Frame → Picture → List ℕ → List ℕ
rgb_written c m f px rgb =
    take (corner c f) rgb
    ++ written f.source_stride (f.width * count c) f.height (λ (row : ℕ). row_element c m (px row)) (drop (corner c f) rgb)

-- ---- 13: "a visible plane sample not well formed, with its place in the check's order, in place of 10"

abbrev pub formed_test : Settings → ℕ → List ℕ → Test
formed_test s stride words row element = well_formed s.packing s.endianness s.depth (element_at stride words row element)

-- the place of the first sample that is not well formed, in luma or else in chroma
abbrev pub malformed : Settings → Frame → List ℕ → List ℕ → List ℤ
malformed s f luma chroma =
    first_values (first_failing (formed_test s f.luma_stride luma) f.width f.height)
    (first_failing (formed_test s f.chroma_stride chroma) (chroma_width s.subsampling f.width) (chroma_height s.subsampling f.height))

abbrev pub malformed_line : List ℤ → Line
malformed_line [] = passes
malformed_line (v ∷ vs) = refuses 13 (v ∷ vs)

-- what is asked of the planes and the buffer, in order
abbrev pub plane_lines : Settings → Frame → List ℕ → List ℕ → ℕ → List Line
plane_lines s f luma chroma rgb = layout_lines s f rgb (length luma) (length chroma) ++ (malformed_line (malformed s f luma chroma) ∷ [])

-- "Settle's rules 1 to 5 apply first, then 6 for a custom pair", then the planes'
abbrev pub to_rgb_line : Settings → Frame → List ℕ → List ℕ → List ℕ → Line
to_rgb_line s f luma chroma rgb = first (settle_lines s ++ (custom_line s ∷ plane_lines s f luma chroma (length rgb)))

-- ---- the answer and the buffer

-- what is left in the buffer, by what the table comes to: "a refusal leaves the RGB buffer untouched"
abbrev pub rgb_left : Line → Settings → InverseWeights → Frame → List ℕ → List ℕ → List ℕ → List ℕ
rgb_left l s w f luma chroma rgb = kept l (rgb_written s.channels (most s.depth) f (restored_picture s w f luma chroma) rgb) rgb

-- THE PROMISE of turning a frame back to RGB: its answer, and the buffer after it
unfoldable pub to_rgb : Settings → Frame → List ℕ → List ℕ → List ℕ → Answer
to_rgb s f luma chroma rgb = answer (to_rgb_line s f luma chroma rgb) (given [])

unfoldable pub rgb_after : Settings → Frame → List ℕ → List ℕ → List ℕ → List ℕ
rgb_after s f luma chroma rgb = rgb_left (to_rgb_line s f luma chroma rgb) s (inverse_weights_of s) f luma chroma rgb
