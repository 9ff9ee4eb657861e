-- Document 01, refusals 7 to 10, and document 02, Four: what is asked of a frame and its buffers, and what is seen of a source. Definitions only.
use Rattle.std.specs.Prelude.{ℕ, zero, suc, ◌+◌, ◌*◌, ◌/◌, ◌%◌, Bool, not, ◌||◌, List, [], ◌∷◌, leb, ltb, eqb, length, None, Some}
use Rattle.rules.specs.declared.Settings.{Settings}
use Rattle.rules.specs.declared.Frame.{Frame}
use Rattle.rules.specs.declared.Pixel.{Pixel}
use Rattle.rules.specs.declared.YuvSourceChannels.{YuvSourceChannels}
use Rattle.rules.specs.Ranges.{most}
use Rattle.rules.specs.Channels.{count, Picture, picture}
use Rattle.rules.specs.Blocks.{chroma_width, chroma_height}
use Rattle.rules.specs.Refusals.{outside, Line, passes, refuses, line, first, source_values}
use Rattle.rules.specs.Search.{Test, first_failing, Search}

-- 7: "width or height is 0 or over 16,384"
abbrev pub size_off : Frame → Bool
size_off f = outside 1 16384 f.width || outside 1 16384 f.height

-- 12: "a window number over 16,384 or first row + height over the source rows"
abbrev pub window_off : Frame → Bool
window_off f =
    outside 0 16384 f.first_column
    || (outside 0 16384 f.first_row || (outside 0 16384 f.source_rows || ltb f.source_rows (f.first_row + f.height)))

-- 8: "a stride is shorter than its visible row or over 65,536"; 02: "Source stride must cover (first column + width) pixels"
abbrev pub stride_off : Settings → Frame → Bool
stride_off s f =
    outside ((f.first_column + f.width) * count s.channels) 65536 f.source_stride
    || (outside f.width 65536 f.luma_stride || outside (chroma_width s.subsampling f.width) 65536 f.chroma_stride)

-- "stride × rows": the elements of one frame in the source and in each plane; 02: "source length is stride × source rows"
abbrev pub source_size : Frame → ℕ
source_size f = f.source_rows * f.source_stride

abbrev pub luma_size : Frame → ℕ
luma_size f = f.height * f.luma_stride

abbrev pub chroma_size : Settings → Frame → ℕ
chroma_size s f = chroma_height s.subsampling f.height * f.chroma_stride

-- 9: "a buffer's length is not exactly stride × rows"; 02, of many frames: "count × stride × rows"
abbrev pub length_off : Settings → Frame → ℕ → ℕ → ℕ → ℕ → Bool
length_off s f count source luma chroma =
    not (eqb source (count * source_size f)) || (not (eqb luma (count * luma_size f)) || not (eqb chroma (count * chroma_size s f)))

-- "the visible pixels are those of the window": the picture of the whole source, moved by the window's corner
abbrev pub window : YuvSourceChannels → Frame → List ℕ → Picture
window c f source row column = picture c f.source_stride source (f.first_row + row) (f.first_column + column)

-- the picture that the source of a frame shows
abbrev pub shown : Settings → Frame → List ℕ → Picture
shown s f source = window s.channels f source

-- ---- 10: "a visible colour sample of the source exceeds m"

-- channel 0 of a pixel is red, 1 green and 2 blue
abbrev pub channel_of : ℕ → Pixel → ℕ
channel_of zero p = p.red
channel_of (suc zero) p = p.green
channel_of (suc (suc n)) p = p.blue

-- the colour samples of a row, numbered: red, green and blue of the first pixel, then of the next
abbrev pub colour_sample : Picture → ℕ → ℕ → ℕ
colour_sample px row i = channel_of (i % 3) (px row (i / 3))

abbrev pub low_test : ℕ → Picture → Test
low_test m px row i = leb (colour_sample px row i) m

-- the first visible colour sample that exceeds m, reading row by row
unfoldable pub too_large : ℕ → Frame → Picture → Search
too_large m f px = first_failing (low_test m px) (3 * f.width) f.height

-- ---- a line for each test

abbrev pub size_line : Frame → Line
size_line f = line 7 (size_off f)

abbrev pub window_line : Frame → Line
window_line f = line 12 (window_off f)

abbrev pub stride_line : Settings → Frame → Line
stride_line s f = line 8 (stride_off s f)

-- by the number of frames, and the lengths of the source and of the two planes
abbrev pub length_line : Settings → Frame → ℕ → ℕ → ℕ → ℕ → Line
length_line s f count source luma chroma = line 9 (length_off s f count source luma chroma)

-- 02: "Refusal 10 is to carry row, pixel and channel (red before green before blue) of the first too-large visible sample"
abbrev pub place_line : Search → Line
place_line None = passes
place_line (Some p) = refuses 10 (source_values p.row (p.element / 3) (p.element % 3))

abbrev pub too_large_line : Settings → Frame → List ℕ → Line
too_large_line s f source = place_line (too_large (most s.depth) f (shown s f source))

-- what is asked of a frame and the lengths of its three buffers, in order; 12 comes "directly after 7"
abbrev pub layout_lines : Settings → Frame → ℕ → ℕ → ℕ → List Line
layout_lines s f source luma chroma = size_line f ∷ window_line f ∷ stride_line s f ∷ length_line s f 1 source luma chroma ∷ []

-- what convert and check ask of a frame, in order: these, and then that no sample is too large
abbrev pub frame_lines : Settings → Frame → List ℕ → ℕ → ℕ → List Line
frame_lines s f source luma chroma =
    size_line f ∷ window_line f ∷ stride_line s f ∷ length_line s f 1 (length source) luma chroma ∷ too_large_line s f source ∷ []

-- what these lines come to, for a source and two planes
abbrev pub frame_line : Settings → Frame → List ℕ → List ℕ → List ℕ → Line
frame_line s f source luma chroma = first (frame_lines s f source (length luma) (length chroma))
