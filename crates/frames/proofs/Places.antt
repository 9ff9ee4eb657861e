-- The places of a pixel's samples, and the pixels that a row part shows. Assumes nothing.
use mathlib.Core.Path.{◌≡◌, sym, ap, ◌∙◌, subst⁻¹}
use mathlib.Core.List.{List}
use Prim.Native.Nat.{ℕ, ◌+◌, ◌-◌, ◌*◌, ◌/◌, ◌≤◌, ◌<◌}
use native.Mathlib.Nat.{add_assoc, add-mul, add-sub_cancel_left, mul-le-mul}
use native.Mathlib.Omega.{arith}
use lib.Dec.{lit<, lit≤}
use lib.ListN.{length, get_or, take, drop, length-drop}
use lib.Seq.{length-take-le, get_or-take, get_or-drop}
use Rattle.rules.specs.declared.Settings.{Settings}
use Rattle.rules.specs.declared.Frame.{Frame}
use Rattle.rules.specs.declared.Pixel.{Pixel}
use Rattle.rules.specs.declared.YuvSourceChannels.{YuvSourceChannels}
use Rattle.rules.specs.declared.YuvSourceChannels.TheVariants.{Rgb, Rgba, Bgra, Bgr}
use Rattle.rules.specs.Ranges.{most}
use Rattle.rules.specs.Channels.{count, red_at, green_at, blue_at, pixel_at}
use Rattle.rules.specs.Frames.{window}
use Rattle.rule_laws.specs.Codes.{Low}
use Rattle.plane_laws.proofs.Tables.{step_le}
use Rattle.frames.specs.Rows.{PlaneRow, Shows, Convertible}
use Rattle.frames.specs.SourceRows.{row_start, SourceRow}
use Rattle.frames.specs.Tests.{Sized, Windowed, Ready}

-- the colour samples are the first three of a pixel
pub record Places (c : YuvSourceChannels) : Type 0 where
  pub red : red_at c < 3
  pub green : green_at c < 3
  pub blue : blue_at c < 3
  pub least : 3 ≤ count c
  pub most : count c ≤ 4

pub places : (c : YuvSourceChannels) → Places c
places Rgb = record { red = lit< tt; green = lit< tt; blue = lit< tt; least = lit≤ tt; most = lit≤ tt }
places Rgba = record { red = lit< tt; green = lit< tt; blue = lit< tt; least = lit≤ tt; most = lit≤ tt }
places Bgra = record { red = lit< tt; green = lit< tt; blue = lit< tt; least = lit≤ tt; most = lit≤ tt }
places Bgr = record { red = lit< tt; green = lit< tt; blue = lit< tt; least = lit≤ tt; most = lit≤ tt }

-- a row of the greatest width, past the greatest first column
pub row_small : (f : Frame) (c : YuvSourceChannels) → Sized f → Windowed f → (f.first_column + f.width) * count c ≤ 131072
row_small f c h w = mul-le-mul (let k : f.first_column + f.width ≤ 32768 = omega (arith, h.narrow, w.left) in k) (places c).most

-- the pixel by places that were worked out
pub same_pixel : (c : YuvSourceChannels) (source : List ℕ) (at : ℕ) {i j k : ℕ} → i ≡ red_at c → j ≡ green_at c → k ≡ blue_at c
    → ◌≡◌ {A = Pixel} (record { red = get_or source (at + i) 0; green = get_or source (at + j) 0; blue = get_or source (at + k) 0 }) (pixel_at c source at)
same_pixel c source at p q r = λ z. record { red = get_or source (at + p z) 0; green = get_or source (at + q z) 0; blue = get_or source (at + r z) 0 }

-- the pixel of a part is the pixel of the whole
pixel_part : (c : YuvSourceChannels) (source : List ℕ) (a n at : ℕ) → at + count c ≤ n → pixel_at c (take n (drop a source)) at ≡ pixel_at c source (a + at)
pixel_part c source a n at h =
    λ j. record { red = one (red_at c) (places c).red j; green = one (green_at c) (places c).green j; blue = one (blue_at c) (places c).blue j }
  where
    one : (k : ℕ) → k < 3 → get_or (take n (drop a source)) (at + k) 0 ≡ get_or source (a + at + k) 0
    one k b =
        get_or-take n (drop a source) (at + k) 0 (omega (arith, (places c).least))
        ∙ get_or-drop a source (at + k) 0
        ∙ ap (λ (m : ℕ). get_or source m 0) (sym (add_assoc a at k))

-- pixel x of a row stands so many pixels after the first
pixel_place : (c : YuvSourceChannels) (f : Frame) (row x : ℕ) → row_start c f row + x * count c ≡ (f.first_row + row) * f.source_stride + (f.first_column + x) * count c
pixel_place c f row x =
    add_assoc ((f.first_row + row) * f.source_stride) (f.first_column * count c) (x * count c)
    ∙ ap (λ (n : ℕ). (f.first_row + row) * f.source_stride + n) (sym (add-mul f.first_column x (count c)))

-- a part that starts where a row of the window starts shows that row
part_shows : (c : YuvSourceChannels) (f : Frame) (source : List ℕ) (row n : ℕ) → f.width * count c ≤ n
    → Shows c (take n (drop (row_start c f row) source)) (window c f source) row f.width
part_shows c f source row n h =
    record {
      same = λ x l.
          pixel_part c source (row_start c f row) n (x * count c) (step_le x f.width (count c) n l h)
          ∙ ap (pixel_at c source) (pixel_place c f row x);
    }

-- the part that starts there and ends with the visible row, by a count of channels that was worked out
pub source_row : (c : YuvSourceChannels) (f : Frame) (source : List ℕ) (row : ℕ) {k : ℕ} → k ≡ count c → row_start c f row + f.width * count c ≤ length source
    → let a = (f.first_row + row) * f.source_stride + f.first_column * k in SourceRow c f source row (take (a + f.width * k - a) (drop a source))
source_row c f source row {k} e fits =
    subst⁻¹ (λ (k : ℕ). let a = (f.first_row + row) * f.source_stride + f.first_column * k in SourceRow c f source row (take (a + f.width * k - a) (drop a source))) e
    (let a = row_start c f row in
    let n = a + f.width * count c - a in
    let exact = add-sub_cancel_left a (f.width * count c) in
    let rest = length-drop a source in
    let long = length-take-le n (drop a source) (omega arith) in
    record { long = omega arith; shows = part_shows c f source row n (omega arith) })

-- a row of a source that is ready can be converted
pub convertible : {s : Settings} {f : Frame} {source : List ℕ} {luma chroma row : ℕ} {part : List ℕ} → Ready s f source luma chroma → row < f.height → SourceRow s.channels f source row part
    → Convertible s f.width part
convertible {s} {row = row} ready within r =
    record {
      long = omega (arith, r.long);
      low = record { low = λ x b. subst⁻¹ (Low (most s.depth)) (r.shows.same x b) ((ready.low.low row within).low x b) };
    }

-- the part that is lent as a row of a plane
pub part_holds : (stride wide : ℕ) (words : List ℕ) (row : ℕ) → row * stride + wide ≤ length words → PlaneRow stride wide words row (take (row * stride + wide - row * stride) (drop (row * stride) words))
part_holds stride wide words row h =
    let a = row * stride in
    let e : a + wide - a ≡ wide = omega arith in
    record {
      long = length-take-le (a + wide - a) (drop a words) (omega (arith, length-drop a words)) ∙ e;
      holds = λ i l. get_or-take (a + wide - a) (drop a words) i 0 (omega (arith, e)) ∙ get_or-drop a words i 0;
    }

-- the column of an element of a row
pub column_below : (c : YuvSourceChannels) (width i : ℕ) → i < width * count c → i / count c < width
column_below Rgb width i h = omega arith
column_below Rgba width i h = omega arith
column_below Bgra width i h = omega arith
column_below Bgr width i h = omega arith
