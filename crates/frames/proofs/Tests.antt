-- What the tests of a frame leave. Assumes nothing.
use Rattle.std.proofs.Common.{Ok, Err, None, Some}
use Rattle.rules.specs.Search.{Search}
use mathlib.Core.Path.{◌≡◌, refl, sym, ap, ◌∙◌}
use mathlib.Core.List.{List}
use mathlib.Core.Bool.{false, not, ◌||◌}
use Prim.Native.Nat.{ℕ, ◌+◌, ◌*◌, ◌/◌, ◌%◌, ◌≤◌, ◌<◌}
use native.Mathlib.Nat.{add-mul, mul-le-mul}
use native.Mathlib.Omega.{arith}
use lib.Dec.{eqb, leb, ltb, lit<}
use lib.ListN.{length}
use borrow.Author.Tests.{eqb-true, leb-true, ltb-false, not-false}
use Rattle.rules.specs.declared.Settings.{Settings}
use Rattle.rules.specs.declared.Frame.{Frame}
use Rattle.rules.specs.Ranges.{most}
use Rattle.rules.specs.Channels.{Picture, count}
use Rattle.rules.specs.Blocks.{chroma_width}
use Rattle.rules.specs.Refusals.{passes, line_of, outside, first, Verdict}
use Rattle.rules.specs.Frames.{size_off, window_off, stride_off, source_size, luma_size, chroma_size, length_off, shown, channel_of, colour_sample, low_test, too_large, place_line, frame_lines}
use Rattle.rule_laws.proofs.Refusals.{bounds, passed, passed_by}
use Rattle.plane_laws.proofs.Tests.{neither}
use Rattle.plane_laws.proofs.Tables.{step_le}
use Rattle.plane_laws.proofs.Searches.{none_clean}
use Rattle.blocks.proofs.Tiles.{width_some}
use Rattle.frames.specs.Rows.{Rows, LowPicture}
use Rattle.frames.specs.SourceRows.{WindowRows}
use Rattle.frames.specs.Tests.{Sized, Windowed, Strided, Laid, Ready, Clear}
use Rattle.frames.proofs.Places.{places}

pub sized : (f : Frame) → size_off f ≡ false → Sized f
sized f h =
    let k = neither (outside 1 16384 f.width) (outside 1 16384 f.height) h in
    let a = bounds 1 16384 f.width k.0 in
    let b = bounds 1 16384 f.height k.1 in
    record { wide = a.0; narrow = a.1; high = b.0; flat = b.1 }

pub windowed : (f : Frame) → window_off f ≡ false → Windowed f
windowed f h =
    let x = outside 0 16384 f.first_column in
    let y = outside 0 16384 f.first_row in
    let z = outside 0 16384 f.source_rows in
    let u = ltb f.source_rows (f.first_row + f.height) in
    let k = neither x (y || (z || u)) h in
    let l = neither y (z || u) k.1 in
    let m = neither z u l.1 in
    record {
      left = (bounds 0 16384 f.first_column k.0).1;
      top = (bounds 0 16384 f.first_row l.0).1;
      rows = (bounds 0 16384 f.source_rows m.0).1;
      within = ltb-false f.source_rows (f.first_row + f.height) m.1;
    }

pub strided : (s : Settings) (f : Frame) → stride_off s f ≡ false → Strided s f
strided s f h =
    let x = outside ((f.first_column + f.width) * count s.channels) 65536 f.source_stride in
    let y = outside f.width 65536 f.luma_stride in
    let z = outside (chroma_width s.subsampling f.width) 65536 f.chroma_stride in
    let k = neither x (y || z) h in
    let l = neither y z k.1 in
    let a = bounds ((f.first_column + f.width) * count s.channels) 65536 f.source_stride k.0 in
    let b = bounds f.width 65536 f.luma_stride l.0 in
    let c = bounds (chroma_width s.subsampling f.width) 65536 f.chroma_stride l.1 in
    record { source = a.0; source_most = a.1; luma = b.0; luma_most = b.1; chroma = c.0; chroma_most = c.1 }

-- rows that fill a buffer lie in it
filled : {long stride wide rows : ℕ} → 0 < stride → wide ≤ stride → not (eqb long (1 * (rows * stride))) ≡ false → Rows long stride wide rows
filled {long} {stride} {wide} {rows} some covers h =
    let e = eqb-true long (1 * (rows * stride)) (not-false (eqb long (1 * (rows * stride))) h) in
    record { some = some; covers = covers; fits = λ row b. let k = step_le row rows stride long b (omega arith) in omega arith }

-- and those of the window lie among them
window_rows : (s : Settings) (f : Frame) {long : ℕ} → Windowed f → Rows long f.source_stride ((f.first_column + f.width) * count s.channels) f.source_rows
    → WindowRows s.channels f long
window_rows s f w r =
    record {
      some = r.some;
      fits = λ row h.
          omega (arith, r.fits (f.first_row + row) (omega (arith, h, w.within)), add-mul f.first_column f.width (count s.channels));
    }

pub laid : (s : Settings) (f : Frame) (source luma chroma : ℕ) → Sized f → Windowed f → Strided s f → length_off s f 1 source luma chroma ≡ false → Laid s f source luma chroma
laid s f source luma chroma a w b h =
    let x = not (eqb source (1 * source_size f)) in
    let y = not (eqb luma (1 * luma_size f)) in
    let z = not (eqb chroma (1 * chroma_size s f)) in
    let k = neither x (y || z) h in
    let l = neither y z k.1 in
    let g : 1 ≤ count s.channels = omega (arith, (places s.channels).least) in
    let n : 1 * 1 ≤ (f.first_column + f.width) * count s.channels = mul-le-mul (let m : 1 ≤ f.first_column + f.width = omega (arith, a.wide) in m) g in
    record {
      source = window_rows s f w (filled (omega (arith, b.source)) b.source k.0);
      luma = filled (omega (arith, a.wide, b.luma)) b.luma l.0;
      chroma = filled (omega (arith, width_some s.subsampling f.width a.wide, b.chroma)) b.chroma l.1;
    }

-- ---- no visible sample is too large

-- the three colour samples of pixel x have the numbers 3·x, 3·x + 1 and 3·x + 2
pub sample_of_lem : (px : Picture) (row x c : ℕ) → c < 3 → colour_sample px row (3 * x + c) ≡ channel_of c (px row x)
sample_of_lem px row x c h =
    let rest : (3 * x + c) % 3 ≡ c = omega arith in
    let whole : (3 * x + c) / 3 ≡ x = omega arith in
    λ i. channel_of (rest i) (px row (whole i))

pub low_picture : (m : ℕ) (f : Frame) (px : Picture) → too_large m f px ≡ None → LowPicture m px f.width f.height
unfolding too_large
low_picture m f px h =
    let clean = none_clean (low_test m px) (3 * f.width) f.height h in
    let low : (row x c : ℕ) → row < f.height → x < f.width → c < 3 → channel_of c (px row x) ≤ m = λ row x c b l k.
    leb-true (channel_of c (px row x)) m
    (sym (ap (λ (v : ℕ). leb v m) (sample_of_lem px row x c k)) ∙ clean.clean row (3 * x + c) b (omega arith)) in
    record {
      low = λ row b. record {
        low = λ x l. record { red = low row x 0 b l (lit< tt); green = low row x 1 b l (lit< tt); blue = low row x 2 b l (lit< tt) };
      };
    }

-- a search whose line passes found nothing
pub no_place : (x : Search) → place_line x ≡ passes → x ≡ None
no_place None h = refl
no_place (Some p) h = absurd (let z : ◌≡◌ {A = ℕ} 0 1 = cc in omega arith)

-- ---- a frame that no refusal meets can be converted
pub ready : (s : Settings) (f : Frame) (source : List ℕ) (luma chroma : ℕ) → first (frame_lines s f source luma chroma) ≡ passes → Ready s f source luma chroma
ready s f source luma chroma h =
    let size = passed_by _ _ _ h in
    let corner = passed_by _ _ _ size.1 in
    let stride = passed_by _ _ _ corner.1 in
    let long = passed_by _ _ _ stride.1 in
    let z = sized f size.0 in
    record {
      sized = z;
      laid = laid s f (length source) luma chroma z (windowed f corner.0) (strided s f stride.0) long.0;
      low = low_picture (most s.depth) f (shown s f source) (no_place _ (passed _ _ long.1).0);
    }

-- so a verdict that says what these lines come to leaves a frame that can be converted, where it passes
pub clear : (s : Settings) (f : Frame) (source : List ℕ) (luma chroma : ℕ) (r : Verdict) → line_of r ≡ first (frame_lines s f source luma chroma) → Clear s f source luma chroma r
clear s f source luma chroma (Ok u) h = ready s f source luma chroma (sym h)
clear s f source luma chroma (Err n) h = tt
