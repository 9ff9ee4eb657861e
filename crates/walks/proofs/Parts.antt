-- Row parts: where they lie, and that what they hold is what the buffers hold. Assumes nothing.
use mathlib.Core.Path.{◌≡◌, sym, ap, ◌∙◌, subst}
use mathlib.Core.Bool.{Bool, true}
use mathlib.Core.List.{List}
use Prim.Native.Nat.{ℕ, ◌+◌, ◌-◌, ◌*◌, ◌/◌, ◌≤◌, ◌<◌}
use native.Mathlib.Omega.{arith}
use lib.ListN.{length, get_or, take, drop, length-take, length-drop}
use lib.Seq.{get_or-take, get_or-drop}
use Rattle.rules.specs.declared.Settings.{Settings}
use Rattle.rules.specs.declared.Named.{Named}
use Rattle.rules.specs.declared.Frame.{Frame}
use Rattle.rules.specs.declared.Pixel.{Pixel}
use Rattle.rules.specs.Channels.{Picture, is_u}
use Rattle.rules.specs.Blocks.{chroma_width}
use Rattle.rules.specs.PlaneSamples.{chroma_sample}
use Rattle.rules.specs.Frames.{shown}
use Rattle.rules.specs.Check.{right, luma_test, chroma_test}
use Rattle.blocks.specs.Tiles.{left_of, wide_at, top_of, two_at, second_of, tiles}
use Rattle.blocks.proofs.Tiles.{block_tiles, left_below, wide_below, tiles_same}
use Rattle.frames.specs.Rows.{Rows, row_pixel, Shows}
use Rattle.frames.specs.SourceRows.{SourceRow}
use Rattle.sample_check.specs.Samples.{pixel_right, block_right, element_right}

-- n elements from row × stride on lie inside a buffer, whose bytes a usize counts
pub record RowInside (long stride row n : ℕ) : Type 0 where
  pub end : row * stride + n ≤ long
  pub counted : long * 2 ≤ 18446744073709551615

pub row_inside : {long stride wide rows row n : ℕ} → Rows long stride wide rows → long * 2 ≤ 18446744073709551615 → row < rows → n ≡ wide → RowInside long stride row n
row_inside {long} {stride} {row = row} r h b e = record { end = subst (λ (m : ℕ). row * stride + m ≤ long) (sym e) (r.fits row b); counted = h }

-- n elements from a on, as the borrow checker has a part that is lent
abbrev pub part : List ℕ → ℕ → ℕ → List ℕ
part xs a n = take (a + n - a) (drop a xs)

pub part_long : (xs : List ℕ) (a n : ℕ) → a + n ≤ length xs → length (part xs a n) ≡ n
part_long xs a n h = simp (length-take, length-drop) (omega arith)

part_at : (xs : List ℕ) (a n e : ℕ) → e < n → get_or (part xs a n) e 0 ≡ get_or xs (a + e) 0
part_at xs a n e h = get_or-take (a + n - a) (drop a xs) e 0 (omega arith) ∙ get_or-drop a xs e 0

-- ---- a row of luma
module _ (s : Settings) (k : Named) (f : Frame) (source luma : List ℕ) where
  pub luma_shown : (row e : ℕ) (pixels : List ℕ) {r : Bool} → SourceRow s.channels f source row pixels → e < f.width →
      r ≡ pixel_right s k (row_pixel s.channels pixels e) (get_or (part luma (row * f.luma_stride) f.width) e 0) →
      r ≡ luma_test s k f (shown s f source) luma row e
  luma_shown row e pixels p h g =
      let v = part_at luma (row * f.luma_stride) f.width e h in
      g ∙ λ i. pixel_right s k (p.shows.same e h i) (v i)

-- ---- a row of chroma

-- the second row, where there is one
second : (two : Bool) (t : ℕ) {u : ℕ} → u ≡ second_of two t → two ≡ true → u ≡ t + 1
second two t e h = e ∙ ap (λ (b : Bool). second_of b t) h

module _ (s : Settings) (k : Named) (width height : ℕ) (px : Picture) (t u : ℕ) (two : Bool) (top low : List ℕ)
    (upper : Shows s.channels top px t width) (lower : Shows s.channels low px u width) where
  element_shown : (row e v : ℕ) → t ≡ top_of s.subsampling row → two ≡ two_at s.subsampling height t → u ≡ second_of two t → e < chroma_width s.subsampling width →
      element_right s k width two (row_pixel s.channels top) (row_pixel s.channels low) e v ≡ right s k (chroma_sample s width height px row e) v
  unfolding element_right block_right
  element_shown row e v et eb eu h =
      let sub = s.subsampling in
      let x = left_of sub (e / 2) in
      let inside = left_below sub width e h in
      let beside = wide_below sub width x in
      let low-is : (y : ℕ) → y < width → two ≡ true → row_pixel s.channels low y ≡ px (t + 1) y =
      λ y b g. lower.same y b ∙ ap (λ (r : ℕ). px r y) (second two t eu g) in
      ap (λ (b : List Pixel). block_right s k (is_u s.order e) b v)
      (tiles_same (wide_at sub width x) two (row_pixel s.channels top) (px t) (row_pixel s.channels low) (px (t + 1)) x
      (upper.same x inside) (λ g. upper.same (x + 1) (beside g)) (low-is x inside) (λ g b. low-is (x + 1) (beside b) g)
      ∙ (λ i. tiles (wide_at sub width x) (eb i) (px t) (px (t + 1)) x)
      ∙ (λ i. tiles (wide_at sub width x) (two_at sub height (et i)) (px (et i)) (px (et i + 1)) x)
      ∙ sym (block_tiles sub width height px row (e / 2)))

module _ (s : Settings) (k : Named) (f : Frame) (source chroma : List ℕ) where
  pub chroma_shown : (row e t u : ℕ) (two : Bool) (top low : List ℕ) {r : Bool} → t ≡ top_of s.subsampling row → two ≡ two_at s.subsampling f.height t → u ≡ second_of two t →
      SourceRow s.channels f source t top → SourceRow s.channels f source u low → (d : ℕ) → d ≡ chroma_width s.subsampling f.width → e < d →
      r ≡ element_right s k f.width two (row_pixel s.channels top) (row_pixel s.channels low) e (get_or (part chroma (row * f.chroma_stride) d) e 0) →
      r ≡ chroma_test s k f (shown s f source) chroma row e
  chroma_shown row e t u two top low et eb eu upper lower d q l g =
      let px = shown s f source in
      g
      ∙ element_shown s k f.width f.height px t u two top low upper.shows lower.shows row e _ et eb eu (subst (λ (m : ℕ). e < m) q l)
      ∙ ap (right s k (chroma_sample s f.width f.height px row e)) (part_at chroma (row * f.chroma_stride) d e l)
