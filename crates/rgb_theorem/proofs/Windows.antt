-- THE THEOREMS of the window: the buffer keeps its length, every element outside the window is as it was, and through the window the buffer
-- shows the picture that was written. Assumes nothing.
use mathlib.Core.Path.{◌≡◌, refl, sym, ap, ◌∙◌, subst}
use mathlib.Core.Logic.{⊎_elim}
use mathlib.Core.List.{List}
use Prim.Native.Nat.{ℕ, ◌+◌, ◌-◌, ◌*◌, ◌/◌, ◌%◌, ◌≤◌, ◌<◌}
use native.Mathlib.Nat.{div-add-mod'}
use native.Mathlib.Omega.{arith}
use lib.ListN.{length, get_or, take, drop, length-append, length-drop, get_or-append}
use lib.Seq.{length-take-le, get_or-append-add, get_or-take, get_or-drop}
use Rattle.rules.specs.declared.Frame.{Frame}
use Rattle.rules.specs.declared.Pixel.{Pixel}
use Rattle.rules.specs.declared.YuvSourceChannels.{YuvSourceChannels}
use Rattle.rules.specs.declared.YuvSourceChannels.TheVariants.{Rgb, Rgba, Bgra, Bgr}
use Rattle.rules.specs.Channels.{Picture, count, red_at, green_at, blue_at}
use Rattle.rules.specs.Planes.{written}
use Rattle.rules.specs.Frames.{window}
use Rattle.rules.specs.ToRgb.{pixel_element, row_element, corner, rgb_written}
use Rattle.plane_laws.proofs.Tests.{lt_or_le}
use Rattle.plane_laws.proofs.Planes.{length_plane, plane_at, beside, below, written_at}
use Rattle.frames.proofs.Places.{places}
use Rattle.rgb_theorem.specs.Outcomes.{index_of, Outside}

-- ---- the elements of a pixel

spot : (c : YuvSourceChannels) (x at : ℕ) → at < 3 → ((x * count c + at) / count c ≡ x) × ((x * count c + at) % count c ≡ at) × ((width : ℕ) → x < width → x * count c + at < width * count c)
spot Rgb x at h = (omega arith, omega arith, λ width b. omega arith)
spot Rgba x at h = (omega arith, omega arith, λ width b. omega arith)
spot Bgra x at h = (omega arith, omega arith, λ width b. omega arith)
spot Bgr x at h = (omega arith, omega arith, λ width b. omega arith)

red_in : (c : YuvSourceChannels) (m : ℕ) (p : Pixel) → pixel_element c m p (red_at c) ≡ p.red
red_in Rgb m p = refl
red_in Rgba m p = refl
red_in Bgra m p = refl
red_in Bgr m p = refl

green_in : (c : YuvSourceChannels) (m : ℕ) (p : Pixel) → pixel_element c m p (green_at c) ≡ p.green
green_in Rgb m p = refl
green_in Rgba m p = refl
green_in Bgra m p = refl
green_in Bgr m p = refl

blue_in : (c : YuvSourceChannels) (m : ℕ) (p : Pixel) → pixel_element c m p (blue_at c) ≡ p.blue
blue_in Rgb m p = refl
blue_in Rgba m p = refl
blue_in Bgra m p = refl
blue_in Bgr m p = refl

-- ---- the buffer

module _ (c : YuvSourceChannels) (m : ℕ) (f : Frame) (px : Picture) (rgb : List ℕ) (inside : corner c f ≤ length rgb) where
  abbrev stride : ℕ
  stride = f.source_stride

  abbrev wide : ℕ
  wide = f.width * count c

  abbrev rows : ℕ → ℕ → ℕ
  rows row = row_element c m (px row)

  abbrev rest : List ℕ
  rest = drop (corner c f) rgb

  abbrev after : List ℕ
  after = rgb_written c m f px rgb

  front : length (take (corner c f) rgb) ≡ corner c f
  front = length-take-le (corner c f) rgb inside

  pub length_kept : length after ≡ length rgb
  length_kept =
      length-append (take (corner c f) rgb) (written stride wide f.height rows rest)
      ∙ omega (arith, front, length_plane stride wide rows rest f.height, length-drop (corner c f) rgb)

  -- from the corner on
  from_corner : (i : ℕ) → get_or after (corner c f + i) 0 ≡ get_or (written stride wide f.height rows rest) i 0
  from_corner i =
      subst (λ (n : ℕ). get_or after (n + i) 0 ≡ get_or (written stride wide f.height rows rest) i 0) front
      (get_or-append-add (take (corner c f) rgb) (written stride wide f.height rows rest) i 0)

  -- an element that no row of the window has
  rest_kept : (i : ℕ) → i < length rest → ((row e : ℕ) → row < f.height → e < wide → i ≡ row * stride + e → ⊥) → get_or (written stride wide f.height rows rest) i 0 ≡ get_or rest i 0
  rest_kept i h out =
      plane_at stride wide rows rest f.height i h
      ∙ ⊎_elim
      (λ (e : i % stride < wide). ⊎_elim
      (λ (r : i / stride < f.height). absurd (out (i / stride) (i % stride) r e (sym (div-add-mod' i stride))))
      (λ (r : f.height ≤ i / stride). below stride wide rows rest f.height i r)
      (lt_or_le (i / stride) f.height))
      (λ (e : wide ≤ i % stride). beside stride wide rows rest f.height i e)
      (lt_or_le (i % stride) wide)

  -- THE THEOREM: "Padding and every RGB element outside the window survive"
  pub outside_kept : (k : ℕ) → k < length rgb → Outside c f k → get_or after k 0 ≡ get_or rgb k 0
  outside_kept k h out =
      ⊎_elim
      (λ (l : k < corner c f). get_or-append (take (corner c f) rgb) _ 0 k (omega (arith, front)) ∙ get_or-take (corner c f) rgb k 0 l)
      (λ (l : corner c f ≤ k).
      let i : ℕ = k - corner c f in
      let e : corner c f + i ≡ k = omega arith in
      sym (ap (λ (n : ℕ). get_or after n 0) e)
      ∙ from_corner i
      ∙ rest_kept i (omega (arith, length-drop (corner c f) rgb)) (λ row x r b q. out row x r b (omega (arith, q)))
      ∙ get_or-drop (corner c f) rgb i 0
      ∙ ap (λ (n : ℕ). get_or rgb n 0) e)
      (lt_or_le k (corner c f))

  module _ (covers : wide ≤ stride) (fits : (row : ℕ) → row < f.height → index_of c f row wide ≤ length rgb) where
    -- an element of the window
    element_is : (row e : ℕ) → row < f.height → e < wide → get_or after (index_of c f row e) 0 ≡ rows row e
    element_is row e h l =
        let i : corner c f + (row * stride + e) ≡ index_of c f row e = omega arith in
        sym (ap (λ (n : ℕ). get_or after n 0) i)
        ∙ from_corner (row * stride + e)
        ∙ written_at stride wide rows rest f.height row e h l covers (omega (arith, fits row h, length-drop (corner c f) rgb))

    -- a colour sample of a pixel of the window, by its place
    sample_is : (at row x : ℕ) → at < 3 → row < f.height → x < f.width
        → get_or after ((f.first_row + row) * stride + (f.first_column + x) * count c + at) 0 ≡ pixel_element c m (px row x) at
    sample_is at row x l h b =
        let i : (f.first_row + row) * stride + (f.first_column + x) * count c + at ≡ index_of c f row (x * count c + at) = omega arith in
        let s = spot c x at l in
        ap (λ (n : ℕ). get_or after n 0) i ∙ element_is row (x * count c + at) h (s.2 f.width b) ∙ (λ j. pixel_element c m (px row (s.0 j)) (s.1 j))

    -- THE THEOREM: through the window the buffer shows the picture that was written
    pub window_shows : (row x : ℕ) → row < f.height → x < f.width → window c f after row x ≡ px row x
    window_shows row x h b =
        let p = places c in
        let r = sample_is (red_at c) row x p.red h b ∙ red_in c m (px row x) in
        let g = sample_is (green_at c) row x p.green h b ∙ green_in c m (px row x) in
        let u = sample_is (blue_at c) row x p.blue h b ∙ blue_in c m (px row x) in
        λ i. record { red = r i; green = g i; blue = u i }
