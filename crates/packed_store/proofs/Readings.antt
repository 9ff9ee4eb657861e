-- Pixels whose samples were read in source order, their means, and the words by them. Assumes nothing.
use mathlib.Core.Path.{◌≡◌, refl, sym, ap, ◌∙◌, subst⁻¹}
use mathlib.Core.Bool.{Bool, true, false, true≢false}
use mathlib.Core.List.{List, [], ◌∷◌}
use Prim.Native.Nat.{ℕ, ◌+◌, ◌*◌, ◌/◌, ◌%◌, ◌≤◌, ◌<◌}
use native.Mathlib.Omega.{arith}
use lib.ListN.{length}
use lib.Dec.{eqb}
use borrow.Author.Tests.{lt-ltb}
use Rattle.rules.specs.declared.Settings.{Settings}
use Rattle.rules.specs.declared.Weights.{Weights}
use Rattle.rules.specs.declared.Pixel.{Pixel}
use Rattle.rules.specs.declared.YuvSourceChannels.{YuvSourceChannels}
use Rattle.rules.specs.declared.YuvSourceChannels.TheVariants.{Rgb, Rgba, Bgra, Bgr}
use Rattle.rules.specs.declared.YuvChromaSubsampling.{YuvChromaSubsampling}
use Rattle.rules.specs.declared.YuvChromaSubsampling.TheVariants.{Yuv420, Yuv422, Yuv444}
use Rattle.rules.specs.Ranges.{most, uv_bias}
use Rattle.rules.specs.Channels.{count, is_u, u_at, pixel_at}
use Rattle.rules.specs.Sample.{code}
use Rattle.rules.specs.Blocks.{averaged, total}
use Rattle.rules.specs.Storage.{packed}
use Rattle.rule_laws.specs.Codes.{Low}
use Rattle.tolerance_laws.specs.Chroma.{chroma_row}
use Rattle.tolerance_laws.proofs.Means.{averaged_one}
use Rattle.plane_laws.proofs.Tables.{step_le}
use Rattle.blocks.specs.Tiles.{paired, left_of, wide_at}
use Rattle.joined_codes.specs.Packed.{colours_of, packed_luma, packed_chroma}
use Rattle.frames.specs.Rows.{row_pixel, Convertible}
use Rattle.last_column.specs.Words.{pair_mean}
use Rattle.packed_store.specs.Packed.{packed_luma_at, packed_chroma_at}
use Rattle.last_column.proofs.Tiles.{found}

-- ---- pixels whose samples were read in source order

pub count_some : (c : YuvSourceChannels) → 3 ≤ count c
count_some Rgb = omega arith
count_some Rgba = omega arith
count_some Bgra = omega arith
count_some Bgr = omega arith

row_is : (c : YuvSourceChannels) (part : List ℕ) (x : ℕ) → colours_of c (pixel_at Rgb part (x * count c)) ≡ row_pixel c part x
row_is Rgb part x = refl
row_is Rgba part x = refl
row_is Bgra part x = refl
row_is Bgr part x = refl

row_low : (c : YuvSourceChannels) {m : ℕ} (part : List ℕ) (x : ℕ) → Low m (row_pixel c part x) → Low m (pixel_at Rgb part (x * count c))
row_low Rgb part x h = h
row_low Rgba part x h = h
row_low Bgra part x h = record { red = h.blue; green = h.green; blue = h.red }
row_low Bgr part x h = record { red = h.blue; green = h.green; blue = h.red }

module _ (s : Settings) {width : ℕ} {part : List ℕ} (h : Convertible s width part) {n : ℕ} (en : n ≡ count s.channels) where
  -- the pixel of column x, which was read from index i on
  module _ (x i : ℕ) (ei : i ≡ x * n) where
    here : i ≡ x * count s.channels
    here = ei ∙ ap (λ (k : ℕ). x * k) en

    pub at_is : {p : Pixel} → p ≡ pixel_at Rgb part i → colours_of s.channels p ≡ row_pixel s.channels part x
    at_is e = ap (colours_of s.channels) (e ∙ ap (pixel_at Rgb part) here) ∙ row_is s.channels part x

    pub at_low : {p : Pixel} → p ≡ pixel_at Rgb part i → x < width → Low (most s.depth) p
    at_low e b = subst⁻¹ (Low (most s.depth)) (e ∙ ap (pixel_at Rgb part) here) (row_low s.channels part x (h.low.low x b))

    pub at_room : x < width → i + 3 ≤ length part
    at_room b =
        let l : width * count s.channels ≤ length part = omega (arith, h.long) in
        omega (arith, here, count_some s.channels, step_le x width (count s.channels) (length part) b l)

-- ---- words

module _ (s : Settings) (w : Weights) where
  pub luma_at : {p : Pixel} (t : ℕ → Pixel) (x : ℕ) → p ≡ t x → packed_luma s w p ≡ packed_luma_at s w t x
  luma_at t x q = ap (packed_luma s w) q

  place : (j k : ℕ) → j % 2 ≡ k % 2 → is_u s.order j ≡ is_u s.order k
  place j k e = ap (λ (n : ℕ). eqb n (u_at s.order)) e

  pub chroma_at : {p : Pixel} (width : ℕ) (two : Bool) (t u : ℕ → Pixel) (j k : ℕ) {pair : ℕ} → j % 2 ≡ k % 2 → k / 2 ≡ pair
      → p ≡ pair_mean s.subsampling width two t u pair → packed_chroma s w j p ≡ packed_chroma_at s w width two t u k
  unfolding packed_chroma_at
  chroma_at width two t u j k ej ek q =
      let z = q ∙ sym (ap (pair_mean s.subsampling width two t u) ek) in
      λ i. packed s.packing s.depth (code s.precision (uv_bias s.depth) (chroma_row (place j k ej i) w) (z i))

-- ---- means of such pixels

pub colours_two : (c : YuvSourceChannels) (p q : Pixel) → colours_of c (averaged (p ∷ q ∷ [])) ≡ averaged (colours_of c p ∷ colours_of c q ∷ [])
unfolding averaged total
colours_two Rgb p q = refl
colours_two Rgba p q = refl
colours_two Bgra p q = refl
colours_two Bgr p q = refl

pub colours_four : (c : YuvSourceChannels) (p q u v : Pixel) → colours_of c (averaged (p ∷ q ∷ u ∷ v ∷ [])) ≡ averaged (colours_of c p ∷ colours_of c q ∷ colours_of c u ∷ colours_of c v ∷ [])
unfolding averaged total
colours_four Rgb p q u v = refl
colours_four Rgba p q u v = refl
colours_four Bgra p q u v = refl
colours_four Bgr p q u v = refl

-- the block of a pixel by itself, and of a pair of columns
pub single : (s : Settings) (width : ℕ) (t : ℕ → Pixel) (x : ℕ) → s.subsampling ≡ Yuv444 → t x ≡ pair_mean s.subsampling width false t t x
single s width t x e = sym (averaged_one (t x)) ∙ sym (ap (λ (o : YuvChromaSubsampling). pair_mean o width false t t x) e)

left_pair : (o : YuvChromaSubsampling) (x : ℕ) → paired o ≡ true → x % 2 ≡ 0 → x ≡ left_of o (x / 2)
left_pair Yuv420 x e h = omega arith
left_pair Yuv422 x e h = omega arith
left_pair Yuv444 x e h = absurd (true≢false (sym e))

wide_pair : (o : YuvChromaSubsampling) (width x : ℕ) → paired o ≡ true → x + 1 < width → true ≡ wide_at o width x
wide_pair Yuv420 width x e h = sym (lt-ltb (x + 1) width h)
wide_pair Yuv422 width x e h = sym (lt-ltb (x + 1) width h)
wide_pair Yuv444 width x e h = absurd (true≢false (sym e))

module _ (s : Settings) (w : Weights) (width : ℕ) (t u : ℕ → Pixel) (x : ℕ) (e : paired s.subsampling ≡ true) (even : x % 2 ≡ 0) (h : x + 1 < width) where
  pub two_columns : {z : Pixel} (p q : Pixel) → z ≡ averaged (p ∷ q ∷ []) → colours_of s.channels p ≡ t x → colours_of s.channels q ≡ t (x + 1)
      → colours_of s.channels z ≡ pair_mean s.subsampling width false t u (x / 2)
  two_columns p q g hp hq =
      found s w width false t u (x / 2) (left_pair s.subsampling x e even) (wide_pair s.subsampling width x e h)
      (ap (colours_of s.channels) g ∙ colours_two s.channels p q ∙ (λ i. averaged (hp i ∷ hq i ∷ [])))

  pub two_rows : {z : Pixel} (p q a b : Pixel) → z ≡ averaged (p ∷ q ∷ a ∷ b ∷ []) → colours_of s.channels p ≡ t x → colours_of s.channels q ≡ t (x + 1) → colours_of s.channels a ≡ u x → colours_of s.channels b ≡ u (x + 1)
      → colours_of s.channels z ≡ pair_mean s.subsampling width true t u (x / 2)
  two_rows p q a b g hp hq ha hb =
      found s w width true t u (x / 2) (left_pair s.subsampling x e even) (wide_pair s.subsampling width x e h)
      (ap (colours_of s.channels) g ∙ colours_four s.channels p q a b ∙ (λ i. averaged (hp i ∷ hq i ∷ ha i ∷ hb i ∷ [])))
