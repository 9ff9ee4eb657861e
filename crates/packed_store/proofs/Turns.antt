-- One turn of a loop over a row writes two columns: where they lie, what they add to the rows written so far, and that the loop ends with the last two. Assumes nothing.
use mathlib.Core.Path.{◌≡◌, refl, sym, ap, ◌∙◌, subst}
use mathlib.Core.Logic.{⊎_elim}
use mathlib.Core.Bool.{Bool, true, true≢false}
use mathlib.Core.List.{List}
use Prim.Native.Nat.{ℕ, ◌+◌, ◌*◌, ◌/◌, ◌%◌, ◌≤◌, ◌<◌}
use native.Mathlib.Nat.{le_of_mul-le-mul_right, mul-le-mul_right, lt_irrefl}
use native.Mathlib.Omega.{arith}
use lib.ListN.{length, set}
use Rattle.rules.specs.declared.Settings.{Settings}
use Rattle.rules.specs.declared.Weights.{Weights}
use Rattle.rules.specs.declared.Pixel.{Pixel}
use Rattle.rules.specs.declared.YuvSourceChannels.{YuvSourceChannels}
use Rattle.rules.specs.declared.YuvSourceChannels.TheVariants.{Rgb, Rgba, Bgra, Bgr}
use Rattle.rules.specs.declared.YuvChromaSubsampling.{YuvChromaSubsampling}
use Rattle.rules.specs.declared.YuvChromaSubsampling.TheVariants.{Yuv420, Yuv422, Yuv444}
use Rattle.rules.specs.Ranges.{most}
use Rattle.rules.specs.Channels.{count, pixel_at}
use Rattle.rules.specs.Blocks.{chroma_width}
use Rattle.rule_laws.specs.Codes.{Low}
use Rattle.plane_laws.specs.Rows.{Begun}
use Rattle.plane_laws.proofs.Tests.{lt_or_le}
use Rattle.plane_laws.proofs.Tables.{begun_two, begun_at}
use Rattle.blocks.specs.Tiles.{paired}
use Rattle.joined_codes.specs.Packed.{colours_of, packed_luma, packed_chroma}
use Rattle.frames.specs.Rows.{row_pixel, Convertible}
use Rattle.last_column.specs.Words.{pair_mean}
use Rattle.last_column.specs.Columns.{even_columns, elements_over}
use Rattle.packed_store.specs.Packed.{packed_luma_at, packed_chroma_at}
use Rattle.packed_store.specs.Pairs.{PairsWritten}
use Rattle.packed_store.proofs.Readings.{at_is, at_low, at_room, count_some, luma_at, chroma_at}

-- ---- where the two columns lie

count_few : (c : YuvSourceChannels) → count c ≤ 4
count_few Rgb = omega arith
count_few Rgba = omega arith
count_few Bgra = omega arith
count_few Bgr = omega arith

row_short : (c : YuvSourceChannels) (width : ℕ) → width ≤ 16384 → width * count c ≤ 65536
row_short Rgb width h = omega arith
row_short Rgba width h = omega arith
row_short Bgra width h = omega arith
row_short Bgr width h = omega arith

-- the columns x and x + 1 of a row of `width`, whose samples start at index i, with n samples for a pixel
pub record TwoColumns (width n x i : ℕ) : Type 0 where
  pub inside : x + 2 ≤ width
  pub short : i + 2 * n ≤ 65536
  pub second : i + n ≡ (x + 1) * n

-- two pixels that were read from a row part: no sample exceeds m, and their colours are those of columns x and x + 1
pub record TwoPixels (s : Settings) (part : List ℕ) (x : ℕ) (p q : Pixel) : Type 0 where
  pub first_low_lem : Low (most s.depth) p
  pub second_low_lem : Low (most s.depth) q
  pub first_is : colours_of s.channels p ≡ row_pixel s.channels part x
  pub second_is : colours_of s.channels q ≡ row_pixel s.channels part (x + 1)

module _ (s : Settings) {width : ℕ} {part : List ℕ} (h : Convertible s width part) {n : ℕ} (en : n ≡ count s.channels) where
  -- a pixel has three or four samples, and a row at most 65,536
  pub least : 3 ≤ n
  least = omega (arith, en, count_some s.channels)

  pub small : n ≤ 4
  small = omega (arith, en, count_few s.channels)

  pub part_short : width ≤ 16384 → length part ≤ 65536
  part_short l = omega (arith, h.long, row_short s.channels width l)

  long_by : length part ≡ width * n
  long_by = h.long ∙ sym (ap (λ (k : ℕ). width * k) en)

  module _ (x i : ℕ) (ei : i ≡ x * n) where
    -- in the loop that counts pairs
    pub columns_at : width ≤ 16384 → x + 2 ≤ width → TwoColumns width n x i
    columns_at narrow b =
        let l : (x + 2) * n ≤ width * n = mul-le-mul_right n b in
        record { inside = b; short = omega (arith, ei, l, long_by, part_short narrow); second = omega (arith, ei) }

    -- in the loops that test the part's length
    pub columns : width ≤ 16384 → i + 2 * n ≤ length part → TwoColumns width n x i
    columns narrow l =
        let g : (x + 2) * n ≤ width * n = omega (arith, ei, long_by, l) in
        columns_at narrow (le_of_mul-le-mul_right g (omega (arith, least)))

    pub first_room : TwoColumns width n x i → i + 3 ≤ length part
    first_room c = at_room s h en x i ei (omega (arith, c.inside))

    pub second_room : TwoColumns width n x i → i + n + 3 ≤ length part
    second_room c = at_room s h en (x + 1) (i + n) c.second (omega (arith, c.inside))

    pub pixels : {p q : Pixel} → TwoColumns width n x i → p ≡ pixel_at Rgb part i → q ≡ pixel_at Rgb part (i + n) → TwoPixels s part x p q
    pixels c ep eq =
        record {
          first_low_lem = at_low s h en x i ei ep (omega (arith, c.inside));
          second_low_lem = at_low s h en (x + 1) (i + n) c.second eq (omega (arith, c.inside));
          first_is = at_is s h en x i ei ep;
          second_is = at_is s h en (x + 1) (i + n) c.second eq;
        }

    -- the loop ends where no two columns are left
    pub ended : x % 2 ≡ 0 → i ≤ length part → length part < i + 2 * n → x ≡ even_columns width
    ended even l past =
        let inside : x * n ≤ width * n = omega (arith, ei, long_by, l) in
        let here : x ≤ width = le_of_mul-le-mul_right inside (omega (arith, least)) in
        let near : width < x + 2 = ⊎_elim (λ (a : width < x + 2). a) (λ (b : x + 2 ≤ width). absurd (lt_irrefl (length part) (omega (arith, ei, long_by, past, mul-le-mul_right n b)))) (lt_or_le width (x + 2)) in
        omega (arith, even, here, near)

-- ---- what a turn adds

module _ (s : Settings) (w : Weights) where
  pub luma_turn : {part : List ℕ} {x : ℕ} {p q : Pixel} (old y : List ℕ) {z : List ℕ} → TwoPixels s part x p q → x + 2 ≤ length old
      → Begun x (packed_luma_at s w (row_pixel s.channels part)) old y
      → z ≡ set (set y x (packed_luma s w (colours_of s.channels p))) (x + 1) (packed_luma s w (colours_of s.channels q))
      → Begun (x + 2) (packed_luma_at s w (row_pixel s.channels part)) old z
  luma_turn {part} {x} old y g l b e =
      let t = row_pixel s.channels part in
      subst (Begun (x + 2) (packed_luma_at s w t) old) (sym e)
      (begun_two old y x _ _ (packed_luma_at s w t) b l (luma_at s w t x g.first_is) (luma_at s w t (x + 1) g.second_is))

  -- the pair at element k, by the mean of its block
  pub pair_turn : (p : Pixel) (width : ℕ) (two : Bool) (t u : ℕ → Pixel) (k pair : ℕ) (old y : List ℕ) {z : List ℕ} → k % 2 ≡ 0 → k / 2 ≡ pair → k + 2 ≤ length old
      → colours_of s.channels p ≡ pair_mean s.subsampling width two t u pair
      → Begun k (packed_chroma_at s w width two t u) old y
      → z ≡ set (set y k (packed_chroma s w 0 (colours_of s.channels p))) (k + 1) (packed_chroma s w 1 (colours_of s.channels p))
      → Begun (k + 2) (packed_chroma_at s w width two t u) old z
  pair_turn p width two t u k pair old y even ek l q b e =
      let next : (k + 1) / 2 ≡ pair = omega (arith, even, ek) in
      subst (Begun (k + 2) (packed_chroma_at s w width two t u) old) (sym e)
      (begun_two old y k _ _ (packed_chroma_at s w width two t u) b l
      (chroma_at s w width two t u 0 k (omega (arith, even)) ek q)
      (chroma_at s w width two t u 1 (k + 1) (omega (arith, even)) next q))

-- ---- chroma elements over columns

pub wide_enough : (o : YuvChromaSubsampling) (width : ℕ) → width ≤ chroma_width o width
wide_enough Yuv420 width = omega arith
wide_enough Yuv422 width = omega arith
wide_enough Yuv444 width = omega arith

pub elements_paired : (o : YuvChromaSubsampling) (x : ℕ) → paired o ≡ true → x ≡ elements_over o x
elements_paired Yuv420 x e = refl
elements_paired Yuv422 x e = refl
elements_paired Yuv444 x e = absurd (true≢false (sym e))

pub elements_single : (o : YuvChromaSubsampling) (x : ℕ) → o ≡ Yuv444 → 2 * x ≡ elements_over o x
elements_single o x e = sym (ap (λ (q : YuvChromaSubsampling). elements_over q x) e)

-- once the loop has passed all columns but an odd last one, both rows are written
module _ {o : YuvChromaSubsampling} {width x : ℕ} {f g : ℕ → ℕ} {luma luma' chroma chroma' : List ℕ} (e : x ≡ even_columns width) (l : Begun x f luma luma') where
  pub pairs_written : paired o ≡ true → Begun x g chroma chroma' → PairsWritten o width f g luma luma' chroma chroma'
  pairs_written p c = record { in_luma_lem = begun_at e l; in_chroma_lem = begun_at (elements_paired o x p ∙ ap (elements_over o) e) c }

  pub singles_written : o ≡ Yuv444 → Begun (2 * x) g chroma chroma' → PairsWritten o width f g luma luma' chroma chroma'
  singles_written p c = record { in_luma_lem = begun_at e l; in_chroma_lem = begun_at (elements_single o x p ∙ ap (elements_over o) e) c }
