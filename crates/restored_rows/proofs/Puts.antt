-- Pixels put into a row one after the other. Assumes nothing.
use mathlib.Core.Path.{◌≡◌, refl, sym, ap, ◌∙◌}
use mathlib.Core.Bool.{Bool, true, false, cond, true≢false}
use mathlib.Core.List.{List}
use Prim.Native.Nat.{ℕ, ◌+◌, ◌*◌, ◌/◌, ◌%◌, ◌≤◌, ◌<◌}
use native.Mathlib.Omega.{arith}
use lib.ListN.{length, get_or, set, length-set}
use Rattle.rules.specs.declared.Settings.{Settings}
use Rattle.rules.specs.declared.Pixel.{Pixel}
use Rattle.rules.specs.declared.YuvSourceChannels.{YuvSourceChannels}
use Rattle.rules.specs.declared.YuvSourceChannels.TheVariants.{Rgb, Rgba, Bgra, Bgr}
use Rattle.rules.specs.Ranges.{most}
use Rattle.rules.specs.Channels.{count, has_alpha}
use Rattle.rules.specs.declared.YuvEndianness.{YuvEndianness}
use Rattle.rules.specs.Blocks.{pair_over}
use Rattle.rules.specs.Planes.{tabulate}
use Rattle.rules.specs.Storage.{exchanged}
use Rattle.rules.specs.ToRgb.{pixel_element}
use Rattle.plane_laws.specs.Rows.{Begun}
use Rattle.plane_laws.proofs.Tables.{begun_more, begun_at, is_tabulate, step_le}
use Rattle.restoring_weights.specs.declared.RestoringWeights.{RestoringWeights}
use Rattle.restored_pixels.specs.declared.ChromaTerms.{ChromaTerms}
use Rattle.restored_pixels.specs.Terms.{pixel_by}
use Rattle.restored_rows.specs.Columns.{terms_in, column_pixel, row_by, put_three, put_pixel, put_column, RowsFit}

pub three : (c : YuvSourceChannels) → 3 ≤ count c
three Rgb = omega arith
three Rgba = omega arith
three Bgra = omega arith
three Bgr = omega arith

pub few : (c : YuvSourceChannels) → count c ≤ 4
few Rgb = omega arith
few Rgba = omega arith
few Bgra = omega arith
few Bgr = omega arith

pub four : (c : YuvSourceChannels) → has_alpha c ≡ true → count c ≡ 4
four Rgb h = absurd (true≢false (sym h))
four Rgba h = refl
four Bgra h = refl
four Bgr h = absurd (true≢false (sym h))

pub length_put : (c : YuvSourceChannels) (m at : ℕ) (p : Pixel) (xs : List ℕ) → length (put_pixel c m xs at p) ≡ length xs
length_put c m at p xs = go (has_alpha c)
  where
    go : (b : Bool) → length (cond b (set (put_three xs at p) (at + 3) m) (put_three xs at p)) ≡ length xs
    go true = simp length-set refl
    go false = simp length-set refl

pub fit_as : {s : Settings} {width luma chroma a b : ℕ} → b ≡ a → RowsFit s width luma chroma a → RowsFit s width luma chroma b
fit_as e f = record { narrow = f.narrow; luma_long = f.luma_long; chroma_long = f.chroma_long; rgb_long = e ∙ f.rgb_long }

-- ---- what a pixel's elements are, at an index
pub record Elements (f : ℕ → ℕ) (n m at : ℕ) (p : Pixel) : Type 0 where
  pub first : p.red ≡ f at
  pub second : p.green ≡ f (at + 1)
  pub third : p.blue ≡ f (at + 2)
  pub alpha : n ≡ 4 → m ≡ f (at + 3)

begun_three : (f : ℕ → ℕ) (old y : List ℕ) (at : ℕ) (p : Pixel) → Begun at f old y → at + 3 ≤ length old → p.red ≡ f at → p.green ≡ f (at + 1) → p.blue ≡ f (at + 2)
    → Begun (at + 3) f old (put_three y at p)
begun_three f old y at p b l a g c =
    let one = begun_more old y at p.red f b (omega arith) a in
    let two = begun_more old _ (at + 1) p.green f one (omega arith) g in
    let i : at + 1 + 1 ≡ at + 2 = omega arith in
    let j : at + 2 + 1 ≡ at + 3 = omega arith in
    begun_at j (begun_more old _ (at + 2) p.blue f (begun_at i two) (omega arith) c)

pub begun_pixel : (c : YuvSourceChannels) (f : ℕ → ℕ) (old y : List ℕ) (m at : ℕ) (p : Pixel) → Begun at f old y → at + count c ≤ length old → Elements f (count c) m at p
    → Begun (at + count c) f old (put_pixel c m y at p)
begun_pixel Rgb f old y m at p b l e = begun_three f old y at p b l e.first e.second e.third
begun_pixel Bgr f old y m at p b l e = begun_three f old y at p b l e.first e.second e.third
begun_pixel Rgba f old y m at p b l e =
    let i : at + 3 + 1 ≡ at + 4 = omega arith in
    begun_at i (begun_more old _ (at + 3) m f (begun_three f old y at p b (omega arith) e.first e.second e.third) (omega arith) (e.alpha refl))
begun_pixel Bgra f old y m at p b l e =
    let i : at + 3 + 1 ≡ at + 4 = omega arith in
    begun_at i (begun_more old _ (at + 3) m f (begun_three f old y at p b (omega arith) e.first e.second e.third) (omega arith) (e.alpha refl))

-- ---- a column of the row
module _ (m : ℕ) (pixels : ℕ → Pixel) where
  element_of : ℕ → ℕ → ℕ
  element_of n i = pixel_element Rgb m (pixels (i / n)) (i % n)

  by_three : (x : ℕ) → Elements (element_of 3) 3 m (x * 3) (pixels x)
  unfolding element_of
  by_three x =
      let a : (x * 3) / 3 ≡ x = omega arith in
      let b : (x * 3) % 3 ≡ 0 = omega arith in
      let c : (x * 3 + 1) / 3 ≡ x = omega arith in
      let d : (x * 3 + 1) % 3 ≡ 1 = omega arith in
      let e : (x * 3 + 2) / 3 ≡ x = omega arith in
      let g : (x * 3 + 2) % 3 ≡ 2 = omega arith in
      record {
        first = sym (λ i. pixel_element Rgb m (pixels (a i)) (b i));
        second = sym (λ i. pixel_element Rgb m (pixels (c i)) (d i));
        third = sym (λ i. pixel_element Rgb m (pixels (e i)) (g i));
        alpha = λ h. absurd (omega (arith, h));
      }

  by_four : (x : ℕ) → Elements (element_of 4) 4 m (x * 4) (pixels x)
  unfolding element_of
  by_four x =
      let a : (x * 4) / 4 ≡ x = omega arith in
      let b : (x * 4) % 4 ≡ 0 = omega arith in
      let c : (x * 4 + 1) / 4 ≡ x = omega arith in
      let d : (x * 4 + 1) % 4 ≡ 1 = omega arith in
      let e : (x * 4 + 2) / 4 ≡ x = omega arith in
      let g : (x * 4 + 2) % 4 ≡ 2 = omega arith in
      let j : (x * 4 + 3) / 4 ≡ x = omega arith in
      let k : (x * 4 + 3) % 4 ≡ 3 = omega arith in
      record {
        first = sym (λ i. pixel_element Rgb m (pixels (a i)) (b i));
        second = sym (λ i. pixel_element Rgb m (pixels (c i)) (d i));
        third = sym (λ i. pixel_element Rgb m (pixels (e i)) (g i));
        alpha = λ h. sym (λ i. pixel_element Rgb m (pixels (j i)) (k i));
      }

  by_count : (c : YuvSourceChannels) (x : ℕ) → Elements (element_of (count c)) (count c) m (x * count c) (pixels x)
  by_count Rgb x = by_three x
  by_count Rgba x = by_four x
  by_count Bgra x = by_four x
  by_count Bgr x = by_three x

module _ (s : Settings) (r : RestoringWeights) (luma chroma : List ℕ) where
  abbrev n : ℕ
  n = count s.channels

  -- a column more
  pub begun_column : (old y : List ℕ) (x : ℕ) → Begun (x * n) (row_by s r luma chroma) old y → x * n + n ≤ length old
      → Begun ((x + 1) * n) (row_by s r luma chroma) old (put_column s y x (column_pixel s r luma chroma x))
  unfolding row_by element_of
  begun_column old y x b l =
      let e : x * n + n ≡ (x + 1) * n = omega arith in
      begun_at e (begun_pixel s.channels (row_by s r luma chroma) old y (most s.depth) (x * n) (column_pixel s r luma chroma x) b l (by_count (most s.depth) (column_pixel s r luma chroma) s.channels x))

  -- a column as the code puts it
  pub column_is : (e : YuvEndianness) (t : ChromaTerms) (y : List ℕ) (x : ℕ) → e ≡ s.endianness → t ≡ terms_in s r chroma (2 * pair_over s.subsampling x)
      → put_column s y x (pixel_by (most s.depth) r (exchanged e (get_or luma x 0)) t) ≡ put_column s y x (column_pixel s r luma chroma x)
  column_is e t y x h g = λ i. put_column s y x (pixel_by (most s.depth) r (exchanged (h i) (get_or luma x 0)) (g i))

  module _ (width : ℕ) {luma_long chroma_long rgb_long : ℕ} (fit : RowsFit s width luma_long chroma_long rgb_long) where
    pub column_room : (x : ℕ) → x < width → x * n + n ≤ rgb_long
    column_room x h = step_le x width n rgb_long h (omega (arith, fit.rgb_long))

    -- the row, once all columns are put
    pub whole_row : (old y : List ℕ) → length old ≡ rgb_long → Begun (width * n) (row_by s r luma chroma) old y → y ≡ tabulate (width * n) (row_by s r luma chroma)
    whole_row old y l b = is_tabulate y (width * n) (row_by s r luma chroma) (b.long ∙ l ∙ fit.rgb_long) b.done

    -- two columns more
    pub begun_two_columns : (old y : List ℕ) (x : ℕ) → length old ≡ rgb_long → x + 1 < width → Begun (x * n) (row_by s r luma chroma) old y
        → Begun ((x + 2) * n) (row_by s r luma chroma) old (put_column s (put_column s y x (column_pixel s r luma chroma x)) (x + 1) (column_pixel s r luma chroma (x + 1)))
    begun_two_columns old y x l h b =
        let e : x + 1 + 1 ≡ x + 2 = omega arith in
        let i = begun_column old y x b (omega (arith, column_room x (omega arith), l)) in
        begun_at (ap (λ (k : ℕ). k * n) e) (begun_column old _ (x + 1) i (omega (arith, column_room (x + 1) h, l)))
