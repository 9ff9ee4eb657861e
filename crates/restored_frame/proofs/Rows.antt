-- A row that the code writes from row parts of both planes is a row of the restored picture. Assumes nothing.
use mathlib.Core.Path.{◌≡◌, refl, ap, ◌∙◌}
use mathlib.Core.List.{List}
use Prim.Native.Nat.{ℕ, ◌+◌, ◌*◌, ◌/◌, ◌%◌, ◌≤◌, ◌<◌}
use lib.IntN.{ℤ, ◌+ℤ◌, ◌-ℤ◌}
use Rattle.rules.specs.declared.Settings.{Settings}
use Rattle.rules.specs.declared.Frame.{Frame}
use Rattle.rules.specs.declared.Pixel.{Pixel}
use Rattle.rules.specs.declared.InverseWeights.{InverseWeights}
use Rattle.rules.specs.declared.YuvNVOrder.{YuvNVOrder}
use Rattle.rules.specs.declared.YuvSourceChannels.{YuvSourceChannels}
use Rattle.rules.specs.declared.YuvSourceChannels.TheVariants.{Rgb, Rgba, Bgra, Bgr}
use Rattle.rules.specs.Ranges.{most, y_bias, uv_bias}
use Rattle.rules.specs.Channels.{count, u_at, v_at}
use Rattle.rules.specs.Blocks.{pair_over, chroma_row_over, chroma_width}
use Rattle.rules.specs.Storage.{exchanged}
use Rattle.rules.specs.ToRgb.{term, channel_code, restored, code_at, chroma_code_at, codes_at, pixel_element}
use Rattle.rule_laws.specs.Usable.{Reach}
use Rattle.storage.proofs.PackingFactor.{unpacked_is}
use Rattle.frames.specs.Rows.{PlaneRow}
use Rattle.frames.proofs.Places.{column_below}
use Rattle.restoring_weights.specs.declared.ChromaSide.{ChromaSide}
use Rattle.restoring_weights.specs.declared.RestoringWeights.{RestoringWeights}
use Rattle.restoring_weights.specs.RestoringWeights.{cr_side, cb_side, first_side, third_side, factor_of, restoring_weights, SmallWeights}
use Rattle.restoring_weights.proofs.Restored.{outer_channel, green_channel}
use Rattle.restored_pixels.specs.Terms.{chroma_terms, pixel_by}
use Rattle.restored_rows.specs.Columns.{word_in, column_pixel, row_by}
use Rattle.restored_frame.specs.Restorable.{Readable, restored_row}
use Rattle.restored_frame.proofs.Places.{row_below, pair_below_lem}
use Rattle.restored_frame.proofs.Elements.{less_either, turned}

-- ---- one pixel, from three codes

module _ (s : Settings) (reach : Reach s) (w : InverseWeights) where
  abbrev luma_term : ℕ → ℤ
  luma_term y = term (y_bias s.range s.depth) y w.y_coef

  abbrev chroma_term : ℕ → ℤ → ℤ
  chroma_term c weight = term (uv_bias s.depth) c weight

  abbrev channel : ℤ → ℕ
  channel sum = channel_code s.precision (most s.depth) sum

  -- by the sides of its first and its third element
  abbrev sided : ChromaSide → ChromaSide → ℕ → ℕ → ℕ → Pixel
  sided one two y a b = record {
    red = channel (luma_term y +ℤ chroma_term a one.own);
    green = channel (luma_term y -ℤ chroma_term a one.green -ℤ chroma_term b two.green);
    blue = channel (luma_term y +ℤ chroma_term b two.own);
  }

  by_words : (y a b : ℕ) → let r = restoring_weights s w in
      pixel_by (most s.depth) r (y * factor_of s) (chroma_terms r (a * factor_of s) (b * factor_of s)) ≡ sided (first_side s.channels s.order w) (third_side s.channels s.order w) y a b
  by_words y a b =
      let one = first_side s.channels s.order w in
      let two = third_side s.channels s.order w in
      let p = outer_channel s reach w one (most s.depth) y a in
      let q = green_channel s reach w one two (most s.depth) y a b in
      let o = outer_channel s reach w two (most s.depth) y b in
      λ i. record { red = p i; green = q i; blue = o i }

  -- blue first
  blue_first_lem : (o : YuvNVOrder) (y : ℕ) (code : ℕ → ℕ) (j : ℕ) →
      pixel_element Rgb (most s.depth) (sided (cb_side o w) (cr_side o w) y (code (u_at o)) (code (v_at o))) j
      ≡ pixel_element Bgr (most s.depth) (restored s w (record { y = y; cb = code (u_at o); cr = code (v_at o) })) j
  unfolding restored
  blue_first_lem o y code j =
      turned (most s.depth) (sided (cb_side o w) (cr_side o w) y (code (u_at o)) (code (v_at o))) (restored s w (record { y = y; cb = code (u_at o); cr = code (v_at o) }))
      refl (ap channel (less_either (luma_term y) (chroma_term (code (u_at o)) w.g_coeff_2) (chroma_term (code (v_at o)) w.g_coeff_1))) refl j

  -- the codes that stand at the two sides' places in a pair
  in_layout : (c : YuvSourceChannels) (o : YuvNVOrder) (y : ℕ) (code : ℕ → ℕ) (j : ℕ) →
      pixel_element Rgb (most s.depth) (sided (first_side c o w) (third_side c o w) y (code (first_side c o w).at) (code (third_side c o w).at)) j
      ≡ pixel_element c (most s.depth) (restored s w (record { y = y; cb = code (u_at o); cr = code (v_at o) })) j
  unfolding restored
  in_layout Rgb o y code j = refl
  in_layout Rgba o y code j = refl
  in_layout Bgra o y code j = blue_first_lem o y code j
  in_layout Bgr o y code j = blue_first_lem o y code j

-- ---- a row
module _ (s : Settings) (reach : Reach s) (w : InverseWeights) (f : Frame) (luma chroma : List ℕ) (readable : Readable s f luma chroma) (small : SmallWeights (restoring_weights s w))
    (row : ℕ) (h : row < f.height) (y c : List ℕ) (py : PlaneRow f.luma_stride f.width luma row y)
    (pc : PlaneRow f.chroma_stride (chroma_width s.subsampling f.width) chroma (chroma_row_over s.subsampling row) c) where
  abbrev r : RestoringWeights
  r = restoring_weights s w

  luma_word_lem : (x : ℕ) → x < f.width → word_in s y x ≡ code_at s f.luma_stride luma row x * factor_of s
  luma_word_lem x l = ap (exchanged s.endianness) (py.holds x l) ∙ unpacked_is s.packing s.depth _ (readable.luma_formed.clean row x h l)

  chroma_word_lem : (x at : ℕ) → x < f.width → at ≤ 1 → word_in s c (2 * pair_over s.subsampling x + at) ≡ chroma_code_at s f chroma row x at * factor_of s
  chroma_word_lem x at l k =
      let e = pair_below_lem s.subsampling f.width x at l k in
      ap (exchanged s.endianness) (pc.holds _ e)
      ∙ unpacked_is s.packing s.depth _ (readable.chroma_formed.clean (chroma_row_over s.subsampling row) _ (row_below s.subsampling f.height row h) e)

  column_is : (x j : ℕ) → x < f.width → pixel_element Rgb (most s.depth) (column_pixel s r y c x) j ≡ pixel_element s.channels (most s.depth) (restored s w (codes_at s f luma chroma row x)) j
  column_is x j l =
      let first = chroma_word_lem x r.first.at l small.first.at in
      let third = chroma_word_lem x r.third.at l small.third.at in
      ap (λ (p : Pixel). pixel_element Rgb (most s.depth) p j)
      ((λ i. pixel_by (most s.depth) r (luma_word_lem x l i) (chroma_terms r (first i) (third i)))
      ∙ by_words s reach w (code_at s f.luma_stride luma row x) (chroma_code_at s f chroma row x r.first.at) (chroma_code_at s f chroma row x r.third.at))
      ∙ in_layout s reach w s.channels s.order (code_at s f.luma_stride luma row x) (chroma_code_at s f chroma row x) j

  pub row_is : (i : ℕ) → i < f.width * count s.channels → row_by s r y c i ≡ restored_row s w f luma chroma row i
  unfolding row_by
  row_is i l = column_is (i / count s.channels) (i % count s.channels) (column_below s.channels f.width i l)
