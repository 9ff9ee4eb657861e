-- What a turn of the frame loop adds to both planes, for any picture that the row parts show. Assumes nothing.
use mathlib.Core.Path.{◌≡◌, refl, sym, ap, ◌∙◌, subst, subst⁻¹}
use mathlib.Core.Bool.{Bool, true, false, true≢false}
use mathlib.Core.List.{List}
use Prim.Native.Nat.{ℕ, ◌+◌, ◌*◌, ◌≤◌, ◌<◌}
use native.Mathlib.Omega.{arith}
use lib.ListN.{length}
use Rattle.rules.specs.declared.Settings.{Settings}
use Rattle.rules.specs.declared.Weights.{Weights}
use Rattle.rules.specs.declared.Frame.{Frame}
use Rattle.rules.specs.declared.Pixel.{Pixel}
use Rattle.rules.specs.declared.YuvSourceChannels.{YuvSourceChannels}
use Rattle.rules.specs.declared.YuvChromaSubsampling.{YuvChromaSubsampling}
use Rattle.rules.specs.declared.YuvChromaSubsampling.TheVariants.{Yuv420, Yuv422, Yuv444}
use Rattle.rules.specs.Ranges.{y_bias}
use Rattle.rules.specs.Weights.{luma_row}
use Rattle.rules.specs.Channels.{Picture}
use Rattle.rules.specs.Blocks.{chroma_width, chroma_height}
use Rattle.rules.specs.Planes.{tabulate}
use Rattle.rules.specs.Convert.{word_of, luma_word, chroma_word}
use Rattle.tolerance_laws.proofs.Samples.{luma_word_is}
use Rattle.plane_laws.proofs.Tables.{tabulate_ext}
use Rattle.plane_laws.specs.Parts.{put}
use Rattle.blocks.specs.Tiles.{paired, top_of, two_at, second_of}
use Rattle.blocks.proofs.Tiles.{top_below, two_below}
use Rattle.frames.specs.Rows.{row_pixel, Shows, Rows, Grows}
use Rattle.last_column.specs.Words.{luma_element, chroma_element}
use Rattle.frames.specs.Tests.{Ready}
use Rattle.frames.proofs.Grown.{row_put}
use Rattle.lent_rows.specs.Turns.{rows_over, Turn}
use Rattle.last_column.proofs.Tiles.{element_is, element_ext}
use Rattle.lent_rows.proofs.Over.{over_here, over_one, over_two}

-- ---- where the luma rows of a turn lie
module _ {s : Settings} {f : Frame} {row top : ℕ} where
  pub top_in : {two : Bool} → Turn s f row top two → top < f.height
  top_in t = subst⁻¹ (λ (n : ℕ). n < f.height) t.first (top_below s.subsampling f.height row t.within)

  pub next_in : {two : Bool} → Turn s f row top two → two ≡ true → top + 1 < f.height
  next_in t e = two_below s.subsampling f.height top (sym t.second ∙ e)

  -- only 4:2:0 has two rows, and its pairs have two columns
  pub two_paired : {two : Bool} → Turn s f row top two → two ≡ true → paired s.subsampling ≡ true
  two_paired t e = by s.subsampling (sym t.second ∙ e)
    where
      by : (o : YuvChromaSubsampling) → two_at o f.height top ≡ true → paired o ≡ true
      by Yuv420 h = refl
      by Yuv422 h = refl
      by Yuv444 h = absurd (true≢false (sym h))

  -- the chroma row lies in its plane, by a chroma width that was worked out
  pub chroma_in : {source : List ℕ} {luma chroma m : ℕ} {two : Bool} → Ready s f source luma chroma → Turn s f row top two → m ≡ chroma_width s.subsampling f.width → row * f.chroma_stride + m ≤ chroma
  chroma_in {chroma = chroma} ready t e = subst⁻¹ (λ (n : ℕ). row * f.chroma_stride + n ≤ chroma) e (ready.laid.chroma.fits row t.within)

  from_top : {two : Bool} → Turn s f row top two → top ≡ rows_over s.subsampling f.height row
  from_top t = t.first ∙ sym (over_here f.height row s.subsampling t.within)

  second_at : {two : Bool} → Turn s f row top two → two ≡ two_at s.subsampling f.height (top_of s.subsampling row)
  second_at t = t.second ∙ ap (two_at s.subsampling f.height) t.first

-- planes as long as those of a frame that is ready are ready too
pub ready_as : {s : Settings} {f : Frame} {source : List ℕ} {luma luma' chroma chroma' : ℕ} → luma' ≡ luma → chroma' ≡ chroma → Ready s f source luma chroma → Ready s f source luma' chroma'
ready_as {s} {f} {source} {luma' = luma'} {chroma} p q h =
    subst⁻¹ (λ (n : ℕ). Ready s f source luma' n) q (subst⁻¹ (λ (n : ℕ). Ready s f source n chroma) p h)

-- a plane that grew by them grew as far as the chroma rows reach
grown : {stride wide : ℕ} {g : ℕ → ℕ → ℕ} {before after : List ℕ} {from from' to to' : ℕ} → from ≡ from' → to ≡ to' → Grows stride wide from to g before after → Grows stride wide from' to' g before after
grown {stride} {wide} {g} {before} {after} {from'} {to} p q h = subst (λ (n : ℕ). Grows stride wide from' n g before after) q (subst (λ (n : ℕ). Grows stride wide n to g before after) p h)

-- a plane that grew twice
grows_on : {stride wide from mid mid' to : ℕ} {g : ℕ → ℕ → ℕ} {x y z : List ℕ} → mid ≡ mid' → Grows stride wide from mid g x y → Grows stride wide mid' to g y z → Grows stride wide from to g x z
grows_on {stride} {wide} {from} {mid} {mid'} {to} {g} {x} {y} {z} e a b =
    let c : Grows stride wide mid to g y z = subst⁻¹ (λ (n : ℕ). Grows stride wide n to g y z) e b in
    record { grows = λ old p. c.grows old (a.grows old p) }

module _ {s : Settings} {f : Frame} {row top stride wide : ℕ} {two : Bool} {g : ℕ → ℕ → ℕ} {before after : List ℕ} (t : Turn s f row top two) where
  pub grown_one : two ≡ false → Grows stride wide top (top + 1) g before after
      → Grows stride wide (rows_over s.subsampling f.height row) (rows_over s.subsampling f.height (row + 1)) g before after
  grown_one e = grown (from_top t) (ap (λ (n : ℕ). n + 1) t.first ∙ over_one f.height row s.subsampling t.within (sym e ∙ second_at t))

  pub grown_two : {mid : List ℕ} → two ≡ true → Grows stride wide top (top + 1) g before mid → Grows stride wide (top + 1) (top + 1 + 1) g mid after
      → Grows stride wide (rows_over s.subsampling f.height row) (rows_over s.subsampling f.height (row + 1)) g before after
  grown_two e a b =
      let n : top + 1 + 1 ≡ top + 2 = omega arith in
      grown (from_top t) (n ∙ ap (λ (k : ℕ). k + 2) t.first ∙ over_two f.height row s.subsampling (sym e ∙ second_at t)) (grows_on refl a b)

-- the second source row of a turn is the next one where there are two
pub second_shown : {c : YuvSourceChannels} {part : List ℕ} {px : Picture} {row width : ℕ} (two : Bool) (top : ℕ) → row ≡ second_of two top → two ≡ true → Shows c part px row width → Shows c part px (top + 1) width
second_shown {c} {part} {px} {width = width} two top e h s = subst (λ (n : ℕ). Shows c part px n width) (e ∙ ap (λ (b : Bool). second_of b top) h) s

-- ---- what a turn adds
module _ (s : Settings) (w : Weights) (f : Frame) (px : Picture) where
  word_of_lem : Pixel → ℕ
  word_of_lem p = word_of s (y_bias s.range s.depth) (luma_row w) p

  -- one luma row
  pub luma_one : (row k : ℕ) (part now new : List ℕ) → Rows (length now) f.luma_stride f.width f.height → row < f.height
      → Shows s.channels part px row f.width → k ≡ f.width
      → new ≡ tabulate f.width (luma_element s w (row_pixel s.channels part))
      → Grows f.luma_stride f.width row (row + 1) (luma_word s w px) now (put now (row * f.luma_stride) new k)
  unfolding word_of_lem
  luma_one row k part now new r h shows q e =
      row_put f.luma_stride f.width f.height row k (luma_word s w px) now new r h q
      (e ∙ tabulate_ext f.width _ _ (λ x b. ap word_of_lem (shows.same x b) ∙ sym (luma_word_is s w (px row x))))

  -- one chroma row
  pub chroma_one : (row top k : ℕ) (two : Bool) (upper lower now new : List ℕ) → Rows (length now) f.chroma_stride (chroma_width s.subsampling f.width) (chroma_height s.subsampling f.height)
      → Turn s f row top two → Shows s.channels upper px top f.width → (two ≡ true → Shows s.channels lower px (top + 1) f.width) → k ≡ chroma_width s.subsampling f.width
      → new ≡ tabulate (chroma_width s.subsampling f.width) (chroma_element s w f.width two (row_pixel s.channels upper) (row_pixel s.channels lower))
      → Grows f.chroma_stride (chroma_width s.subsampling f.width) row (row + 1) (chroma_word s w f.width f.height px) now (put now (row * f.chroma_stride) new k)
  chroma_one row top k two upper lower now new r turn shownUpper shownLower q e =
      row_put f.chroma_stride (chroma_width s.subsampling f.width) (chroma_height s.subsampling f.height) row k (chroma_word s w f.width f.height px) now new r turn.within q
      (e ∙ tabulate_ext (chroma_width s.subsampling f.width) _ _ same)
    where
      same : (i : ℕ) → i < chroma_width s.subsampling f.width → chroma_element s w f.width two (row_pixel s.channels upper) (row_pixel s.channels lower) i ≡ chroma_word s w f.width f.height px row i
      same i h =
          element_ext s w f.width two _ _ (px top) (px (top + 1)) shownUpper.same (λ g. (shownLower g).same) i h
          ∙ (λ z. chroma_element s w f.width (turn.second z) (px top) (px (top + 1)) i)
          ∙ (λ z. chroma_element s w f.width (two_at s.subsampling f.height (turn.first z)) (px (turn.first z)) (px (turn.first z + 1)) i)
          ∙ sym (element_is s w f.width f.height px row i)
