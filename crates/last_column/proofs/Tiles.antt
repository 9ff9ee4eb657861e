-- A chroma row from rows of pixels is the chroma row of the rules. Assumes nothing.
use mathlib.Core.Path.{◌≡◌, sym, ap, ◌∙◌}
use mathlib.Core.Bool.{Bool, true, false}
use mathlib.Core.List.{List, [], ◌∷◌}
use Prim.Native.Nat.{ℕ, ◌+◌, ◌/◌, ◌<◌}
use Rattle.rules.specs.declared.Settings.{Settings}
use Rattle.rules.specs.declared.Weights.{Weights}
use Rattle.rules.specs.declared.Pixel.{Pixel}
use Rattle.rules.specs.Ranges.{uv_bias}
use Rattle.rules.specs.Channels.{Picture, is_u}
use Rattle.rules.specs.Blocks.{averaged, chroma_width}
use Rattle.rules.specs.Convert.{word_of, chroma_word}
use Rattle.tolerance_laws.specs.Chroma.{chroma_row}
use Rattle.tolerance_laws.proofs.Means.{averaged_one}
use Rattle.tolerance_laws.proofs.Samples.{chroma_word_is}
use Rattle.blocks.specs.Tiles.{left_of, wide_at, top_of, two_at, tiles}
use Rattle.blocks.proofs.Tiles.{block_tiles, left_below, wide_below, tiles_same}
use Rattle.last_column.specs.Words.{pair_mean, chroma_element}

-- an element from the source rows of its block is the word of the rules
pub element_is : (s : Settings) (w : Weights) (width height : ℕ) (px : Picture) (row k : ℕ)
    → let top = top_of s.subsampling row in
    chroma_word s w width height px row k ≡ chroma_element s w width (two_at s.subsampling height top) (px top) (px (top + 1)) k
unfolding chroma_element
element_is s w width height px row k =
    chroma_word_is s w (is_u s.order k) _
    ∙ ap (λ (b : List Pixel). word_of s (uv_bias s.depth) (chroma_row (is_u s.order k) w) (averaged b)) (block_tiles s.subsampling width height px row (k / 2))

-- ---- a block of one column, as the code makes its mean

module _ (a b : Bool) (t u : ℕ → Pixel) (x : ℕ) where
  pub down : {z p v : Pixel} → a ≡ false → b ≡ true → z ≡ averaged (p ∷ v ∷ []) → p ≡ t x → v ≡ u x → z ≡ averaged (tiles a b t u x)
  down e f g hp hv = g ∙ (λ i. averaged (hp i ∷ hv i ∷ [])) ∙ sym (λ i. averaged (tiles (e i) (f i) t u x))

  pub alone : {p : Pixel} → a ≡ false → b ≡ false → p ≡ t x → p ≡ averaged (tiles a b t u x)
  alone e f hp = hp ∙ sym (averaged_one (t x)) ∙ sym (λ i. averaged (tiles (e i) (f i) t u x))

-- ---- rows of pixels that agree

-- they give the same elements; the second row counts only where there are two
pub element_ext : (s : Settings) (w : Weights) (width : ℕ) (two : Bool) (t u t' u' : ℕ → Pixel) → ((x : ℕ) → x < width → t x ≡ t' x) → (two ≡ true → (x : ℕ) → x < width → u x ≡ u' x)
    → (k : ℕ) → k < chroma_width s.subsampling width → chroma_element s w width two t u k ≡ chroma_element s w width two t' u' k
unfolding chroma_element
element_ext s w width two t u t' u' ht hu k h =
    let x = left_of s.subsampling (k / 2) in
    let l = left_below s.subsampling width k h in
    let next = wide_below s.subsampling width x in
    ap (λ (b : List Pixel). word_of s (uv_bias s.depth) (chroma_row (is_u s.order k) w) (averaged b))
    (tiles_same (wide_at s.subsampling width x) two t t' u u' x (ht x l) (λ e. ht (x + 1) (next e)) (λ g. hu g x l) (λ g e. hu g (x + 1) (next e)))

-- ---- the elements of a pair, by the mean of its block

module _ (s : Settings) (w : Weights) (width : ℕ) (two : Bool) (t u : ℕ → Pixel) where
  -- the mean, by the block's first column and whether it has a second
  pub found : {x : ℕ} {wide : Bool} {p : Pixel} (pair : ℕ) → x ≡ left_of s.subsampling pair → wide ≡ wide_at s.subsampling width x → p ≡ averaged (tiles wide two t u x) → p ≡ pair_mean s.subsampling width two t u pair
  found {x} pair ex eb ep = ep ∙ (λ i. averaged (tiles (eb i) two t u x)) ∙ (λ i. averaged (tiles (wide_at s.subsampling width (ex i)) two t u (ex i)))

  pub stored : {p : Pixel} {v pair : ℕ} (k : ℕ) → k / 2 ≡ pair → p ≡ pair_mean s.subsampling width two t u pair → v ≡ word_of s (uv_bias s.depth) (chroma_row (is_u s.order k) w) p → v ≡ chroma_element s w width two t u k
  unfolding chroma_element
  stored k e h g =
      g ∙ ap (word_of s (uv_bias s.depth) (chroma_row (is_u s.order k) w)) (h ∙ sym (ap (pair_mean s.subsampling width two t u) e))
