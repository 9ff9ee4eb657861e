-- THE THEOREM of check that of the source the colour samples of the window alone have a say. Assumes nothing.
use mathlib.Core.Path.{◌≡◌, refl, sym, ap, ◌∙◌}
use mathlib.Core.Bool.{cond}
use mathlib.Core.List.{List, [], ◌∷◌, ◌++◌}
use Prim.Native.Nat.{ℕ, ◌+◌, ◌*◌}
use lib.ListN.{length, get_or}
use Rattle.rules.specs.declared.Settings.{Settings}
use Rattle.rules.specs.declared.Frame.{Frame}
use Rattle.rules.specs.declared.Pixel.{Pixel}
use Rattle.rules.specs.declared.Named.{Named}
use Rattle.rules.specs.declared.Matrix.{Matrix}
use Rattle.rules.specs.declared.Matrix.TheVariants.{Tabled, Own}
use Rattle.rules.specs.declared.Component.TheVariants.{Y, Cb, Cr}
use Rattle.rules.specs.Channels.{Picture, is_u}
use Rattle.rules.specs.Matrices.{matrix_of}
use Rattle.rules.specs.Blocks.{chroma_width, chroma_height}
use Rattle.rules.specs.Refusals.{Line, first}
use Rattle.rules.specs.Search.{first_failing}
use Rattle.rules.specs.Answers.{answer, checked_answer, Checked}
use Rattle.rules.specs.Settle.{settle_lines}
use Rattle.rules.specs.Check.{right, luma_test, chroma_test, custom_line, first_place, judged_by, check}
use Rattle.rule_laws.proofs.Answers.{one_checked}
use Rattle.plane_laws.proofs.Searches.{same_search}
use Rattle.frames.specs.Sources.{SameColours, SamePicture}
use Rattle.frames.proofs.Sources.{pictures, same_block, same_lines}
use Rattle.check_laws.specs.Colours.{SameAnswer}

-- pictures that agree on the visible pixels are judged the same
module _ (s : Settings) (f : Frame) (px px' : Picture) (h : SamePicture f.width f.height px px') (luma chroma : List ℕ) where
  same_luma : (k : Named) → first_failing (luma_test s k f px luma) f.width f.height ≡ first_failing (luma_test s k f px' luma) f.width f.height
  same_luma k =
      same_search (luma_test s k f px luma) (luma_test s k f px' luma) f.width f.height
      (λ row e b l. ap (λ (p : Pixel). right s k (record { component = Y; pixels = p ∷ [] }) (get_or luma (row * f.luma_stride + e) 0)) (h.same row e b l))

  same_chroma : (k : Named) → let wide = chroma_width s.subsampling f.width in let rows = chroma_height s.subsampling f.height in
      first_failing (chroma_test s k f px chroma) wide rows ≡ first_failing (chroma_test s k f px' chroma) wide rows
  same_chroma k =
      same_search (chroma_test s k f px chroma) (chroma_test s k f px' chroma) (chroma_width s.subsampling f.width) (chroma_height s.subsampling f.height)
      (λ row e b l.
      ap (λ (p : List Pixel). right s k (record { component = cond (is_u s.order e) Cb Cr; pixels = p }) (get_or chroma (row * f.chroma_stride + e) 0))
      (same_block f px px' h s.subsampling row e b l))

  pub same_judged : (m : Matrix) → judged_by m s f px luma chroma ≡ judged_by m s f px' luma chroma
  same_judged (Tabled k) = λ i. first_place (same_luma k i) (same_chroma k i)
  same_judged (Own p) = refl

-- THE THEOREM: sources that differ only in alpha, in padding and outside the window get the same answer
pub visible_colours_alone : (s : Settings) (f : Frame) (a b luma chroma : List ℕ) → SameAnswer s f a b luma chroma
unfolding check
visible_colours_alone s f a b luma chroma h =
    let lines = ap (λ (ls : List Line). first (settle_lines s ++ (custom_line s ∷ ls))) (same_lines s f a b (length luma) (length chroma) h) in
    let judgements = same_judged s f _ _ (pictures s.channels f a b h) luma chroma (matrix_of s.matrix) in
    λ i. answer (lines i) (judgements i)

-- so any two answers that are admitted for the two are equal
pub one_answer_for_both : (s : Settings) (f : Frame) (a b luma chroma : List ℕ) → SameColours s.channels f a b
    → (r q : Checked) → checked_answer r ≡ check s f a luma chroma → checked_answer q ≡ check s f b luma chroma → r ≡ q
one_answer_for_both s f a b luma chroma h r q x y = one_checked r q (x ∙ visible_colours_alone s f a b luma chroma h ∙ sym y)
