-- THE THEOREM that it does not matter where a window stands: a source that shows the same pixels gives the same outcome. Assumes nothing.
use mathlib.Core.Path.{◌≡◌, refl, sym, ap, ◌∙◌}
use mathlib.Core.List.{List, [], ◌∷◌}
use Prim.Native.Nat.{ℕ}
use lib.ListN.{length}
use Rattle.rules.specs.declared.Settings.{Settings}
use Rattle.rules.specs.declared.Frame.{Frame}
use Rattle.rules.specs.declared.Matrix.{Matrix}
use Rattle.rules.specs.declared.Matrix.TheVariants.{Tabled, Own}
use Rattle.rules.specs.Ranges.{most}
use Rattle.rules.specs.Matrices.{matrix_of}
use Rattle.rules.specs.Weights.{weights_of}
use Rattle.rules.specs.Refusals.{Line, earlier, first}
use Rattle.rules.specs.Answers.{given, answer}
use Rattle.rules.specs.Settle.{settle_lines}
use Rattle.rules.specs.Frames.{shown, too_large, size_line, window_line, stride_line, length_line, place_line, too_large_line, frame_lines}
use Rattle.rules.specs.Convert.{kept, convert, luma_after, chroma_after}
use Rattle.rules.specs.Check.{custom_line, judged_by, check}
use Rattle.rule_laws.proofs.Refusals.{after_same}
use Rattle.frames.specs.Sources.{SamePicture}
use Rattle.frames.proofs.Sources.{same_scan}
use Rattle.rgb_to_nv_p16.proofs.Outcomes.{same_luma, same_chroma}
use Rattle.check_laws.proofs.Colours.{same_judged}
use Rattle.ring_theorem.proofs.Rings.{last_line}
use Rattle.window_theorem.specs.Windows.{elsewhere, LaidOut, SameOutcome}

-- of the frame's lines refusal 10's alone is left
last_left : (s : Settings) (f : Frame) (source luma chroma : List ℕ) → LaidOut s f source luma chroma → first (frame_lines s f source (length luma) (length chroma)) ≡ too_large_line s f source
last_left s f source luma chroma h =
    last_line (size_line f) (window_line f) (stride_line s f) (length_line s f 1 (length source) (length luma) (length chroma)) (too_large_line s f source)
    ∙ ap (λ (l : Line). earlier l (too_large_line s f source)) h

module _ (s : Settings) (f : Frame) (stride column row rows : ℕ) (a b luma chroma : List ℕ) where
  abbrev g : Frame
  g = elsewhere f stride column row rows

  -- the judgement of a picture asks nothing of where it stands
  judged_there : (m : Matrix) → judged_by m s f (shown s g b) luma chroma ≡ judged_by m s g (shown s g b) luma chroma
  judged_there (Tabled k) = refl
  judged_there (Own p) = refl

  module _ (p : SamePicture f.width f.height (shown s f a) (shown s g b)) (x : LaidOut s f a luma chroma) (y : LaidOut s g b luma chroma) where
    lines : first (frame_lines s f a (length luma) (length chroma)) ≡ first (frame_lines s g b (length luma) (length chroma))
    unfolding too_large
    lines = last_left s f a luma chroma x ∙ ap place_line (same_scan f _ _ p (most s.depth)) ∙ sym (last_left s g b luma chroma y)

    -- THE THEOREM
    pub same_outcome : SameOutcome s f g a b luma chroma
    unfolding convert luma_after chroma_after check
    same_outcome =
        let table = after_same (settle_lines s) _ _ lines in
        let checks = after_same (settle_lines s) _ _ (after_same (custom_line s ∷ []) _ _ lines) in
        let judged = same_judged s f _ _ p luma chroma (matrix_of s.matrix) ∙ judged_there (matrix_of s.matrix) in
        record {
          answer = λ i. answer (table i) (given []);
          luma_left = λ i. kept (table i) (same_luma f _ _ p s (weights_of s) luma i) luma;
          chroma_left = λ i. kept (table i) (same_chroma f _ _ p s (weights_of s) chroma i) chroma;
          checked = λ i. answer (checks i) (judged i);
        }
