-- THE THEOREMS of refusal 10's place: it is the first visible colour sample that exceeds m, and convert and check give the same one for
-- the same settings, frame and source, whatever the planes hold. Assumes nothing.
use Rattle.std.proofs.Common.{None, Some}
use mathlib.Core.Path.{◌≡◌, refl, sym, ap, ◌∙◌}
use mathlib.Core.List.{List, [], ◌++◌}
use mathlib.Core.Bool.{true}
use Prim.Native.Nat.{ℕ, ◌+◌, ◌*◌, ◌/◌, ◌%◌, ◌≤◌, ◌<◌}
use native.Mathlib.Omega.{arith}
use lib.Dec.{leb}
use lib.IntN.{ℤ}
use lib.ListN.{length}
use borrow.Author.Tests.{leb-true, leb-false}
use Rattle.rules.specs.declared.Settings.{Settings}
use Rattle.rules.specs.declared.Frame.{Frame}
use Rattle.rules.specs.Ranges.{most}
use Rattle.rules.specs.Channels.{Picture}
use Rattle.rules.specs.Matrices.{matrix_of}
use Rattle.rules.specs.Weights.{weights_of}
use Rattle.rules.specs.Refusals.{outside, Line, refuses, first}
use Rattle.rules.specs.Search.{FirstWrong, first_failing, Search}
use Rattle.rules.specs.Answers.{refused}
use Rattle.rules.specs.Settle.{pair_off, weight_off, some_code_off, settle_lines}
use Rattle.rules.specs.Frames.{size_off, window_off, stride_off, length_off, shown, channel_of, low_test, too_large, place_line, too_large_line, frame_lines}
use Rattle.rules.specs.Convert.{verdict, convert}
use Rattle.rules.specs.Check.{is_custom, check}
use Rattle.rule_laws.proofs.Refusals.{reached, alone}
use Rattle.rule_laws.proofs.Answers.{declined}
use Rattle.plane_laws.proofs.Searches.{found_wrong}
use Rattle.frames.proofs.Tests.{sample_of_lem}
use Rattle.check_laws.proofs.Unique.{refused_iff}
use Rattle.place_theorem.specs.FirstTooLarge.{FirstTooLarge, Carries}

-- ---- 10 comes from its own line, the last of the frame's
module _ (s : Settings) (v : List ℤ) where
  after_settle : (ls : List Line) → first (settle_lines s ++ ls) ≡ refuses 10 v → first ls ≡ refuses 10 v
  after_settle ls e =
      let l1 = reached 1 (outside 10 16 s.depth) _ 10 v refl e in
      let l2 = reached 2 (outside 1 13 s.precision) _ 10 v refl l1.1 in
      let l3 = reached 3 (pair_off (matrix_of s.matrix)) _ 10 v refl l2.1 in
      let l4 = reached 4 (weight_off s (matrix_of s.matrix) (weights_of s)) _ 10 v refl l3.1 in
      (reached 5 (some_code_off s (weights_of s)) _ 10 v refl l4.1).1

  in_frame : (f : Frame) (source : List ℕ) (luma chroma : ℕ) → first (frame_lines s f source luma chroma) ≡ refuses 10 v → too_large_line s f source ≡ refuses 10 v
  in_frame f source luma chroma e =
      let size = reached 7 (size_off f) _ 10 v refl e in
      let corner = reached 12 (window_off f) _ 10 v refl size.1 in
      let stride = reached 8 (stride_off s f) _ 10 v refl corner.1 in
      let long = reached 9 (length_off s f 1 (length source) luma chroma) _ 10 v refl stride.1 in
      sym (alone (too_large_line s f source)) ∙ long.1

  module _ (f : Frame) (source luma chroma : List ℕ) where
    by_convert : convert s f source luma chroma ≡ refused 10 v → too_large_line s f source ≡ refuses 10 v
    unfolding convert
    by_convert e = in_frame f source _ _ (after_settle _ (declined (verdict s f source luma chroma) [] 10 v (sym e)))

    by_check : check s f source luma chroma ≡ refused 10 v → too_large_line s f source ≡ refuses 10 v
    by_check e = in_frame f source _ _ (reached 6 (is_custom (matrix_of s.matrix)) _ 10 v refl (after_settle _ ((refused_iff s f source luma chroma 10 v).0 e))).1

-- ---- what that line names
module _ (m : ℕ) (f : Frame) (px : Picture) where
  -- a colour sample that passes, by its pixel and channel
  low : (row x c : ℕ) → c < 3 → low_test m px row (3 * x + c) ≡ true → channel_of c (px row x) ≤ m
  low row x c b h = leb-true (channel_of c (px row x)) m (sym (ap (λ (n : ℕ). leb n m) (sample_of_lem px row x c b)) ∙ h)

  named : (row i : ℕ) → FirstWrong (low_test m px) (3 * f.width) f.height row i → FirstTooLarge m f px row (i / 3) (i % 3)
  named row i w = record {
    below = w.below;
    inside = omega (arith, w.inside);
    colour = omega arith;
    exceeds = leb-false (channel_of (i % 3) (px row (i / 3))) m w.wrong;
    above = λ r x c above wide colour. low r x c colour (w.above.clean r (3 * x + c) above (omega (arith, wide, colour)));
    left = λ x c near colour. low row x c colour (w.before (3 * x + c) (omega (arith, near, colour)));
    before = λ c earlier. low row (i / 3) c (omega (arith, earlier)) (w.before (3 * (i / 3) + c) (omega (arith, earlier)));
  }

  carries : (v : List ℤ) → place_line (too_large m f px) ≡ refuses 10 v → Carries m f px v
  unfolding too_large
  carries v e = by (first_failing (low_test m px) (3 * f.width) f.height) refl e
    where
      by : (x : Search) → first_failing (low_test m px) (3 * f.width) f.height ≡ x → place_line x ≡ refuses 10 v → Carries m f px v
      by None h q = absurd (let z : ◌≡◌ {A = ℕ} 0 1 = cc in omega arith)
      by (Some p) h q =
          record { row = p.row; pixel = p.element / 3; channel = p.element % 3; carried = cc; first = named p.row p.element (found_wrong (low_test m px) (3 * f.width) f.height p.row p.element h) }

module _ (s : Settings) (f : Frame) (source luma chroma : List ℕ) (v : List ℤ) where
  -- THE THEOREM, of convert and of check: the place is visible, its sample exceeds m, and every visible sample before it is at most m
  pub convert_carries : convert s f source luma chroma ≡ refused 10 v → Carries (most s.depth) f (shown s f source) v
  convert_carries e = carries (most s.depth) f (shown s f source) v (by_convert s v f source luma chroma e)

  pub check_carries : check s f source luma chroma ≡ refused 10 v → Carries (most s.depth) f (shown s f source) v
  check_carries e = carries (most s.depth) f (shown s f source) v (by_check s v f source luma chroma e)

  -- THE THEOREM: where both give 10 they give the same place
  pub same_place : (luma' chroma' : List ℕ) (w : List ℤ) → convert s f source luma chroma ≡ refused 10 v → check s f source luma' chroma' ≡ refused 10 w → v ≡ w
  same_place luma' chroma' w a b =
      let x : too_large_line s f source ≡ refuses 10 v = by_convert s v f source luma chroma a in
      let y : too_large_line s f source ≡ refuses 10 w = by_check s w f source luma' chroma' b in
      let z : refuses 10 v ≡ refuses 10 w = sym x ∙ y in cc
