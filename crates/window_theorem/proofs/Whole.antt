-- THE THEOREM that zeros and as many source rows as the frame has give the outcome of before. Assumes nothing.
use mathlib.Core.Path.{◌≡◌, refl, sym, ap, ◌∙◌}
use mathlib.Core.Bool.{Bool, true, false, not, ◌||◌}
use mathlib.Core.List.{List, [], ◌∷◌}
use Prim.Native.Nat.{ℕ, zero, suc, ◌+◌, ◌*◌}
use native.Mathlib.Nat.{zero-add}
use native.Mathlib.Omega.{arith}
use lib.Dec.{eqb}
use lib.ListN.{length, take, drop}
use borrow.Author.Tests.{le-ltb}
use Rattle.rules.specs.declared.Settings.{Settings}
use Rattle.rules.specs.declared.Frame.{Frame}
use Rattle.rules.specs.Ranges.{most}
use Rattle.rules.specs.Channels.{picture, count}
use Rattle.rules.specs.Matrices.{matrix_of}
use Rattle.rules.specs.Weights.{weights_of}
use Rattle.rules.specs.Blocks.{chroma_width}
use Rattle.rules.specs.Refusals.{outside, Line, line, first}
use Rattle.rules.specs.Answers.{given, answer}
use Rattle.rules.specs.Settle.{settle_lines}
use Rattle.rules.specs.Frames.{size_off, window_off, stride_off, source_size, luma_size, chroma_size, length_off, shown, too_large, size_line, place_line, frame_lines}
use Rattle.rules.specs.Convert.{kept, luma_written, chroma_written, verdict, convert, luma_after, chroma_after}
use Rattle.rules.specs.Ring.{count_line, ring_lines, one_then, unless, in_turn, convert_ring}
use Rattle.rules.specs.Check.{custom_line, judged_by, check}
use Rattle.rule_laws.proofs.Refusals.{stopped, skipped, inside, after_same}
use Rattle.plane_laws.proofs.Tests.{or_no}
use Rattle.frames.proofs.Tests.{sized}
use Rattle.window_theorem.specs.Former as former
use Rattle.window_theorem.specs.Windows.{Whole, AsBefore}

-- a second line that passes where the first does has no say
skip_second : (m n : ℕ) (a b : Bool) (ls : List Line) → (a ≡ false → b ≡ false) → first (line m a ∷ line n b ∷ ls) ≡ first (line m a ∷ ls)
skip_second m n true b ls h = stopped m true _ refl ∙ sym (stopped m true ls refl)
skip_second m n false b ls h = skipped m false _ refl ∙ skipped n b ls (h refl) ∙ sym (skipped m false ls refl)

module _ (s : Settings) (f : Frame) (w : Whole f) where
  -- the corner moves nothing
  column : (x : ℕ) → f.first_column + x ≡ x
  column x = ap (λ (n : ℕ). n + x) w.left ∙ zero-add x

  row : (y : ℕ) → f.first_row + y ≡ y
  row y = ap (λ (n : ℕ). n + y) w.top ∙ zero-add y

  size : source_size f ≡ former.source_size f
  size = ap (λ (n : ℕ). n * f.source_stride) w.all

  shows : (source : List ℕ) → shown s f source ≡ former.shown s f source
  shows source = λ i y x. picture s.channels f.source_stride source (row y i) (column x i)

  -- ---- the tests

  fits : size_off f ≡ false → window_off f ≡ false
  fits h =
      let z = sized f h in
      or_no _ (inside 0 16384 f.first_column (omega arith) (omega (arith, w.left)))
      ∙ or_no _ (inside 0 16384 f.first_row (omega arith) (omega (arith, w.top)))
      ∙ or_no _ (inside 0 16384 f.source_rows (omega arith) (omega (arith, w.all, z.flat)))
      ∙ le-ltb f.source_rows (f.first_row + f.height) (omega (arith, w.all, row f.height))

  strides : stride_off s f ≡ former.stride_off s f
  strides = λ i.
      outside (column f.width i * count s.channels) 65536 f.source_stride
      || (outside f.width 65536 f.luma_stride || outside (chroma_width s.subsampling f.width) 65536 f.chroma_stride)

  lengths : (n source luma chroma : ℕ) → length_off s f n source luma chroma ≡ former.length_off s f n source luma chroma
  lengths n source luma chroma = λ i.
      not (eqb source (n * size i)) || (not (eqb luma (n * luma_size f)) || not (eqb chroma (n * chroma_size s f)))

  frame_table : (source : List ℕ) (luma chroma : ℕ) → first (frame_lines s f source luma chroma) ≡ first (former.frame_lines s f source luma chroma)
  frame_table source luma chroma =
      skip_second 7 12 (size_off f) (window_off f) _ fits
      ∙ (λ i. first (size_line f ∷ line 8 (strides i) ∷ line 9 (lengths 1 (length source) luma chroma i) ∷ place_line (too_large (most s.depth) f (shows source i)) ∷ []))

  ring_table : (n source luma chroma : ℕ) → first (ring_lines s f n source luma chroma) ≡ first (former.ring_lines s f n source luma chroma)
  ring_table n source luma chroma =
      skip_second 7 12 (size_off f) (window_off f) _ fits ∙ (λ i. first (size_line f ∷ line 8 (strides i) ∷ count_line n ∷ line 9 (lengths n source luma chroma i) ∷ []))

  -- ---- the outcomes
  module _ (source luma chroma : List ℕ) where
    verdicts : verdict s f source luma chroma ≡ former.verdict s f source luma chroma
    verdicts = after_same (settle_lines s) _ _ (frame_table source (length luma) (length chroma))

    converts : convert s f source luma chroma ≡ former.convert s f source luma chroma
    unfolding convert
    converts = λ i. answer (verdicts i) (given [])

    writes_luma : luma_after s f source luma chroma ≡ former.luma_after s f source luma chroma
    unfolding luma_after
    writes_luma = λ i. kept (verdicts i) (luma_written s (weights_of s) f (shows source i) luma) luma

    writes_chroma : chroma_after s f source luma chroma ≡ former.chroma_after s f source luma chroma
    unfolding chroma_after
    writes_chroma = λ i. kept (verdicts i) (chroma_written s (weights_of s) f (shows source i) chroma) chroma

    checks : check s f source luma chroma ≡ former.check s f source luma chroma
    unfolding check
    checks =
        let table = after_same (settle_lines s) _ _ (after_same (custom_line s ∷ []) _ _ (frame_table source (length luma) (length chroma))) in
        λ i. answer (table i) (judged_by (matrix_of s.matrix) s f (shows source i) luma chroma)

  in_turn_lem : (n : ℕ) (source luma chroma : List ℕ) → in_turn n s f source luma chroma ≡ former.in_turn n s f source luma chroma
  unfolding in_turn former.in_turn
  in_turn_lem zero source luma chroma = refl
  in_turn_lem (suc n) source luma chroma =
      let x = take (source_size f) source in
      let y = take (luma_size f) luma in
      let z = take (chroma_size s f) chroma in
      (λ i.
      unless (verdicts x y z i) luma chroma
      (one_then (writes_luma x y z i) (writes_chroma x y z i) (in_turn_lem n (drop (source_size f) source) (drop (luma_size f) luma) (drop (chroma_size s f) chroma) i)))
      ∙ (λ i.
      unless (former.verdict s f (take (size i) source) y z) luma chroma
      (one_then (former.luma_after s f (take (size i) source) y z) (former.chroma_after s f (take (size i) source) y z)
      (former.in_turn n s f (drop (size i) source) (drop (luma_size f) luma) (drop (chroma_size s f) chroma))))

  rings : (n : ℕ) (source luma chroma : List ℕ) → convert_ring s f n source luma chroma ≡ former.convert_ring s f n source luma chroma
  unfolding convert_ring
  rings n source luma chroma =
      let table = after_same (settle_lines s) _ _ (ring_table n (length source) (length luma) (length chroma)) in
      λ i. unless (table i) luma chroma (in_turn_lem n source luma chroma i)

-- THE THEOREM
pub as_before : (s : Settings) (f : Frame) (source luma chroma : List ℕ) → Whole f → AsBefore s f source luma chroma
as_before s f source luma chroma w =
    record {
      answer = converts s f w source luma chroma;
      luma_left = writes_luma s f w source luma chroma;
      chroma_left = writes_chroma s f w source luma chroma;
      checked = checks s f w source luma chroma;
      ring = λ n. rings s f w n source luma chroma;
    }
