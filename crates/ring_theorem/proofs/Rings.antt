-- THE THEOREMS of a ring: one outcome for each input, convert's own for one frame, and what each frame's part is left with. Assumes nothing.
use mathlib.Core.Path.{◌≡◌, refl, sym, ap, ◌∙◌, subst⁻¹}
use mathlib.Core.List.{List, [], ◌∷◌, ◌++◌, append-nil}
use Prim.Native.Nat.{ℕ, ◌*◌}
use native.Mathlib.Nat.{one-mul, not-suc-le-zero}
use native.Mathlib.Omega.{arith}
use lib.IntN.{ℤ}
use lib.ListN.{length, take, drop, drop_of_length-le}
use lib.Seq.{take_all}
use Rattle.rules.specs.declared.Settings.{Settings}
use Rattle.rules.specs.declared.Frame.{Frame}
use Rattle.rules.specs.declared.Ringed.{Ringed}
use Rattle.rules.specs.Refusals.{Line, passes, refuses, earlier, first}
use Rattle.rules.specs.Settle.{settle_lines}
use Rattle.rules.specs.Frames.{source_size, luma_size, chroma_size, size_line, window_line, stride_line, length_line, too_large_line, frame_lines}
use Rattle.rules.specs.Convert.{verdict, luma_after, chroma_after}
use Rattle.rules.specs.Ring.{untouched, one_then, unless, ring_lines, in_turn, convert_ring}
use Rattle.rule_laws.proofs.Refusals.{earlier_assoc, parted}
use Rattle.rule_laws.proofs.Answers.{one_ringed}
use Rattle.ring_refusals.specs.EndToEnd.{EndToEnd}
use Rattle.ring_refusals.proofs.EndToEnd.{end_to_end}
use Rattle.ring_parts.proofs.Frames.{luma_kept, chroma_kept}
use Rattle.ring_theorem.specs.Rings.{Admitted, written_by, converted, Accounted, StoppedBy}
use Rattle.ring_theorem.proofs.Frames.{in_turn_lem}

-- any two outcomes that the contract admits for one input are equal
pub one_outcome : (s : Settings) (f : Frame) (count : ℕ) (source luma chroma : List ℕ) (a a' : Ringed) (l l' c c' : List ℕ)
    → Admitted s f count source luma chroma a l c → Admitted s f count source luma chroma a' l' c' → (a ≡ a') × (l ≡ l') × (c ≡ c')
one_outcome s f count source luma chroma a a' l l' c c' p q =
    (one_ringed a a' (p.answer_is ∙ sym q.answer_is), p.luma_is ∙ sym q.luma_is, p.chroma_is ∙ sym q.chroma_is)

-- ---- any ring
module _ (s : Settings) (f : Frame) (count : ℕ) (source luma chroma : List ℕ) where
  abbrev table : Line
  table = first (settle_lines s ++ ring_lines s f count (length source) (length luma) (length chroma))

  lies : table ≡ passes → EndToEnd s f count (length source) (length luma) (length chroma)
  lies h = end_to_end s f count (length source) (length luma) (length chroma) (parted (settle_lines s) _ h).1

  -- whatever the input: the frames that are written, and all that are not
  pub frames_in_turn : Accounted s f count source luma chroma (convert_ring s f count source luma chroma)
  unfolding convert_ring
  frames_in_turn = by table refl
    where
      by : (l : Line) → table ≡ l → Accounted s f count source luma chroma (unless l luma chroma (in_turn count s f source luma chroma))
      by passes e = (in_turn_lem s f count source luma chroma (lies e).luma (lies e).chroma).0
      by (refuses n v) e = record {
        frames = λ i h. absurd (not-suc-le-zero h);
        luma_kept = refl;
        chroma_kept = refl;
        finished = λ h. absurd (let q : ◌≡◌ {A = ℕ} 0 1 = cc in omega arith);
      }

  -- where the table lets all frames in, what ends it is convert's verdict on the frame after those written
  pub stopped_by : table ≡ passes → StoppedBy s f count source luma chroma (convert_ring s f count source luma chroma).answer
  unfolding convert_ring
  stopped_by h =
      subst⁻¹ (λ (l : Line). StoppedBy s f count source luma chroma (unless l luma chroma (in_turn count s f source luma chroma)).answer) h
      (in_turn_lem s f count source luma chroma (lies h).luma (lies h).chroma).1

-- ---- one frame: the lines of convert are those of a ring of one frame, then refusal 10

after : (ls ms ns : List Line) (t : Line) → first ms ≡ earlier (first ns) t → first (ls ++ ms) ≡ earlier (first (ls ++ ns)) t
unfolding first
after [] ms ns t h = h
after (l ∷ ls) ms ns t h = ap (earlier l) (after ls ms ns t h) ∙ earlier_assoc l (first (ls ++ ns)) t

pub last_line : (a b c d t : Line) → first (a ∷ b ∷ c ∷ d ∷ t ∷ []) ≡ earlier (first (a ∷ b ∷ c ∷ passes ∷ d ∷ [])) t
unfolding first
last_line (refuses n v) b c d t = refl
last_line passes (refuses n v) c d t = refl
last_line passes passes (refuses n v) d t = refl
last_line passes passes passes (refuses n v) t = refl
last_line passes passes passes passes (refuses n v) = refl
last_line passes passes passes passes passes = refl

module _ (s : Settings) (f : Frame) (source luma chroma : List ℕ) where
  abbrev alone : Line
  alone = table s f 1 source luma chroma

  by_table : verdict s f source luma chroma ≡ earlier alone (too_large_line s f source)
  by_table =
      after (settle_lines s) (frame_lines s f source (length luma) (length chroma)) (ring_lines s f 1 (length source) (length luma) (length chroma)) (too_large_line s f source)
      (last_line (size_line f) (window_line f) (stride_line s f) (length_line s f 1 (length source) (length luma) (length chroma)) (too_large_line s f source))

  refused_alone : (n : ℕ) (v : List ℤ) → verdict s f source luma chroma ≡ refuses n v → untouched (refuses n v) luma chroma ≡ converted s f source luma chroma
  refused_alone n v h =
      sym (λ i. record { answer = record { written = written_by (h i); ended = h i }; luma = luma_kept s f source luma chroma h i; chroma = chroma_kept s f source luma chroma h i })

  by_verdict : (l : Line) → verdict s f source luma chroma ≡ l
      → unless l luma chroma (one_then (luma_after s f source luma chroma) (chroma_after s f source luma chroma) (untouched passes [] [])) ≡ converted s f source luma chroma
  by_verdict (refuses n v) h = refused_alone n v h
  by_verdict passes h = λ i. record {
    answer = record { written = written_by (sym h i); ended = sym h i };
    luma = append-nil (luma_after s f source luma chroma) i;
    chroma = append-nil (chroma_after s f source luma chroma) i;
  }

  -- the whole of a buffer is its first part, and nothing comes after it
  module _ (xs : List ℕ) (size : ℕ) (h : length xs ≡ 1 * size) where
    whole : take size xs ≡ xs
    whole = take_all size xs (omega (arith, h, one-mul size))

    nothing : drop size xs ≡ []
    nothing = drop_of_length-le xs {i = size} (omega (arith, h, one-mul size))

  pub one_frame : convert_ring s f 1 source luma chroma ≡ converted s f source luma chroma
  unfolding convert_ring in_turn
  one_frame = by alone refl
    where
      by : (l : Line) → alone ≡ l → unless l luma chroma (in_turn 1 s f source luma chroma) ≡ converted s f source luma chroma
      by (refuses n v) e = refused_alone n v (by_table ∙ ap (λ (l : Line). earlier l (too_large_line s f source)) e)
      by passes e =
          let a = lies s f 1 source luma chroma e in
          let x = whole source (source_size f) a.source in
          let y = whole luma (luma_size f) a.luma in
          let z = whole chroma (chroma_size s f) a.chroma in
          (λ i. unless (verdict s f (x i) (y i) (z i)) luma chroma
          (one_then (luma_after s f (x i) (y i) (z i)) (chroma_after s f (x i) (y i) (z i)) (untouched passes (nothing luma (luma_size f) a.luma i) (nothing chroma (chroma_size s f) a.chroma i))))
          ∙ by_verdict (verdict s f source luma chroma) refl
