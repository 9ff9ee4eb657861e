-- THE THEOREM that only the colour samples of the window have a say in a ring; for convert and check see `rgb_to_nv_p16` and `check_laws`.
-- Assumes nothing.
use mathlib.Core.Path.{◌≡◌, refl, sym, ap, ◌∙◌, subst}
use mathlib.Core.List.{List, ◌++◌}
use Prim.Native.Nat.{ℕ, zero, suc, ◌-◌}
use native.Mathlib.Omega.{arith}
use lib.ListN.{length, take, drop, length-drop}
use Rattle.rules.specs.declared.Settings.{Settings}
use Rattle.rules.specs.declared.Frame.{Frame}
use Rattle.rules.specs.Refusals.{first}
use Rattle.rules.specs.Settle.{settle_lines}
use Rattle.rules.specs.Frames.{source_size, luma_size, chroma_size}
use Rattle.rules.specs.Ring.{ring_lines, one_then, unless, in_turn, convert_ring}
use Rattle.frames.specs.Sources.{SameColours}
use Rattle.rgb_to_nv_p16.proofs.Outcomes.{same_verdict, visible_colours_alone}
use Rattle.ring_theorem.proofs.Frames.{part_first, part_later}
use Rattle.window_theorem.specs.Windows.{SameFrames}

module _ (s : Settings) (f : Frame) where
  -- sources that agree, by other names
  named : {a a' b b' : List ℕ} → a ≡ a' → b ≡ b' → SameColours s.channels f a b → SameColours s.channels f a' b'
  named {a} {b' = b'} p q h =
      subst (λ (x : List ℕ). SameColours s.channels f x b') p (subst (λ (x : List ℕ). SameColours s.channels f a x) q h)

  -- the first frame of a ring, and those after it
  first_frame : (n : ℕ) (a b : List ℕ) → SameFrames s.channels f (suc n) a b → SameColours s.channels f (take (source_size f) a) (take (source_size f) b)
  first_frame n a b h = named (part_first (source_size f) a) (part_first (source_size f) b) (h.each 0 (omega arith))

  later_frames : (n : ℕ) (a b : List ℕ) → SameFrames s.channels f (suc n) a b → SameFrames s.channels f n (drop (source_size f) a) (drop (source_size f) b)
  later_frames n a b h =
      record {
        long = length-drop (source_size f) a ∙ ap (λ (n : ℕ). n - source_size f) h.long ∙ sym (length-drop (source_size f) b);
        each = λ i l. named (part_later (source_size f) i a) (part_later (source_size f) i b) (h.each (suc i) (omega (arith, l)));
      }

  in_turn_lem : (n : ℕ) (a b luma chroma : List ℕ) → SameFrames s.channels f n a b → in_turn n s f a luma chroma ≡ in_turn n s f b luma chroma
  unfolding in_turn
  in_turn_lem zero a b luma chroma h = refl
  in_turn_lem (suc n) a b luma chroma h =
      let y = take (luma_size f) luma in
      let z = take (chroma_size s f) chroma in
      let e = first_frame n a b h in
      let verdicts = same_verdict s f _ _ y z e in
      let same = visible_colours_alone s f _ _ y z e in
      let rest = in_turn_lem n (drop (source_size f) a) (drop (source_size f) b) (drop (luma_size f) luma) (drop (chroma_size s f) chroma) (later_frames n a b h) in
      λ i. unless (verdicts i) luma chroma (one_then (same.1 i) (same.2 i) (rest i))

  -- THE THEOREM
  pub same_ring : (count : ℕ) (a b luma chroma : List ℕ) → SameFrames s.channels f count a b → convert_ring s f count a luma chroma ≡ convert_ring s f count b luma chroma
  unfolding convert_ring
  same_ring count a b luma chroma h =
      let rest = in_turn_lem count a b luma chroma h in
      λ i. unless (first (settle_lines s ++ ring_lines s f count (h.long i) (length luma) (length chroma))) luma chroma (rest i)
