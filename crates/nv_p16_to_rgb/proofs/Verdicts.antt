-- What the way back is to answer and to leave in the buffer, by settle's answer and the lines after it. Assumes nothing.
use mathlib.Core.Path.{◌≡◌, sym, ap, ◌∙◌}
use mathlib.Core.List.{List, [], ◌∷◌}
use Prim.Native.Nat.{ℕ}
use lib.IntN.{ℤ}
use lib.ListN.{length}
use Rattle.rules.specs.declared.Settings.{Settings}
use Rattle.rules.specs.declared.Frame.{Frame}
use Rattle.rules.specs.declared.Weights.{Weights}
use Rattle.rules.specs.Inverse.{inverse_weights_of}
use Rattle.rules.specs.Refusals.{Line, refuses, first}
use Rattle.rules.specs.Answers.{Answer, given, refused, answer, weight_values}
use Rattle.rules.specs.Settle.{settle_lines, settle}
use Rattle.rules.specs.Check.{custom_line}
use Rattle.rules.specs.ToRgb.{plane_lines, to_rgb_line, rgb_left, to_rgb, rgb_after}
use Rattle.rule_laws.proofs.Refusals.{passed_on, refused_before}
use Rattle.rule_laws.proofs.Settling.{weighed_passes, refused_refuses}

module _ (s : Settings) (f : Frame) (luma chroma rgb : List ℕ) where
  abbrev after : List Line
  after = custom_line s ∷ plane_lines s f luma chroma (length rgb)

  abbrev left : Line → List ℕ
  left l = rgb_left l s (inverse_weights_of s) f luma chroma rgb

  -- by what the table comes to
  by_line : (l : Line) → to_rgb_line s f luma chroma rgb ≡ l → (answer l (given []) ≡ to_rgb s f luma chroma rgb) × (left l ≡ rgb_after s f luma chroma rgb)
  unfolding to_rgb rgb_after
  by_line l e = (sym (ap (λ (k : Line). answer k (given [])) e), sym (ap left e))

  -- settle refuses
  pub refused_settings : (n : ℕ) (v : List ℤ) → refused n v ≡ settle s → (refused n v ≡ to_rgb s f luma chroma rgb) × (rgb ≡ rgb_after s f luma chroma rgb)
  refused_settings n v e = by_line (refuses n v) (refused_before (settle_lines s) after (refused_refuses s n v e))

  -- settle hands out weights: the lines after it decide
  pub settled : (w : Weights) → given (weight_values w) ≡ settle s → {a : Answer} {l : Line} {x : List ℕ} → a ≡ answer l (given []) → l ≡ first after → x ≡ left l
      → (a ≡ to_rgb s f luma chroma rgb) × (x ≡ rgb_after s f luma chroma rgb)
  settled w e p h q =
      let g = by_line (first after) (passed_on (settle_lines s) after (weighed_passes s w e).0) in
      (p ∙ ap (λ (k : Line). answer k (given [])) h ∙ g.0, q ∙ ap left h ∙ g.1)

  -- the lines after it refuse: the buffer is as it was
  pub left_over : (n : ℕ) (v : List ℤ) (ls : List Line) → refuses n v ≡ first ls → rgb ≡ left (first ls)
  left_over n v ls h = ap left h
