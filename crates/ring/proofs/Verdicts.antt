-- What converting a ring comes to, by settle's answer and the lines of the ring. Assumes nothing.
use Rattle.std.proofs.Common.{Err}
use mathlib.Core.Path.{◌≡◌, sym, ap, ◌∙◌, subst⁻¹}
use mathlib.Core.Bool.{true, false}
use mathlib.Core.List.{List, ◌++◌}
use Prim.Native.Nat.{ℕ}
use lib.ListN.{length}
use Rattle.rules.specs.declared.Settings.{Settings}
use Rattle.rules.specs.declared.Frame.{Frame}
use Rattle.rules.specs.declared.Refusal.{Refusal}
use Rattle.rules.specs.declared.Ringed.{Ringed}
use Rattle.rules.specs.declared.Weights.{Weights}
use Rattle.rules.specs.Refusals.{number_of, values_of, Line, first, line_of, Verdict}
use Rattle.rules.specs.Answers.{given, refused, weight_values}
use Rattle.rules.specs.Settle.{settle_lines, settle}
use Rattle.rules.specs.Ring.{Outcome, untouched, unless, ring_lines, in_turn, convert_ring}
use Rattle.rule_laws.proofs.Refusals.{passed_on, refused_before}
use Rattle.rule_laws.proofs.Settling.{weighed_passes, refused_refuses}
use Rattle.ring.specs.RingAnswers.{refusing, ringed}
use Rattle.ring.specs.Outcomes.{ComesTo}
use Rattle.ring.proofs.Turns.{goes_on, ends_here}

module _ (s : Settings) (f : Frame) (count : ℕ) (source luma chroma : List ℕ) where
  by_line : (l : Line) → first (settle_lines s ++ ring_lines s f count (length source) (length luma) (length chroma)) ≡ l
      → convert_ring s f count source luma chroma ≡ unless l luma chroma (in_turn count s f source luma chroma)
  unfolding convert_ring
  by_line l e = ap (λ (k : Line). unless k luma chroma (in_turn count s f source luma chroma)) e

  -- a refusal of all frames together leaves both planes
  none : (v : Verdict) → convert_ring s f count source luma chroma ≡ untouched (line_of v) luma chroma → ComesTo (convert_ring s f count source luma chroma) (ringed 0 v) luma chroma
  none v e = record { answer_is = sym (ap (λ (o : Outcome). o.answer) e); luma_is = sym (ap (λ (o : Outcome). o.luma) e); chroma_is = sym (ap (λ (o : Outcome). o.chroma) e) }

  -- settle refuses
  pub refused_settings : (q : Refusal) → refused (number_of q) (values_of q) ≡ settle s → ComesTo (convert_ring s f count source luma chroma) (ringed 0 (Err q)) luma chroma
  refused_settings q e = none (Err q) (by_line _ (refused_before (settle_lines s) _ (refused_refuses s _ _ e)))

  -- settle hands out weights: the lines of the ring decide
  module _ (w : Weights) (e : given (weight_values w) ≡ settle s) (v : Verdict) (h : line_of v ≡ first (ring_lines s f count (length source) (length luma) (length chroma))) where
    by_ring : convert_ring s f count source luma chroma ≡ unless (line_of v) luma chroma (in_turn count s f source luma chroma)
    by_ring = by_line (line_of v) (passed_on (settle_lines s) _ (weighed_passes s w e).0 ∙ sym h)

    pub refused_ring : refusing (line_of v) ≡ true → ComesTo (convert_ring s f count source luma chroma) (ringed 0 v) luma chroma
    refused_ring q = none v (by_ring ∙ ends_here (line_of v) q luma chroma (in_turn count s f source luma chroma))

    pub begun : {r : Ringed} {l c : List ℕ} → refusing (line_of v) ≡ false
        → ComesTo (in_turn count s f source luma chroma) r l c → ComesTo (convert_ring s f count source luma chroma) r l c
    begun {r} {l} {c} q o =
        subst⁻¹ (λ (x : Outcome). ComesTo x r l c)
        (by_ring ∙ ap (λ (k : Line). unless k luma chroma (in_turn count s f source luma chroma)) (goes_on (line_of v) q)) o
