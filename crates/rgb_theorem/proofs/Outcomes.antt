-- THE THEOREM: any two outcomes that the promise of turning a frame back admits for one input are equal. Assumes nothing.
use Rattle.rules.specs.Refusals.{Verdict}
use Prim.Native.Nat.{ℕ}
use mathlib.Core.Path.{◌≡◌, sym, ◌∙◌}
use mathlib.Core.List.{List}
use Rattle.rules.specs.declared.Settings.{Settings}
use Rattle.rules.specs.declared.Frame.{Frame}
use Rattle.rule_laws.proofs.Answers.{one_converted}
use Rattle.rgb_theorem.specs.Outcomes.{Admitted}

pub one_outcome : (s : Settings) (f : Frame) (luma chroma rgb : List ℕ) (a a' : Verdict) (x x' : List ℕ)
    → Admitted s f luma chroma rgb a x → Admitted s f luma chroma rgb a' x' → (a ≡ a') × (x ≡ x')
one_outcome s f luma chroma rgb a a' x x' p q = (one_converted a a' (p.answer_is ∙ sym q.answer_is), p.rgb_is ∙ sym q.rgb_is)
