-- THE THEOREM OF THE WORK: for any settings with a named matrix, any frame, source and planes, if convert says done, then check of what
-- it wrote accepts. Stated over the two promises, for all subsamplings, orders, packings and byte orders. Assumes nothing.
use Rattle.std.proofs.Common.{Ok, None}
use mathlib.Core.Path.{◌≡◌, ◌∙◌}
use mathlib.Core.List.{List, []}
use Prim.Native.Nat.{ℕ}
use Rattle.rules.specs.declared.Settings.{Settings}
use Rattle.rules.specs.declared.Frame.{Frame}
use Rattle.rules.specs.declared.Named.{Named}
use Rattle.rules.specs.declared.Matrix.TheVariants.{Tabled}
use Rattle.rules.specs.Matrices.{matrix_of}
use Rattle.rules.specs.Answers.{given, checked_answer, Checked}
use Rattle.rules.specs.Convert.{convert, luma_after, chroma_after}
use Rattle.rules.specs.Check.{check}
use Rattle.rule_laws.proofs.Answers.{one_checked}
use Rattle.check_theorem.proofs.Left.{accepted}

module _ (s : Settings) (k : Named) (named : matrix_of s.matrix ≡ Tabled k) (f : Frame) (source luma chroma : List ℕ) (done : convert s f source luma chroma ≡ given []) where
  -- THE THEOREM
  pub accepts : check s f source (luma_after s f source luma chroma) (chroma_after s f source luma chroma) ≡ given []
  accepts = accepted s k named f source luma chroma done

  -- and accepting is the one answer that check's promise admits there
  pub only_accepted : (r : Checked) → checked_answer r ≡ check s f source (luma_after s f source luma chroma) (chroma_after s f source luma chroma) → r ≡ (Ok None)
  only_accepted r a = one_checked r (Ok None) (a ∙ accepted s k named f source luma chroma done)
