-- What is said of the sizes of the five weights. Definitions only.
use Rattle.std.specs.Prelude.{ℕ, false}
use Rattle.rules.specs.declared.InverseWeights.{InverseWeights}
use Rattle.rule_laws.specs.Signs.{SignedWithin}

-- none is negative, and b is the greatest that they may be
pub record InverseWithin (b : ℕ) (w : InverseWeights) : Type 0 where
  pub luma : SignedWithin false b w.y_coef
  pub cr : SignedWithin false b w.cr_coef
  pub cb : SignedWithin false b w.cb_coef
  pub green_cr : SignedWithin false b w.g_coeff_1
  pub green_cb : SignedWithin false b w.g_coeff_2
