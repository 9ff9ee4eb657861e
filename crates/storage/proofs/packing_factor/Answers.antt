-- `storage::packing_factor` meets its contract.
use mathlib.Core.Path.{sym, ap, ◌∙◌}
use native.Mathlib.Omega.{arith}
use Rattle.rules.specs.declared.YuvBytesPacking.{YuvBytesPacking}
use Rattle.rules.specs.declared.YuvBytesPacking.TheVariants.{MostSignificantBytes}
use Rattle.storage.specs.PackingFactor.{packing_factor}
use Rattle.storage.proofs.PackingFactor.{factor_is, factor_some, factor_few}
use Rattle.storage.proofs.packing_factor.Goals as goal

pub overflow_cast-result : goal.overflow_cast-result
overflow_cast-result c =
    let d = c.args.depth in
    record { fits = omega (arith, factor_is d c.requires.1, factor_few MostSignificantBytes d c.requires.0) }

pub returns-in-MostSignificantBytes : goal.returns-in-MostSignificantBytes
returns-in-MostSignificantBytes c =
    let d = c.args.depth in
    let e = factor_is d c.requires.1 in
    (e ∙ sym (ap (λ (k : YuvBytesPacking). packing_factor k d) c.in-MostSignificantBytes.is), omega (arith, e, factor_some MostSignificantBytes d), omega (arith, e, factor_few MostSignificantBytes d c.requires.0))
