use Rattle.means.proofs.Means.{Summed}
use Rattle.means.proofs.mean.Given as goal

abbrev pub invariant-loop-p : goal.invariant-loop-p
invariant-loop-p g l =
    let b = l.fn.block in
    let i = l.p-index in
    Summed (λ p. p.red) b i l.reds × Summed (λ p. p.green) b i l.greens × Summed (λ p. p.blue) b i l.blues
