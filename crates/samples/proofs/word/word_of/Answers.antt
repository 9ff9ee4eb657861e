-- `samples::word::word_of` meets its contract.
use mathlib.Core.Path.{ap, ◌∙◌, subst⁻¹}
use Prim.Native.Nat.{ℕ, ◌<◌, ◌^◌}
use Rattle.rules.specs.Storage.{word}
use Rattle.rules.specs.Convert.{word_of}
use Rattle.samples.proofs.Codes.{code_below}
use Rattle.samples.proofs.word.word_of.Goals as goal

pub word-requires-clause-code_bound : goal.word-requires-clause-code_bound
word-requires-clause-code_bound c =
    let a = c.args in
    let pre = c.requires in
    subst⁻¹ (λ (n : ℕ). n < 2 ^ a.s.depth) c.code.ensures (code_below a.s.depth a.s.precision a.bias a.w a.p pre.between)

pub returns : goal.returns
unfolding word_of
returns c =
    let s = c.args.s in c.word.ensures ∙ ap (word s.packing s.endianness s.depth) c.code.ensures
