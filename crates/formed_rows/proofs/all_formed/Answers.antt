-- `formed_rows::all_formed` meets its contract.
use mathlib.Core.Path.{◌≡◌, sym, ap, ◌∙◌}
use mathlib.Core.Bool.{Bool, ◌&&◌}
use Prim.Native.Nat.{ℕ, ◌+◌}
use native.Mathlib.Omega.{arith}
use lib.ListN.{length, drop}
use Rattle.formed_rows.specs.Formed.{all_formed}
use Rattle.formed_rows.proofs.Formed.{one_more, none_left}
use Rattle.formed_rows.proofs.all_formed.Goals as goal

pub loop-word-preserved : goal.loop-word-preserved
loop-word-preserved c =
    let a = c.args in
    let l = c.loop-word in
    ap (λ (b : Bool). (l.formed && b) && all_formed a.s (drop (l.word-index + 1) a.part.now)) c.well_formed-formed.ensures
    ∙ one_more a.s a.part.now l.formed l.word-index c.loop-word-test.true
    ∙ l.invariant

pub returns : goal.returns
returns c =
    let a = c.args in
    let l = c.loop-word in
    let all : l.word-index ≡ length a.part.now = omega arith in
    sym (none_left a.s a.part.now l.formed) ∙ sym (ap (λ (i : ℕ). l.formed && all_formed a.s (drop i a.part.now)) all) ∙ l.invariant
