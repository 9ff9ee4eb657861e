-- Settle's answer by the lines of its table, and what success says of each line. Assumes nothing.
use mathlib.Core.Path.{◌≡◌, sym, ◌∙◌}
use mathlib.Core.Bool.{false}
use Prim.Native.Nat.{◌≤◌}
use Rattle.rules.specs.declared.Settings.{Settings}
use Rattle.rules.specs.declared.Weights.{Weights}
use Rattle.rules.specs.declared.Refusal.{Refusal}
use Rattle.rules.specs.Matrices.{matrix_of}
use Rattle.rules.specs.Weights.{weights_of}
use Rattle.rules.specs.Refusals.{number_of, values_of, passes, refuses, first}
use Rattle.rules.specs.Answers.{given, refusal, weight_values, settled_answer, Settled}
use Rattle.rules.specs.Settle.{pair_off, weight_off, some_code_off, settle_lines, settle}
use Rattle.rule_laws.proofs.Refusals as lines
use Rattle.rule_laws.proofs.Answers.{one_settled, by_passing, by_refusing}
use Rattle.rule_laws.proofs.Settling.{weighed_passes}

pub refused : (s : Settings) (r : Refusal) → first (settle_lines s) ≡ refuses (number_of r) (values_of r) → refusal r ≡ settle s
unfolding settle
refused s r e = by_refusing (given (weight_values (weights_of s))) e

pub weighed : (s : Settings) → first (settle_lines s) ≡ passes → given (weight_values (weights_of s)) ≡ settle s
unfolding settle
weighed s e = by_passing (given (weight_values (weights_of s))) e

-- ---- what success says
pub record Passed (s : Settings) : Type 0 where
  pub shallow : 10 ≤ s.depth
  pub deep : s.depth ≤ 16
  pub coarse : 1 ≤ s.precision
  pub fine : s.precision ≤ 13
  pub pair : pair_off (matrix_of s.matrix) ≡ false
  pub near : weight_off s (matrix_of s.matrix) (weights_of s) ≡ false
  pub codes : some_code_off s (weights_of s) ≡ false

pub passed : (s : Settings) (w : Weights) → given (weight_values w) ≡ settle s → Passed s × (weights_of s ≡ w)
passed s w e =
    let o = weighed_passes s w e in
    let l1 = lines.passed_by _ _ _ o.0 in
    let l2 = lines.passed_by _ _ _ l1.1 in
    let l3 = lines.passed_by _ _ _ l2.1 in
    let l4 = lines.passed_by _ _ _ l3.1 in
    let l5 = lines.passed_by _ _ _ l4.1 in
    let d = lines.bounds 10 16 s.depth l1.0 in
    let p = lines.bounds 1 13 s.precision l2.0 in
    (record { shallow = d.0; deep = d.1; coarse = p.0; fine = p.1; pair = l3.0; near = l4.0; codes = l5.0 }, o.1)

-- THE THEOREM: any two answers that settle's contract admits are equal
pub one_answer : (s : Settings) (a b : Settled) → settled_answer a ≡ settle s → settled_answer b ≡ settle s → a ≡ b
one_answer s a b p q = one_settled a b (p ∙ sym q)
