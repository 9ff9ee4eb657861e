-- What settle's answer says of its table. Assumes nothing.
use mathlib.Core.Path.{◌≡◌, sym}
use mathlib.Core.List.{List}
use Prim.Native.Nat.{ℕ}
use lib.IntN.{ℤ}
use Rattle.rules.specs.declared.Settings.{Settings}
use Rattle.rules.specs.declared.Weights.{Weights}
use Rattle.rules.specs.Weights.{weights_of}
use Rattle.rules.specs.Refusals.{passes, refuses, first}
use Rattle.rules.specs.Answers.{given, refused, weight_values}
use Rattle.rules.specs.Settle.{settle_lines, settle}
use Rattle.rule_laws.proofs.Answers.{same_weights, gave, declined}

-- weights: no line refuses, and they are the settings'
pub weighed_passes : (s : Settings) (w : Weights) → given (weight_values w) ≡ settle s → (first (settle_lines s) ≡ passes) × (weights_of s ≡ w)
unfolding settle
weighed_passes s w e =
    let g = gave (first (settle_lines s)) (given (weight_values (weights_of s))) (weight_values w) e in
    (g.0, sym (same_weights w (weights_of s) g.1))

-- a refusal: its line is the first that refuses
pub refused_refuses : (s : Settings) (n : ℕ) (v : List ℤ) → refused n v ≡ settle s → first (settle_lines s) ≡ refuses n v
unfolding settle
refused_refuses s n v e = declined (first (settle_lines s)) (weight_values (weights_of s)) n v e
