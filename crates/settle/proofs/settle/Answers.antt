-- `settle::settle` meets its contract.
use mathlib.Core.Path.{◌≡◌, sym, ap, ◌∙◌}
use mathlib.Core.Bool.{Bool, true, false}
use Rattle.rules.specs.declared.Settings.{Settings}
use Rattle.rules.specs.declared.Weights.{Weights}
use Rattle.rules.specs.declared.Refusal.TheVariants.{Depth, Precision, CustomPair, WeightOff, CodeOutside}
use Rattle.rules.specs.Matrices.{matrix_of}
use Rattle.rules.specs.Weights.{weights_of}
use Rattle.rules.specs.Refusals.{outside}
use Rattle.rules.specs.Answers.{given, weight_values}
use Rattle.rules.specs.Settle.{pair_off, weight_off, some_code_off}
use Rattle.rule_laws.proofs.Refusals.{end, stopped, skipped}
use Rattle.settle.proofs.Verdicts.{refused, weighed}
use Rattle.settle.proofs.Weighed.{usable}
use Rattle.settle.proofs.settle.Goals as goal
use Rattle.settle.proofs.settle.Goals.{After-depth_off, After-pair_off, After-precision_off, After-some_code_off, After-weight_off, Else-precision_off}

-- what each test answered, as the rules have it
depth : (c : After-depth_off) (t : Bool) → c.depth_off.result ≡ t → outside 10 16 c.args.s.depth ≡ t
depth c t h = sym c.depth_off.ensures ∙ h

precision : (c : After-precision_off) (t : Bool) → c.precision_off.result ≡ t → outside 1 13 c.args.s.precision ≡ t
precision c t h = sym c.precision_off.ensures ∙ h

-- past the first two tests
abbrev S : Else-precision_off → Settings
S c = c.args.s

depth_in : (c : Else-precision_off) → outside 10 16 (S c).depth ≡ false
depth_in c = depth (goal.at.Else-precision_off c).After-depth_off false c.if-depth_off.false

precision_in : (c : Else-precision_off) → outside 1 13 (S c).precision ≡ false
precision_in c = precision (goal.at.Else-precision_off c).After-precision_off false c.if-precision_off.false

pair : (c : After-pair_off) (t : Bool) → c.pair_off.result ≡ t → pair_off (matrix_of (S (goal.at.After-pair_off c).Else-precision_off).matrix) ≡ t
pair c t h = ap pair_off (sym c.matrix_of-matrix.ensures) ∙ sym c.pair_off.ensures ∙ h

weight : (c : After-weight_off) (t : Bool) → c.weight_off.result ≡ t → let s = S (goal.at.After-weight_off c).Else-precision_off in weight_off s (matrix_of s.matrix) (weights_of s) ≡ t
weight c t h =
    let m = sym c.matrix_of-matrix.ensures in
    let w = sym c.weights_of-w.ensures.exact in
    (λ i. weight_off (S (goal.at.After-weight_off c).Else-precision_off) (m i) (w i)) ∙ sym c.weight_off.ensures ∙ h

code : (c : After-some_code_off) (t : Bool) → c.some_code_off.result ≡ t → let s = S (goal.at.After-some_code_off c).Else-precision_off in some_code_off s (weights_of s) ≡ t
code c t h = ap (some_code_off (S (goal.at.After-some_code_off c).Else-precision_off)) (sym c.weights_of-w.ensures.exact) ∙ sym c.some_code_off.ensures ∙ h

pub returns-then-depth_off-clause-exact : goal.returns-then-depth_off-clause-exact
returns-then-depth_off-clause-exact c =
    refused c.args.s Depth (stopped _ _ _ (depth (goal.at.returns-then-depth_off-clause-exact c).After-depth_off true c.if-depth_off.true))

pub returns-then-precision_off-clause-exact : goal.returns-then-precision_off-clause-exact
returns-then-precision_off-clause-exact c =
    let d = depth (goal.at.returns-then-precision_off-clause-exact c).After-depth_off false c.if-depth_off.false in
    refused c.args.s Precision (skipped _ _ _ d ∙ stopped _ _ _ (precision (goal.at.returns-then-precision_off-clause-exact c).After-precision_off true c.if-precision_off.true))

pub returns-then-pair_off-clause-exact : goal.returns-then-pair_off-clause-exact
returns-then-pair_off-clause-exact c =
    refused (S (goal.at.returns-then-pair_off-clause-exact c).Else-precision_off) CustomPair (skipped _ _ _ (depth_in (goal.at.returns-then-pair_off-clause-exact c).Else-precision_off) ∙ skipped _ _ _ (precision_in (goal.at.returns-then-pair_off-clause-exact c).Else-precision_off) ∙ stopped _ _ _ (pair (goal.at.returns-then-pair_off-clause-exact c).After-pair_off true c.if-pair_off.true))

pub returns-then-weight_off-clause-exact : goal.returns-then-weight_off-clause-exact
returns-then-weight_off-clause-exact c =
    let p = pair (goal.at.returns-then-weight_off-clause-exact c).After-pair_off false c.if-pair_off.false in
    refused (S (goal.at.returns-then-weight_off-clause-exact c).Else-precision_off) WeightOff (skipped _ _ _ (depth_in (goal.at.returns-then-weight_off-clause-exact c).Else-precision_off) ∙ skipped _ _ _ (precision_in (goal.at.returns-then-weight_off-clause-exact c).Else-precision_off) ∙ skipped _ _ _ p ∙ stopped _ _ _ (weight (goal.at.returns-then-weight_off-clause-exact c).After-weight_off true c.if-weight_off.true))

pub returns-then-some_code_off-clause-exact : goal.returns-then-some_code_off-clause-exact
returns-then-some_code_off-clause-exact c =
    let p = pair (goal.at.returns-then-some_code_off-clause-exact c).After-pair_off false c.if-pair_off.false in
    let w = weight (goal.at.returns-then-some_code_off-clause-exact c).After-weight_off false c.if-weight_off.false in
    refused (S (goal.at.returns-then-some_code_off-clause-exact c).Else-precision_off) CodeOutside (skipped _ _ _ (depth_in (goal.at.returns-then-some_code_off-clause-exact c).Else-precision_off) ∙ skipped _ _ _ (precision_in (goal.at.returns-then-some_code_off-clause-exact c).Else-precision_off) ∙ skipped _ _ _ p ∙ skipped _ _ _ w ∙ stopped _ _ _ (code (goal.at.returns-then-some_code_off-clause-exact c).After-some_code_off true c.if-some_code_off.true))

pub returns-clause-exact : goal.returns-clause-exact
returns-clause-exact c =
    let p = pair (goal.at.returns-clause-exact c).After-pair_off false c.if-pair_off.false in
    let w = weight (goal.at.returns-clause-exact c).After-weight_off false c.if-weight_off.false in
    let o = code (goal.at.returns-clause-exact c).After-some_code_off false c.if-some_code_off.false in
    let n = c.weights_of-w in
    let q = ap (λ (w : Weights). given (weight_values w)) n.ensures.exact ∙ weighed (S (goal.at.returns-clause-exact c).Else-precision_off) (skipped _ _ _ (depth_in (goal.at.returns-clause-exact c).Else-precision_off) ∙ skipped _ _ _ (precision_in (goal.at.returns-clause-exact c).Else-precision_off) ∙ skipped _ _ _ p ∙ skipped _ _ _ w ∙ skipped _ _ _ o ∙ end) in
    q

pub returns-clause-usable : goal.returns-clause-usable
returns-clause-usable c =
    let p = pair (goal.at.returns-clause-usable c).After-pair_off false c.if-pair_off.false in
    let w = weight (goal.at.returns-clause-usable c).After-weight_off false c.if-weight_off.false in
    let o = code (goal.at.returns-clause-usable c).After-some_code_off false c.if-some_code_off.false in
    let n = c.weights_of-w in
    let q = ap (λ (w : Weights). given (weight_values w)) n.ensures.exact ∙ weighed (S (goal.at.returns-clause-usable c).Else-precision_off) (skipped _ _ _ (depth_in (goal.at.returns-clause-usable c).Else-precision_off) ∙ skipped _ _ _ (precision_in (goal.at.returns-clause-usable c).Else-precision_off) ∙ skipped _ _ _ p ∙ skipped _ _ _ w ∙ skipped _ _ _ o ∙ end) in
    usable (S (goal.at.returns-clause-usable c).Else-precision_off) n.result n.ensures.held q
