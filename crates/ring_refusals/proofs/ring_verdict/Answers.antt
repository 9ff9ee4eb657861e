-- `ring_refusals::ring_verdict` meets its contract.
use mathlib.Core.Path.{◌≡◌, sym, ◌∙◌}
use mathlib.Core.Bool.{Bool, false}
use Rattle.rules.specs.Refusals.{outside}
use Rattle.rules.specs.Frames.{size_off, window_off, stride_off, length_off}
use Rattle.rule_laws.proofs.Refusals.{end, stopped, skipped}
use Rattle.frames.proofs.Tests.{sized, windowed, strided}
use Rattle.ring_refusals.proofs.ring_verdict.Goals as goal
use Rattle.ring_refusals.proofs.ring_verdict.Goals.{After-count_off, After-length_off, After-size_off, After-stride_off, After-window_off, Else-count_off, Else-size_off, Else-stride_off, Else-window_off}

-- what each test answered, as the rules have it
size : (c : After-size_off) (t : Bool) → c.size_off.result ≡ t → size_off c.args.f ≡ t
size c t h = sym c.size_off.ensures ∙ h

corner : (c : After-window_off) (t : Bool) → c.window_off.result ≡ t → window_off c.args.f ≡ t
corner c t h = sym c.window_off.ensures ∙ h

stride : (c : After-stride_off) (t : Bool) → c.stride_off.result ≡ t → stride_off c.args.s c.args.f ≡ t
stride c t h = sym c.stride_off.ensures ∙ h

many : (c : After-count_off) (t : Bool) → c.count_off.result ≡ t → outside 1 64 c.args.count ≡ t
many c t h = sym c.count_off.ensures ∙ h

long : (c : After-length_off) (t : Bool) → c.length_off.result ≡ t → let v = c.args in length_off v.s v.f v.count v.source v.luma v.chroma ≡ t
long c t h = sym c.length_off.ensures ∙ h

-- what each test that passed leaves
size_in : (c : Else-size_off) → size_off c.args.f ≡ false
size_in c = size (goal.at.Else-size_off c).After-size_off false c.if-size_off.false

corner_in : (c : Else-window_off) → window_off c.args.f ≡ false
corner_in c = corner (goal.at.Else-window_off c).After-window_off false c.if-window_off.false

stride_in : (c : Else-stride_off) → stride_off c.args.s c.args.f ≡ false
stride_in c = stride (goal.at.Else-stride_off c).After-stride_off false c.if-stride_off.false

many_in : (c : Else-count_off) → outside 1 64 c.args.count ≡ false
many_in c = many (goal.at.Else-count_off c).After-count_off false c.if-count_off.false

pub returns-then-size_off : goal.returns-then-size_off
returns-then-size_off c = sym (stopped _ _ _ (size (goal.at.returns-then-size_off c).After-size_off _ c.if-size_off.true))

pub returns-then-window_off : goal.returns-then-window_off
returns-then-window_off c = sym (skipped _ _ _ (size_in (goal.at.returns-then-window_off c).Else-size_off) ∙ stopped _ _ _ (corner (goal.at.returns-then-window_off c).After-window_off _ c.if-window_off.true))

pub returns-then-stride_off : goal.returns-then-stride_off
returns-then-stride_off c = sym (skipped _ _ _ (size_in (goal.at.returns-then-stride_off c).Else-size_off) ∙ skipped _ _ _ (corner_in (goal.at.returns-then-stride_off c).Else-window_off) ∙ stopped _ _ _ (stride (goal.at.returns-then-stride_off c).After-stride_off _ c.if-stride_off.true))

pub returns-then-count_off : goal.returns-then-count_off
returns-then-count_off c =
    sym (skipped _ _ _ (size_in (goal.at.returns-then-count_off c).Else-size_off)
    ∙ skipped _ _ _ (corner_in (goal.at.returns-then-count_off c).Else-window_off)
    ∙ skipped _ _ _ (stride_in (goal.at.returns-then-count_off c).Else-stride_off)
    ∙ stopped _ _ _ (many (goal.at.returns-then-count_off c).After-count_off _ c.if-count_off.true))

pub length_off-requires-clause-sized : goal.length_off-requires-clause-sized
length_off-requires-clause-sized c =
    (sized _ (size_in (goal.at.length_off-requires-clause-sized c).Else-size_off), (windowed _ (corner_in (goal.at.length_off-requires-clause-sized c).Else-window_off), strided _ _ (stride_in (goal.at.length_off-requires-clause-sized c).Else-stride_off)))

pub returns-then-length_off : goal.returns-then-length_off
returns-then-length_off c =
    sym (skipped _ _ _ (size_in (goal.at.returns-then-length_off c).Else-size_off)
    ∙ skipped _ _ _ (corner_in (goal.at.returns-then-length_off c).Else-window_off)
    ∙ skipped _ _ _ (stride_in (goal.at.returns-then-length_off c).Else-stride_off)
    ∙ skipped _ _ _ (many_in (goal.at.returns-then-length_off c).Else-count_off)
    ∙ stopped _ _ _ (long (goal.at.returns-then-length_off c).After-length_off _ c.if-length_off.true))

pub returns : goal.returns
returns c =
    sym (skipped _ _ _ (size_in (goal.at.returns c).Else-size_off)
    ∙ skipped _ _ _ (corner_in (goal.at.returns c).Else-window_off)
    ∙ skipped _ _ _ (stride_in (goal.at.returns c).Else-stride_off)
    ∙ skipped _ _ _ (many_in (goal.at.returns c).Else-count_off)
    ∙ skipped _ _ _ (long (goal.at.returns c).After-length_off _ c.if-length_off.false)
    ∙ end)
