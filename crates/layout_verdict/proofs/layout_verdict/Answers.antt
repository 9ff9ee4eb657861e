-- `layout_verdict::layout_verdict` meets its contract.
use mathlib.Core.Path.{◌≡◌, sym, ◌∙◌}
use mathlib.Core.Bool.{Bool, false}
use Rattle.rules.specs.Frames.{size_off, window_off, stride_off, length_off}
use Rattle.rule_laws.proofs.Refusals.{end, stopped, skipped}
use Rattle.frames.specs.Tests.{Sized, Windowed, Strided}
use Rattle.frames.proofs.Tests.{sized, windowed, strided, laid}
use Rattle.layout_verdict.proofs.layout_verdict.Goals as goal
use Rattle.layout_verdict.proofs.layout_verdict.Goals.{After-length_off, After-size_off, After-stride_off, After-window_off, Else-size_off, Else-stride_off, Else-window_off}

-- what each test answered, as the rules have it
size : (c : After-size_off) (t : Bool) → c.size_off.result ≡ t → size_off c.args.f ≡ t
size c t h = sym c.size_off.ensures ∙ h

corner : (c : After-window_off) (t : Bool) → c.window_off.result ≡ t → window_off c.args.f ≡ t
corner c t h = sym c.window_off.ensures ∙ h

stride : (c : After-stride_off) (t : Bool) → c.stride_off.result ≡ t → stride_off c.args.s c.args.f ≡ t
stride c t h = sym c.stride_off.ensures ∙ h

long : (c : After-length_off) (t : Bool) → c.length_off.result ≡ t → let v = c.args in length_off v.s v.f 1 v.source v.luma v.chroma ≡ t
long c t h = sym c.length_off.ensures ∙ h

-- what each test that passed leaves
size_in : (c : Else-size_off) → size_off c.args.f ≡ false
size_in c = size (goal.at.Else-size_off c).After-size_off false c.if-size_off.false

corner_in : (c : Else-window_off) → window_off c.args.f ≡ false
corner_in c = corner (goal.at.Else-window_off c).After-window_off false c.if-window_off.false

stride_in : (c : Else-stride_off) → stride_off c.args.s c.args.f ≡ false
stride_in c = stride (goal.at.Else-stride_off c).After-stride_off false c.if-stride_off.false

size_left : (c : Else-size_off) → Sized c.args.f
size_left c = sized c.args.f (size_in c)

corner_left : (c : Else-window_off) → Windowed c.args.f
corner_left c = windowed c.args.f (corner_in c)

stride_left : (c : Else-stride_off) → Strided c.args.s c.args.f
stride_left c = strided c.args.s c.args.f (stride_in c)

pub returns-then-size_off-clause-exact : goal.returns-then-size_off-clause-exact
returns-then-size_off-clause-exact c =
    sym (stopped _ _ _ (size (goal.at.returns-then-size_off-clause-exact c).After-size_off _ c.if-size_off.true))

pub returns-then-window_off-clause-exact : goal.returns-then-window_off-clause-exact
returns-then-window_off-clause-exact c =
    sym (skipped _ _ _ (size_in (goal.at.returns-then-window_off-clause-exact c).Else-size_off) ∙ stopped _ _ _ (corner (goal.at.returns-then-window_off-clause-exact c).After-window_off _ c.if-window_off.true))

pub returns-then-stride_off-clause-exact : goal.returns-then-stride_off-clause-exact
returns-then-stride_off-clause-exact c =
    sym (skipped _ _ _ (size_in (goal.at.returns-then-stride_off-clause-exact c).Else-size_off) ∙ skipped _ _ _ (corner_in (goal.at.returns-then-stride_off-clause-exact c).Else-window_off) ∙ stopped _ _ _ (stride (goal.at.returns-then-stride_off-clause-exact c).After-stride_off _ c.if-stride_off.true))

pub length_off-requires-clause-sized : goal.length_off-requires-clause-sized
length_off-requires-clause-sized c =
    (size_left (goal.at.length_off-requires-clause-sized c).Else-size_off, (corner_left (goal.at.length_off-requires-clause-sized c).Else-window_off, stride_left (goal.at.length_off-requires-clause-sized c).Else-stride_off))

pub returns-then-length_off-clause-exact : goal.returns-then-length_off-clause-exact
returns-then-length_off-clause-exact c =
    sym (skipped _ _ _ (size_in (goal.at.returns-then-length_off-clause-exact c).Else-size_off)
    ∙ skipped _ _ _ (corner_in (goal.at.returns-then-length_off-clause-exact c).Else-window_off)
    ∙ skipped _ _ _ (stride_in (goal.at.returns-then-length_off-clause-exact c).Else-stride_off)
    ∙ stopped _ _ _ (long (goal.at.returns-then-length_off-clause-exact c).After-length_off _ c.if-length_off.true))

pub returns-clause-laid : goal.returns-clause-laid
returns-clause-laid c =
    let v = c.args in
    let l = long (goal.at.returns-clause-laid c).After-length_off false c.if-length_off.false in (size_left (goal.at.returns-clause-laid c).Else-size_off, laid v.s v.f v.source v.luma v.chroma (size_left (goal.at.returns-clause-laid c).Else-size_off) (corner_left (goal.at.returns-clause-laid c).Else-window_off) (stride_left (goal.at.returns-clause-laid c).Else-stride_off) l)

pub returns-clause-exact : goal.returns-clause-exact
returns-clause-exact c =
    let v = c.args in
    let l = long (goal.at.returns-clause-exact c).After-length_off false c.if-length_off.false in sym (skipped _ _ _ (size_in (goal.at.returns-clause-exact c).Else-size_off)
    ∙ skipped _ _ _ (corner_in (goal.at.returns-clause-exact c).Else-window_off)
    ∙ skipped _ _ _ (stride_in (goal.at.returns-clause-exact c).Else-stride_off)
    ∙ skipped _ _ _ l
    ∙ end)
