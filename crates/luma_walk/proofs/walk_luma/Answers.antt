-- `luma_walk::walk_luma` meets its contract.
use mathlib.Core.Path.{◌≡◌, sym, ◌∙◌}
use mathlib.Core.Bool.{Bool}
use mathlib.Core.List.{List}
use Prim.Native.Nat.{ℕ, ◌*◌, ◌<◌}
use native.Mathlib.Omega.{arith}
use native.Mathlib.Nat.{lt_of_lt_of_le}
use lib.ListN.{get_or}
use Rattle.rules.specs.Frames.{shown}
use Rattle.rules.specs.Check.{luma_test}
use Rattle.plane_laws.proofs.Searches as searches
use Rattle.frames.specs.Rows.{row_pixel}
use Rattle.sample_check.specs.Samples.{pixel_right}
use Rattle.walks.proofs.Walked.{row_more, clean_more, clean_all, first_wrong}
use Rattle.walks.proofs.Parts.{part, luma_shown}
use Rattle.luma_walk.proofs.walk_luma.Goals as goal
use Rattle.luma_walk.proofs.walk_luma.Goals.{After-luma_at, After-samples-1}

-- this turn's row of the source
pixels : After-samples-1 → List ℕ
pixels c = c.source_row-pixels.result.now

-- what a test of an element of the row parts says, of the buffers
tested : (c : After-samples-1) (e : ℕ) {r : Bool} → let a = c.args in
    e < a.f.width →
    r ≡ pixel_right a.judge.settings a.judge.named (row_pixel a.judge.settings.channels (pixels c) e) (get_or (part a.luma.now (c.loop-row.row * a.f.luma_stride) a.f.width) e 0) →
    r ≡ luma_test a.judge.settings a.judge.named a.f (shown a.judge.settings a.f a.source.now) a.luma.now c.loop-row.row e
unfolding pixels
tested c e h q =
    let a = c.args in
    luma_shown a.judge.settings a.judge.named a.f a.source.now a.luma.now c.loop-row.row e (pixels c) c.source_row-pixels.ensures h q

pub loop-element-init : goal.loop-element-init
unfolding pixels
loop-element-init c =
    let p = c.luma_passed-passed.ensures in record { clean = λ e h. sym (tested (goal.at.loop-element-init c).After-samples-1 e (lt_of_lt_of_le h p.most) (sym (p.right e h))) }

-- and what this element's says
judged : (c : After-luma_at) → let a = c.args in
    c.luma_at.result ≡ luma_test a.judge.settings a.judge.named a.f (shown a.judge.settings a.f a.source.now) a.luma.now c.loop-row.row c.loop-element.element
unfolding pixels
judged c = tested (goal.at.After-luma_at c).After-samples-1 c.loop-element.element c.loop-element-test.true c.luma_at.ensures

pub loop-element-preserved : goal.loop-element-preserved
loop-element-preserved c = row_more c.loop-element.invariant (sym (judged (goal.at.loop-element-preserved c).After-luma_at) ∙ c.if-not-luma_at.false)

pub loop-row-preserved : goal.loop-row-preserved
loop-row-preserved c = clean_more c.loop-row.invariant c.loop-element.invariant c.loop-element-test.false

pub returns-after-loop-row : goal.returns-after-loop-row
returns-after-loop-row c = sym (searches.clean_none _ _ _ (clean_all c.loop-row.invariant (omega (arith, c.loop-row-test.false, c.loop-row.auto.row-end))))

pub returns-then-not-luma_at : goal.returns-then-not-luma_at
returns-then-not-luma_at c = sym (searches.first_found _ _ _ _ _ (first_wrong c.loop-row-test.true c.loop-element-test.true c.loop-row.invariant c.loop-element.invariant (sym (judged (goal.at.returns-then-not-luma_at c).After-luma_at) ∙ c.if-not-luma_at.true)))
