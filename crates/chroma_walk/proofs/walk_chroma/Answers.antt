-- `chroma_walk::walk_chroma` meets its contract.
use mathlib.Core.Path.{◌≡◌, sym, ◌∙◌, subst}
use mathlib.Core.Bool.{Bool}
use mathlib.Core.List.{List}
use Prim.Native.Nat.{ℕ, ◌*◌, ◌<◌}
use native.Mathlib.Omega.{arith}
use native.Mathlib.Nat.{lt_of_lt_of_le}
use lib.ListN.{get_or}
use Rattle.rules.specs.Blocks.{chroma_height}
use Rattle.rules.specs.Frames.{shown}
use Rattle.rules.specs.Check.{chroma_test}
use Rattle.plane_laws.proofs.Searches as searches
use Rattle.frames.specs.Rows.{row_pixel}
use Rattle.sample_check.specs.Samples.{element_right}
use Rattle.walks.proofs.Walked.{row_more, clean_more, clean_all, first_wrong}
use Rattle.walks.proofs.Parts.{part, chroma_shown}
use Rattle.chroma_walk.proofs.walk_chroma.Goals as goal
use Rattle.chroma_walk.proofs.walk_chroma.Goals.{After-chroma_at, After-samples-1, In-loop-row}

-- this turn's row is one of the plane, and its source rows are rows of the source
in_rows : (c : In-loop-row) → let a = c.args in c.loop-row.row < chroma_height a.judge.settings.subsampling a.f.height
in_rows c = omega (arith, c.loop-row-test.true, c.chroma_height-row-end.ensures)

-- this turn's rows of the source, and of the plane
top_row : After-samples-1 → List ℕ
top_row c = c.source_row-top.result.now

low_row : After-samples-1 → List ℕ
low_row c = c.source_row-low.result.now

chroma_row : After-samples-1 → List ℕ
chroma_row c =
    let a = c.args in
    part a.chroma.now (c.loop-row.row * a.f.chroma_stride) c.chroma_width-wide.result

-- what a test of an element of the row parts says, of the buffers
tested : (c : After-samples-1) (e : ℕ) {r : Bool} → let a = c.args in
    e < c.chroma_width-wide.result →
    r ≡ element_right a.judge.settings a.judge.named a.f.width c.two-two.result (row_pixel a.judge.settings.channels (top_row c)) (row_pixel a.judge.settings.channels (low_row c)) e (get_or (chroma_row c) e 0) →
    r ≡ chroma_test a.judge.settings a.judge.named a.f (shown a.judge.settings a.f a.source.now) a.chroma.now c.loop-row.row e
unfolding top_row low_row chroma_row
tested c e h q =
    let a = c.args in
    chroma_shown a.judge.settings a.judge.named a.f a.source.now a.chroma.now c.loop-row.row e c.top-t.result c.second.result c.two-two.result (top_row c) (low_row c)
    c.top-t.ensures c.two-two.ensures c.second.ensures c.source_row-top.ensures c.source_row-low.ensures c.chroma_width-wide.result c.chroma_width-wide.ensures h q

pub loop-element-init : goal.loop-element-init
unfolding top_row low_row chroma_row
loop-element-init c =
    let p = c.chroma_passed-passed.ensures in
    record { clean = λ e h. sym (tested (goal.at.loop-element-init c).After-samples-1 e (subst (λ (n : ℕ). e < n) (sym c.chroma_width-wide.ensures) (lt_of_lt_of_le h p.most)) (sym (p.right e h))) }

-- and what this element's says
judged : (c : After-chroma_at) → let a = c.args in
    c.chroma_at.result ≡ chroma_test a.judge.settings a.judge.named a.f (shown a.judge.settings a.f a.source.now) a.chroma.now c.loop-row.row c.loop-element.element
unfolding top_row low_row chroma_row
judged c = tested (goal.at.After-chroma_at c).After-samples-1 c.loop-element.element c.loop-element-test.true c.chroma_at.ensures

pub loop-element-preserved : goal.loop-element-preserved
loop-element-preserved c = row_more c.loop-element.invariant (sym (judged (goal.at.loop-element-preserved c).After-chroma_at) ∙ c.if-not-chroma_at.false)

pub loop-row-preserved : goal.loop-row-preserved
loop-row-preserved c = clean_more c.loop-row.invariant c.loop-element.invariant (omega (arith, c.loop-element-test.false, c.chroma_width-wide.ensures))

pub returns-after-loop-row : goal.returns-after-loop-row
returns-after-loop-row c = sym (searches.clean_none _ _ _ (clean_all c.loop-row.invariant (omega (arith, c.loop-row-test.false, c.loop-row.auto.row-end, c.chroma_height-row-end.ensures))))

pub returns-then-not-chroma_at : goal.returns-then-not-chroma_at
returns-then-not-chroma_at c = sym (searches.first_found _ _ _ _ _ (first_wrong (in_rows (goal.at.returns-then-not-chroma_at c).In-loop-row) (omega (arith, c.loop-element-test.true, c.chroma_width-wide.ensures)) c.loop-row.invariant c.loop-element.invariant (sym (judged (goal.at.returns-then-not-chroma_at c).After-chroma_at) ∙ c.if-not-chroma_at.true)))
