-- `row_search::first_high` meets its contract: no sample that was passed exceeds m.
use mathlib.Core.Path.{◌≡◌, sym, ap, ◌∙◌}
use mathlib.Core.Bool.{Bool, false}
use Prim.Native.Nat.{ℕ, ◌*◌}
use native.Mathlib.Omega.{arith}
use lib.Dec.{leb}
use borrow.Author.Tests.{le-leb, lt-leb}
use Rattle.rules.specs.Search.{failing, is_found, Search, found_at}
use Rattle.plane_laws.proofs.Searches.{none_yet, none_more, found_first, none_all}
use Rattle.row_search.specs.RowSamples.{sample_of}
use Rattle.row_search.proofs.Lows.{bounded, part_low}
use Rattle.row_search.proofs.first_high.Goals as goal
use Rattle.row_search.proofs.first_high.Goals.{Else-m-colour_sample, Start, Then-m-colour_sample}

-- what is found at a sample of the row
abbrev found : (a : Start) → ℕ → Search
found a i = let v = a.args in failing (leb (sample_of v.channels v.part.now i) v.m) v.row i

-- a sample that exceeds m is found, and no other
high : (c : Then-m-colour_sample) → let i = c.loop-element.element in found (goal.at.Then-m-colour_sample c).Start i ≡ found_at c.args.row i
high c =
    let v = c.args in
    let e = lt-leb (sample_of v.channels v.part.now c.loop-element.element) v.m (omega (arith, c.colour_sample.ensures, c.if-m-colour_sample.true)) in
    ap (λ (b : Bool). failing b v.row c.loop-element.element) e

low : (c : Else-m-colour_sample) → is_found (found (goal.at.Else-m-colour_sample c).Start c.loop-element.element) ≡ false
low c =
    let v = c.args in
    let e = le-leb (sample_of v.channels v.part.now c.loop-element.element) v.m (omega (arith, c.colour_sample.ensures, c.if-m-colour_sample.false)) in
    ap (λ (b : Bool). is_found (failing b v.row c.loop-element.element)) e

-- a row whose bound is at most m has no sample that exceeds it
pub returns-then-four_rows-from : goal.returns-then-four_rows-from
returns-then-four_rows-from c =
    let v = c.args in
    let l = bounded v.channels v.width v.part.now c.requires.1 (omega (arith, c.if-four_rows-from.true, c.from.ensures)) c.four_rows.ensures in
    sym (none_all (3 * v.width) (found (goal.at.returns-then-four_rows-from c).Start) (λ i b. ap (λ (t : Bool). failing t v.row i) (part_low v.channels v.m v.width v.part.now l i b)))

pub loop-element-init : goal.loop-element-init
loop-element-init c = none_yet _

pub returns-then-m-colour_sample : goal.returns-then-m-colour_sample
returns-then-m-colour_sample c =
    let l = c.loop-element in
    sym (found_first (found (goal.at.returns-then-m-colour_sample c).Start) _ l.element c.loop-element-test.true l.invariant (ap is_found (high (goal.at.returns-then-m-colour_sample c).Then-m-colour_sample)) ∙ high (goal.at.returns-then-m-colour_sample c).Then-m-colour_sample)

pub loop-element-preserved : goal.loop-element-preserved
loop-element-preserved c =
    let l = c.loop-element in
    none_more (found (goal.at.loop-element-preserved c).Start) l.element l.invariant (low (goal.at.loop-element-preserved c).Else-m-colour_sample)
