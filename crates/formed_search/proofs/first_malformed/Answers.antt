-- `formed_search::first_malformed` meets its contract: nothing was found in the rows passed.
use mathlib.Core.Path.{◌≡◌, sym, ap, ◌∙◌}
use Prim.Native.Nat.{ℕ, ◌+◌, ◌*◌, ◌≤◌}
use native.Mathlib.Omega.{arith}
use lib.ListN.{length}
use Rattle.rules.specs.Search.{first_below, first_failing, is_found, Search}
use Rattle.plane_laws.proofs.Searches.{none_yet, none_more, found_first}
use Rattle.formed_search.proofs.RowSearch.{in_row, part_is_row}
use Rattle.formed_search.proofs.first_malformed.Goals as goal
use Rattle.formed_search.proofs.first_malformed.Goals.{After-first_in_row, In-loop-row, Start}

-- what is found in a row of the plane
abbrev found_in : Start → ℕ → Search
found_in a row = let v = a.args in in_row v.s v.stride v.wide v.words.now row

-- this turn's row ends inside the plane
inside : (c : In-loop-row) → let v = c.args in c.loop-row.row * v.stride + v.wide ≤ length v.words.now
inside c = c.requires.rows.fits c.loop-row.row c.loop-row-test.true

-- what was found in this turn's part is what is to be found in the row
searched : (c : After-first_in_row) → c.first_in_row.result ≡ found_in (goal.at.After-first_in_row c).Start c.loop-row.row
searched c =
    let v = c.args in
    c.first_in_row.ensures ∙ part_is_row v.s v.stride v.wide v.words.now c.loop-row.row (inside (goal.at.After-first_in_row c).In-loop-row)

pub loop-row-init : goal.loop-row-init
loop-row-init c = none_yet _

pub returns-in-Some : goal.returns-in-Some
unfolding first_failing
returns-in-Some c =
    let here = sym (searched (goal.at.returns-in-Some c).After-first_in_row) ∙ c.in-Some.is in
    sym (found_first (found_in (goal.at.returns-in-Some c).Start) _ c.loop-row.row c.loop-row-test.true c.loop-row.invariant (ap is_found here) ∙ here)

pub loop-row-preserved : goal.loop-row-preserved
loop-row-preserved c = none_more (found_in (goal.at.loop-row-preserved c).Start) c.loop-row.row c.loop-row.invariant (ap is_found (sym (searched (goal.at.loop-row-preserved c).After-first_in_row) ∙ c.in_default.is))

pub returns : goal.returns
unfolding first_failing
returns c =
    let e : c.loop-row.row ≡ c.args.rows = omega (arith, c.loop-row-test.false, c.loop-row.auto.row-end) in
    sym (ap (λ (n : ℕ). first_below n (found_in (goal.at.returns c).Start)) (sym e) ∙ c.loop-row.invariant)
