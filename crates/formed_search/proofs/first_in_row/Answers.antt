-- `formed_search::first_in_row` meets its contract: each word that was passed is well formed.
use mathlib.Core.Path.{◌≡◌, sym, ap, ◌∙◌}
use mathlib.Core.Bool.{Bool, true, false}
use Prim.Native.Nat.{ℕ}
use lib.ListN.{length, get_or}
use Rattle.rules.specs.Search.{failing, is_found, Search}
use Rattle.plane_laws.proofs.Searches.{none_yet, none_more, found_first, none_all}
use Rattle.formed_rows.specs.Formed.{is_formed}
use Rattle.formed_rows.proofs.Formed.{all_formed_iff}
use Rattle.formed_search.proofs.RowSearch.{by_test}
use Rattle.formed_search.proofs.first_in_row.Goals as goal
use Rattle.formed_search.proofs.first_in_row.Goals.{After-well_formed-in-loop-element, Start}

-- what is found at a word of the row
abbrev found : (a : Start) → ℕ → Search
found a i = let v = a.args in failing (is_formed v.s (get_or v.part.now i 0)) v.row i

-- and at this turn's, by what its test says
tested : (c : After-well_formed-in-loop-element) (t : Bool) → c.well_formed-in-loop-element.result ≡ t → found (goal.at.After-well_formed-in-loop-element c).Start c.loop-element.element ≡ failing t c.args.row c.loop-element.element
tested c t h =
    let v = c.args in
    by_test v.s (get_or v.part.now c.loop-element.element 0) v.row c.loop-element.element c.well_formed-in-loop-element.ensures h

-- a row whose words all are well formed has none that is not
pub returns-then-all_formed : goal.returns-then-all_formed
returns-then-all_formed c =
    let v = c.args in
    let l = (all_formed_iff v.s v.part.now).0 (sym c.all_formed.ensures ∙ c.if-all_formed.true) in
    sym (none_all (length v.part.now) (found (goal.at.returns-then-all_formed c).Start) (λ i b. ap (λ (t : Bool). failing t v.row i) (l.each i b)))

pub loop-element-init : goal.loop-element-init
loop-element-init c = none_yet _

pub returns-then-not-well_formed : goal.returns-then-not-well_formed
returns-then-not-well_formed c =
    let here = tested (goal.at.returns-then-not-well_formed c).After-well_formed-in-loop-element false c.if-not-well_formed.true in
    sym (found_first (found (goal.at.returns-then-not-well_formed c).Start) _ c.loop-element.element c.loop-element-test.true c.loop-element.invariant (ap is_found here) ∙ here)

pub loop-element-preserved : goal.loop-element-preserved
loop-element-preserved c = none_more (found (goal.at.loop-element-preserved c).Start) c.loop-element.element c.loop-element.invariant (ap is_found (tested (goal.at.loop-element-preserved c).After-well_formed-in-loop-element true c.if-not-well_formed.false))
