-- `scan::too_large` meets its contract: nothing is to be found by the greatest m, and nothing was found in the rows passed.
use Rattle.std.proofs.Common.{None}
use mathlib.Core.Path.{◌≡◌, sym, ap, ◌∙◌}
use Prim.Native.Nat.{ℕ, ◌*◌}
use native.Mathlib.Omega.{arith}
use Rattle.rules.specs.declared.Frame.{Frame}
use Rattle.rules.specs.Channels.{Picture}
use Rattle.rules.specs.Search.{first_below, first_failing, is_found, Search}
use Rattle.rules.specs.Frames.{window, low_test, too_large}
use Rattle.plane_laws.proofs.Searches.{none_more, found_first, clean_none}
use Rattle.frames.specs.Rows.{LowPicture}
use Rattle.scan.specs.RowSearch.{search_row}
use Rattle.scan.proofs.Lows.{all_low, rows_clean, picture_nothing}
use Rattle.scan.proofs.too_large.Goals as goal
use Rattle.scan.proofs.too_large.Goals.{Start}

-- the first place in a row of the source
abbrev found_in : Start → ℕ → Search
found_in a row =
    let v = a.args in
    search_row v.m v.f (window v.channels v.f v.source.now) row

-- nothing is found in rows that are low
none_in : (m n : ℕ) (f : Frame) (px : Picture) → LowPicture m px f.width n → first_below n (search_row m f px) ≡ None
unfolding first_failing
none_in m n f px l = clean_none (low_test m px) (3 * f.width) n (rows_clean m f.width n px l)

pub returns-then-m-eq65535 : goal.returns-then-m-eq65535
returns-then-m-eq65535 c =
    let v = c.args in
    sym (picture_nothing v.m v.f _ (all_low v.channels v.m v.f v.source.now (λ i. omega (arith, c.shared_slice_known-1.given i))))

pub loop-row-init : goal.loop-row-init
loop-row-init c = none_in _ _ c.args.f _ c.rows_low-row.ensures.low_picture

pub returns-in-Some : goal.returns-in-Some
unfolding too_large first_failing
returns-in-Some c =
    let here = sym c.search_row.ensures ∙ c.in-Some.is in
    sym (found_first (found_in (goal.at.returns-in-Some c).Start) c.args.f.height c.loop-row.row c.loop-row-test.true c.loop-row.invariant (ap is_found here) ∙ here)

pub loop-row-preserved : goal.loop-row-preserved
loop-row-preserved c = none_more _ c.loop-row.row c.loop-row.invariant (ap is_found (sym c.search_row.ensures ∙ c.in_default.is))

pub returns : goal.returns
unfolding too_large first_failing
returns c =
    let h = c.rows_low-row.ensures.upper_bound in
    let e : c.loop-row.row ≡ c.args.f.height = omega (arith, h, c.loop-row-test.false, c.loop-row.auto.row-end h) in
    sym (ap (λ (n : ℕ). first_below n (found_in (goal.at.returns c).Start)) (sym e) ∙ c.loop-row.invariant)
