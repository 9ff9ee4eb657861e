-- `last_column::last_pair` meets its contract.
use mathlib.Core.Path.{◌≡◌, refl, sym, ap, ◌∙◌, subst⁻¹}
use mathlib.Core.Bool.{false, true≢false}
use Prim.Native.Nat.{ℕ, ◌+◌, ◌-◌, ◌/◌, ◌%◌, ◌≤◌, ◌<◌}
use native.Mathlib.Omega.{arith}
use lib.ListN.{length}
use Rattle.rules.specs.Ranges.{most}
use Rattle.rule_laws.specs.Codes.{Low}
use Rattle.tolerance_laws.proofs.Means.{averaged_low}
use Rattle.plane_laws.proofs.Tables.{finished_at, finished_two}
use Rattle.blocks.specs.Tiles.{left_of}
use Rattle.blocks.proofs.Tiles.{width_small, tiles_block}
use Rattle.frames.specs.Rows.{row_pixel}
use Rattle.last_column.specs.Columns.{elements_over}
use Rattle.last_column.proofs.Tiles.{found, stored}
use Rattle.last_column.proofs.Last.{odd, columns_before, pair_last, pair_even, pair_left, pair_narrow}
use Rattle.last_column.proofs.last_pair.Goals as goal
use Rattle.last_column.proofs.last_pair.Goals.{After-column_mean-p, After-elements_over-k}

-- where the pair lies
record Spot (c : After-elements_over-k) : Type 0 where
  inside : c.args.width - 1 < c.args.width
  room : length c.args.chroma.now ≡ c.elements_over-k.result + 2
  small : c.elements_over-k.result ≤ 32768
  even : c.elements_over-k.result % 2 ≡ 0
  before_it : c.elements_over-k.result ≡ elements_over c.args.s.subsampling (c.args.width - 1)

spot : (c : After-elements_over-k) → Spot c
spot c =
    let v = c.args in
    let o = v.s.subsampling in
    let h = odd v.width c.if-width-eq0.false in
    let e = c.elements_over-k.ensures in
    let p = pair_last v.width h o in
    record {
      inside = omega (arith, h);
      room = omega (arith, c.requires.width_bound.1, p, e);
      small = omega (arith, p, e, width_small o v.width, c.requires.width_bound.0);
      even = ap (λ (n : ℕ). n % 2) e ∙ pair_even v.width h o;
      before_it = e;
    }

low_mean : (c : After-column_mean-p) → Low (most c.args.s.depth) c.column_mean-p.result
low_mean c =
    let v = c.args in
    let upper = c.requires.convertible.0.low in
    let lower = c.requires.convertible.1.low in
    let x = v.width - 1 in
    let here = (spot (goal.at.After-column_mean-p c).After-elements_over-k).inside in
    subst⁻¹ (Low (most v.s.depth)) c.column_mean-p.ensures
    (averaged_low (tiles_block false v.two _ _ x (upper.low x here) (λ e. absurd (true≢false (sym e))) (λ g. lower.low x here) (λ g e. absurd (true≢false (sym e)))))

pub chroma_word-requires-clause-low : goal.chroma_word-requires-clause-low
chroma_word-requires-clause-low c =
    low_mean (goal.at.chroma_word-requires-clause-low c).After-column_mean-p

pub chroma_word-requires-2-clause-low : goal.chroma_word-requires-2-clause-low
chroma_word-requires-2-clause-low c =
    low_mean (goal.at.chroma_word-requires-2-clause-low c).After-column_mean-p

pub returns : goal.returns
returns c =
    let v = c.args in
    let o = v.s.subsampling in
    let h = odd v.width c.if-width-eq0.false in
    let place = spot (goal.at.returns c).After-elements_over-k in
    let k = c.elements_over-k.result in
    let t = row_pixel v.s.channels v.upper.now in
    let u = row_pixel v.s.channels v.lower.now in
    let left : v.width - 1 ≡ left_of o (k / 2) = pair_left v.width h o ∙ sym (ap (λ (n : ℕ). left_of o (n / 2)) place.before_it) in
    let p = found v.s v.w v.width v.two t u (k / 2) left (pair_narrow v.width h o) c.column_mean-p.ensures in
    let half : (k + 1) / 2 ≡ k / 2 = omega (arith, place.even) in
    finished_at (place.before_it ∙ ap (elements_over o) (columns_before v.width h))
    (finished_two k _ _ _ v.chroma.now place.room
    (stored v.s v.w v.width v.two t u k refl p c.chroma_word.ensures)
    (stored v.s v.w v.width v.two t u (k + 1) half p c.chroma_word-2.ensures))
