-- `joined_codes::luma_words` meets its contract.
use mathlib.Core.Path.{◌≡◌, ◌∙◌}
use lib.IntN.{nat_abs}
use Rattle.joined_codes.specs.Sums.{joined_samples, joined_sum}
use Rattle.joined_codes.proofs.Words.{below_is, luma_in_depth, luma_fits, luma_holds, not_negative, first_word_lem, second_word_lem, storable}
use Rattle.joined_codes.proofs.luma_words.Goals as goal
use Rattle.joined_codes.proofs.luma_words.Goals.{After-sum-v}

pub sum-v-requires-clause-sum_fits : goal.sum-v-requires-clause-sum_fits
sum-v-requires-clause-sum_fits c =
    let v = c.args in
    let pre = c.requires in
    let u = pre.usable in
    let e = pre.joined_value in
    let one = c.join_samples in
    let two = c.join_samples-2 in
    let three = c.join_samples-3 in
    let h = luma_holds v.s v.w u v.joined e v.p v.q pre.low.0 pre.low.1 in rw one.ensures.0 (rw two.ensures.0 (rw three.ensures.0 (luma_fits v.s v.w u v.joined e v.p v.q pre.low.0 pre.low.1)))

pub sum-v-requires-clause-t : goal.sum-v-requires-clause-t
sum-v-requires-clause-t c =
    let v = c.args in
    let pre = c.requires in
    let u = pre.usable in
    let e = pre.joined_value in
    let one = c.join_samples in
    let two = c.join_samples-2 in
    let three = c.join_samples-3 in
    let h = luma_holds v.s v.w u v.joined e v.p v.q pre.low.0 pre.low.1 in rw one.ensures.0 (rw two.ensures.0 (rw three.ensures.0 (not_negative v.s u.reach.deep h)))

-- the sum that was worked out
total : (c : After-sum-v)
    → let v = c.args in c.sum-v.result ≡ nat_abs (joined_sum v.joined.luma (joined_samples v.p.red v.q.red) (joined_samples v.p.green v.q.green) (joined_samples v.p.blue v.q.blue))
total c =
    let v = c.args in
    c.sum-v.ensures ∙ (λ i. nat_abs (joined_sum v.joined.luma (c.join_samples.ensures.0 i) (c.join_samples-2.ensures.0 i) (c.join_samples-3.ensures.0 i)))

pub stored_words-requires : goal.stored_words-requires
stored_words-requires c =
    let v = c.args in
    let pre = c.requires in
    let u = pre.usable in
    let e = pre.joined_value in
    let h = luma_holds v.s v.w u v.joined e v.p v.q pre.low.0 pre.low.1 in
    storable v.s u.reach.deep h c.sum-v.result v.joined.below (total (goal.at.stored_words-requires c).After-sum-v) (below_is v.s v.w u v.joined e)
    (luma_in_depth v.s v.w u v.joined e v.p pre.low.0) (luma_in_depth v.s v.w u v.joined e v.q pre.low.1)

pub returns-clause-first : goal.returns-clause-first
returns-clause-first c =
    let v = c.args in
    let pre = c.requires in
    let u = pre.usable in
    let e = pre.joined_value in
    let h = luma_holds v.s v.w u v.joined e v.p v.q pre.low.0 pre.low.1 in
    let b = below_is v.s v.w u v.joined e in c.stored_words.ensures.first ∙ first_word_lem v.s u.reach.deep h c.sum-v.result v.joined.below (total (goal.at.returns-clause-first c).After-sum-v) b

pub returns-clause-second : goal.returns-clause-second
returns-clause-second c =
    let v = c.args in
    let pre = c.requires in
    let u = pre.usable in
    let e = pre.joined_value in
    let h = luma_holds v.s v.w u v.joined e v.p v.q pre.low.0 pre.low.1 in
    let b = below_is v.s v.w u v.joined e in c.stored_words.ensures.second ∙ second_word_lem v.s u.reach.deep h c.sum-v.result v.joined.below (total (goal.at.returns-clause-second c).After-sum-v) b
