-- `joined_codes::chroma_words` meets its contract.
use mathlib.Core.Path.{◌≡◌, ◌∙◌}
use lib.IntN.{nat_abs}
use Rattle.rules.specs.Channels.{is_u}
use Rattle.joined_codes.proofs.Words.{below_is, chroma_in_depth, chroma_fits, chroma_holds, not_negative, first_word_lem, second_word_lem, storable}
use Rattle.joined_codes.specs.Sums.{joined_sum}
use Rattle.joined_codes.proofs.chroma_words.Goals as goal
use Rattle.joined_codes.proofs.chroma_words.Goals.{After-sum-v}

-- the sum of the pixel's own samples
summed : (c : After-sum-v) → c.sum-v.result ≡ nat_abs (joined_sum c.args.joined.chroma c.args.p.red c.args.p.green c.args.p.blue)
summed c = c.sum-v.ensures ∙ (λ i. nat_abs (joined_sum c.args.joined.chroma (c.from.ensures i) (c.from-2.ensures i) (c.from-3.ensures i)))

pub sum-v-requires-clause-sum_fits : goal.sum-v-requires-clause-sum_fits
sum-v-requires-clause-sum_fits c =
    let v = c.args in
    let pre = c.requires in
    let u = pre.usable in
    let e = pre.joined_value in
    let low = pre.low in
    rw (c.from.ensures, c.from-2.ensures, c.from-3.ensures) (chroma_fits v.s v.w u v.joined e v.p low)

pub sum-v-requires-clause-t : goal.sum-v-requires-clause-t
sum-v-requires-clause-t c =
    let v = c.args in
    let pre = c.requires in
    let u = pre.usable in
    let e = pre.joined_value in
    let low = pre.low in
    rw (c.from.ensures, c.from-2.ensures, c.from-3.ensures) (not_negative v.s u.reach.deep (chroma_holds v.s v.w u v.joined e v.p low))

pub stored_words-requires : goal.stored_words-requires
stored_words-requires c =
    let v = c.args in
    let pre = c.requires in
    let u = pre.usable in
    let e = pre.joined_value in
    let low = pre.low in
    storable v.s u.reach.deep (chroma_holds v.s v.w u v.joined e v.p low) c.sum-v.result v.joined.below (summed (goal.at.stored_words-requires c).After-sum-v) (below_is v.s v.w u v.joined e)
    (chroma_in_depth v.s v.w u v.joined e v.p low (is_u v.s.order 0)) (chroma_in_depth v.s v.w u v.joined e v.p low (is_u v.s.order 1))

pub returns-clause-first : goal.returns-clause-first
returns-clause-first c =
    let v = c.args in
    let pre = c.requires in
    let u = pre.usable in
    let e = pre.joined_value in
    let h = chroma_holds v.s v.w u v.joined e v.p pre.low in
    let b = below_is v.s v.w u v.joined e in
    c.stored_words.ensures.first ∙ first_word_lem v.s u.reach.deep h c.sum-v.result v.joined.below (summed (goal.at.returns-clause-first c).After-sum-v) b

pub returns-clause-second : goal.returns-clause-second
returns-clause-second c =
    let v = c.args in
    let pre = c.requires in
    let u = pre.usable in
    let e = pre.joined_value in
    let h = chroma_holds v.s v.w u v.joined e v.p pre.low in
    let b = below_is v.s v.w u v.joined e in
    c.stored_words.ensures.second ∙ second_word_lem v.s u.reach.deep h c.sum-v.result v.joined.below (summed (goal.at.returns-clause-second c).After-sum-v) b
