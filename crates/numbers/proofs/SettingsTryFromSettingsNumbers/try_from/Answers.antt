-- Settings from numbers: the conversion meets its contract.
use Rattle.std.proofs.Common.{sym, ◌∙◌, Ok}
use Rattle.numbers.specs.Numbers.{matrix_of, range_of, subsampling_of, order_of, packing_of, endianness_of, channels_of, named, settings_of}
use Rattle.numbers.proofs.Cases.{only_error, past_last, up_to_last, none}
use Rattle.numbers.proofs.SettingsTryFromSettingsNumbers.try_from.Goals as goal

pub returns-in_err-matrix_of : goal.returns-in_err-matrix_of
unfolding named
returns-in_err-matrix_of c =
    let n = c.args.n in
    only_error _ c.from_residual.ensures.0
    ∙ sym (none n
    (rw (past_last 5 n.matrix (matrix_of n.matrix n.kr n.kb) c.matrix_of.ensures c.in_err-matrix_of.was)))

pub returns-in_err-range_of : goal.returns-in_err-range_of
unfolding named
returns-in_err-range_of c =
    let n = c.args.n in
    only_error _ c.from_residual-in_err-range_of.ensures.0
    ∙ sym (none n
    (rw (
      (up_to_last 5 n.matrix (matrix_of n.matrix n.kr n.kb) c.matrix_of.ensures c.in_ok-matrix_of.was).0,
      past_last 1 n.range (range_of n.range) c.range_of.ensures c.in_err-range_of.was,
    )))

pub returns-in_err-subsampling_of : goal.returns-in_err-subsampling_of
unfolding named
returns-in_err-subsampling_of c =
    let n = c.args.n in
    only_error _ c.from_residual-in_err-subsampling_of.ensures.0
    ∙ sym (none n
    (rw (
      (up_to_last 5 n.matrix (matrix_of n.matrix n.kr n.kb) c.matrix_of.ensures c.in_ok-matrix_of.was).0,
      (up_to_last 1 n.range (range_of n.range) c.range_of.ensures c.in_ok-range_of.was).0,
      past_last 2 n.subsampling (subsampling_of n.subsampling) c.subsampling_of.ensures c.in_err-subsampling_of.was,
    )))

pub returns-in_err-order_of : goal.returns-in_err-order_of
unfolding named
returns-in_err-order_of c =
    let n = c.args.n in
    only_error _ c.from_residual-in_err-order_of.ensures.0
    ∙ sym (none n
    (rw (
      (up_to_last 5 n.matrix (matrix_of n.matrix n.kr n.kb) c.matrix_of.ensures c.in_ok-matrix_of.was).0,
      (up_to_last 1 n.range (range_of n.range) c.range_of.ensures c.in_ok-range_of.was).0,
      (up_to_last 2 n.subsampling (subsampling_of n.subsampling) c.subsampling_of.ensures c.in_ok-subsampling_of.was).0,
      past_last 1 n.order (order_of n.order) c.order_of.ensures c.in_err-order_of.was,
    )))

pub returns-in_err-packing_of : goal.returns-in_err-packing_of
unfolding named
returns-in_err-packing_of c =
    let n = c.args.n in
    only_error _ c.from_residual-in_err-packing_of.ensures.0
    ∙ sym (none n
    (rw (
      (up_to_last 5 n.matrix (matrix_of n.matrix n.kr n.kb) c.matrix_of.ensures c.in_ok-matrix_of.was).0,
      (up_to_last 1 n.range (range_of n.range) c.range_of.ensures c.in_ok-range_of.was).0,
      (up_to_last 2 n.subsampling (subsampling_of n.subsampling) c.subsampling_of.ensures c.in_ok-subsampling_of.was).0,
      (up_to_last 1 n.order (order_of n.order) c.order_of.ensures c.in_ok-order_of.was).0,
      past_last 1 n.packing (packing_of n.packing) c.packing_of.ensures c.in_err-packing_of.was,
    )))

pub returns-in_err-endianness_of : goal.returns-in_err-endianness_of
unfolding named
returns-in_err-endianness_of c =
    let n = c.args.n in
    only_error _ c.from_residual-in_err-endianness_of.ensures.0
    ∙ sym (none n
    (rw (
      (up_to_last 5 n.matrix (matrix_of n.matrix n.kr n.kb) c.matrix_of.ensures c.in_ok-matrix_of.was).0,
      (up_to_last 1 n.range (range_of n.range) c.range_of.ensures c.in_ok-range_of.was).0,
      (up_to_last 2 n.subsampling (subsampling_of n.subsampling) c.subsampling_of.ensures c.in_ok-subsampling_of.was).0,
      (up_to_last 1 n.order (order_of n.order) c.order_of.ensures c.in_ok-order_of.was).0,
      (up_to_last 1 n.packing (packing_of n.packing) c.packing_of.ensures c.in_ok-packing_of.was).0,
      past_last 1 n.byte_order (endianness_of n.byte_order) c.endianness_of.ensures c.in_err-endianness_of.was,
    )))

pub returns-in_err-channels_of : goal.returns-in_err-channels_of
unfolding named
returns-in_err-channels_of c =
    let n = c.args.n in
    only_error _ c.from_residual-in_err-channels_of.ensures.0
    ∙ sym (none n
    (rw (
      (up_to_last 5 n.matrix (matrix_of n.matrix n.kr n.kb) c.matrix_of.ensures c.in_ok-matrix_of.was).0,
      (up_to_last 1 n.range (range_of n.range) c.range_of.ensures c.in_ok-range_of.was).0,
      (up_to_last 2 n.subsampling (subsampling_of n.subsampling) c.subsampling_of.ensures c.in_ok-subsampling_of.was).0,
      (up_to_last 1 n.order (order_of n.order) c.order_of.ensures c.in_ok-order_of.was).0,
      (up_to_last 1 n.packing (packing_of n.packing) c.packing_of.ensures c.in_ok-packing_of.was).0,
      (up_to_last 1 n.byte_order (endianness_of n.byte_order) c.endianness_of.ensures c.in_ok-endianness_of.was).0,
      past_last 3 n.channels (channels_of n.channels) c.channels_of.ensures c.in_err-channels_of.was,
    )))

pub returns : goal.returns
unfolding named settings_of
returns c =
    let n = c.args.n in
    let e0 = up_to_last 5 n.matrix (matrix_of n.matrix n.kr n.kb) c.matrix_of.ensures c.in_ok-matrix_of.was in
    let e1 = up_to_last 1 n.range (range_of n.range) c.range_of.ensures c.in_ok-range_of.was in
    let e2 = up_to_last 2 n.subsampling (subsampling_of n.subsampling) c.subsampling_of.ensures c.in_ok-subsampling_of.was in
    let e3 = up_to_last 1 n.order (order_of n.order) c.order_of.ensures c.in_ok-order_of.was in
    let e4 = up_to_last 1 n.packing (packing_of n.packing) c.packing_of.ensures c.in_ok-packing_of.was in
    let e5 = up_to_last 1 n.byte_order (endianness_of n.byte_order) c.endianness_of.ensures c.in_ok-endianness_of.was in
    let e6 = up_to_last 3 n.channels (channels_of n.channels) c.channels_of.ensures c.in_ok-channels_of.was in
    (λ i. Ok (c.new.ensures i))
    ∙ rw (e0.0, e1.0, e2.0, e3.0, e4.0, e5.0, e6.0)
    (sym (λ i. Ok record {
      depth = n.depth;
      precision = n.precision;
      matrix = e0.1 i;
      range = e1.1 i;
      subsampling = e2.1 i;
      order = e3.1 i;
      packing = e4.1 i;
      endianness = e5.1 i;
      channels = e6.1 i;
    }))
