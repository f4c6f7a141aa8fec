use Rattle.std.proofs.Common.{arith}
use Rattle.nd_message.specs.Owned.{said, whole_of}
use Rattle.nd_message.proofs.Formed.{formed, fits_of}
use Rattle.nd_message.proofs.Looping.{next_fits, next_behind, next_left, piece_short, over, fits_none, whole_length}
use Rattle.nd_message.proofs.length.written_length.Goals as goal

pub overflow_add-length : goal.overflow_add-length
overflow_add-length g c =
    let small = piece_short (said c.option-item.result) c.in_ok-more.more c.in_ok-more.ensures.0 c.in_ok-more.ensures.1 in
    let before = c.loop-option.invariant.0 in
    omega (arith, small, before)

pub loop-option-preserved : goal.loop-option-preserved
loop-option-preserved g c =
    let items = c.args.options.now in
    let len = c.loop-option.length in
    let more = c.in_ok-more.more in
    let at = c.loop-option.option-index in
    let behind = next_behind len more items at c.option-item.result c.loop-option-test.true c.option-item.is c.in_ok-more.ensures.0 c.in_ok-more.ensures.1 in (
      c.if-length-gt-LONGEST_PAYLOAD.false,
      (λ h. c.loop-option.invariant.1.0 (behind.0 h), λ h. behind.1 (c.loop-option.invariant.1.1 h)),
      c.loop-option.invariant.2,
      next_left len more _ items at c.option-item.result c.loop-option-test.true c.option-item.is c.in_ok-more.ensures.1 c.loop-option.invariant.3,
    )

pub returns-in_err-length-clause-len : goal.returns-in_err-length-clause-len
returns-in_err-length-clause-len g c = rw c.from_residual.ensures (λ w. c.in_err-length.ensures (fits_of (whole_of c.args.body.now c.args.options.now) w).body)

pub returns-in_err-more-clause-len : goal.returns-in_err-more-clause-len
returns-in_err-more-clause-len g c = rw c.from_residual-in_err-more.ensures (
    λ w.
    let behind = c.loop-option.invariant.1.1 (fits_of (whole_of c.args.body.now c.args.options.now) w).behind in
    let at = next_fits c.loop-option.length c.args.options.now c.loop-option.option-index c.option-item.result c.loop-option-test.true c.option-item.is behind in
    c.in_err-more.ensures at.each.0)

pub returns-then-length-gt-LONGEST_PAYLOAD-clause-len : goal.returns-then-length-gt-LONGEST_PAYLOAD-clause-len
returns-then-length-gt-LONGEST_PAYLOAD-clause-len g c = λ w.
    let behind = c.loop-option.invariant.1.1 (fits_of (whole_of c.args.body.now c.args.options.now) w).behind in
    let at = next_fits c.loop-option.length c.args.options.now c.loop-option.option-index c.option-item.result c.loop-option-test.true c.option-item.is behind in
    over c.loop-option.length c.in_ok-more.more _ _ at c.in_ok-more.ensures.1 c.if-length-gt-LONGEST_PAYLOAD.true

pub returns-clause-len : goal.returns-clause-len
returns-clause-len g c =
    let items = c.args.options.now in
    let end = c.loop-option-test.false in
    let none = fits_none c.loop-option.length items c.loop-option.option-index end c.loop-option.invariant.0 in (
      formed (whole_of c.args.body.now items) c.loop-option.invariant.2 (c.loop-option.invariant.1.0 none),
      whole_length c.loop-option.length c.args.body.now items c.loop-option.option-index end c.loop-option.invariant.3,
    )
