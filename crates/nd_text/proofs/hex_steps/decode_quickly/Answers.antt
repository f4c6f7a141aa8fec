use Rattle.std.proofs.Common.{arith}
use Rattle.nd_text.proofs.Spelled.{spelled_is_decoded}
use Rattle.nd_text.proofs.hex_steps.decode_quickly.Goals as goal

pub returns : goal.returns
returns c = λ yes.
    spelled_is_decoded c.args.digits.now c.decode_step-2.new.bytes (omega (arith, c.requires, c.loop-at.invariant.0, c.decode_step-2.ensures.len)) (λ k lt.
    c.decode_step-2.ensures.decoded yes (λ p before. c.loop-at.invariant.1 p (omega arith)) k (omega (arith, c.loop-at.invariant.0, c.decode_step-2.ensures.len)))
