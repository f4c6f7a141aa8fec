use Rattle.hex.specs.Hex.{is_hex_digit}
use Rattle.nd_text.proofs.Passed.{parts_pass}
use Rattle.nd_text.proofs.hex_digits.are_digits.Goals as goal

pub loop-rest-preserved : goal.loop-rest-preserved
loop-rest-preserved c =
    let parts = parts_pass is_hex_digit c.loop-rest.rest.now c.split_at.result.0.now c.split_at.result.1.now c.split_at.ensures.by_index.0 in
    let step = c.step_is_digits.ensures.0 c.if-not-step_is_digits.false in
    (λ h. (parts.0 (c.loop-rest.invariant.0 h)).1, λ h. c.loop-rest.invariant.1 (parts.1 (step, h)))
