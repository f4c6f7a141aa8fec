use Rattle.std.proofs.Common.{arith}
use Rattle.nd_text.proofs.DigitLemmas.{after_digits}
use Rattle.nd_text.proofs.digits.push_group.Goals as goal

pub returns : goal.returns
returns g c =
    after_digits c.args.group _ _ _ _ _ (omega arith) c.in_ok-push_digit_at.ensures c.in_ok-push_digit_at-2.ensures c.in_ok-push_digit_at-3.ensures c.in_ok-push_digit.ensures
