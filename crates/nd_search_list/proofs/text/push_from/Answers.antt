use Rattle.std.proofs.Common.{arith}
use Rattle.std.proofs.lemmas.Grind.{common_steps}
use Rattle.nd_search_list.proofs.text.push_from.Goals as goal

pub returns-in_err-push-clause-succeeds : goal.returns-in_err-push-clause-succeeds
returns-in_err-push-clause-succeeds g c = absurd (omega (arith, c.in_err-push.ensures.full, c.in_err-push.ensures.ascii_len))

pub returns-in_err-push-2-clause-succeeds : goal.returns-in_err-push-2-clause-succeeds
returns-in_err-push-2-clause-succeeds g c = absurd (grind (arith, common_steps, c.in_err-push-2.ensures.full, c.in_err-push-2.ensures.ascii_len))
