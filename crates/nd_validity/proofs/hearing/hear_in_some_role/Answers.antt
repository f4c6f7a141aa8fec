use Rattle.std.proofs.Common.{subst, sym, ◌∙◌}
use Rattle.nd_validity.specs.Hearing.{Outcome, HearsInSomeRole}
use Rattle.nd_validity.proofs.Deciding.{hears_in_some_role, hears_one_in_some_role}
use Rattle.nd_validity.proofs.hearing.hear_in_some_role.Goals as goal

pub returns-clause-heard : goal.returns-clause-heard
returns-clause-heard c = subst (λ (o : Outcome). HearsInSomeRole c.args.frame.now o) (sym c.hear_exactly.ensures) (hears_in_some_role c.args.frame.now)

pub returns-clause-only : goal.returns-clause-only
returns-clause-only c = λ o h. c.hear_exactly.ensures ∙ hears_one_in_some_role c.args.frame.now o h
