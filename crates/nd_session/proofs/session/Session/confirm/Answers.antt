use Rattle.std.proofs.Common.{◌∙◌}
use Rattle.nd_session.proofs.Lasting.{keeps_unless}
use Rattle.nd_session.proofs.Remembered.{remembers_nothing}
use Rattle.nd_session.proofs.session.Session.confirm.Goals as goal

pub invariant_of-self : goal.invariant_of-self
invariant_of-self c = record { remembered = remembers_nothing c.forget_unless.new.self c.confirm-holds.new.self c.forget_unless.ensures.forgotten }

pub returns-clause-leases : goal.returns-clause-leases
returns-clause-leases c = keeps_unless c.confirm-holds.result c.args.self.now _ c.forget_unless.ensures.least c.forget_unless.ensures.grows c.confirm-holds.ensures.leaves

pub returns-clause-stays : goal.returns-clause-stays
returns-clause-stays c = λ outlasted. c.forget_unless.ensures.kept (c.confirm-holds.ensures.value ∙ outlasted)
