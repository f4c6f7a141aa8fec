use Rattle.std.proofs.Common.{refl}
use Rattle.nd_session.proofs.Idling.{time_alone}
use Rattle.nd_session.proofs.Lasting.{keeps_alone}
use Rattle.nd_session.proofs.Remembered.{remembers_later}
use Rattle.nd_session.proofs.session.Session.pass.Goals as goal

pub invariant_of-self : goal.invariant_of-self
invariant_of-self c = record {
  remembered = remembers_later c.args.self.now.paths c.args.self.now.node c.pass.new.self c.pass.new.self.last
      (time_alone c.args.self.now.node c.pass.new.self c.args.now c.pass.ensures.moves c.pass.ensures.past) c.args.self.now.remembered;
}

pub returns-clause-leases : goal.returns-clause-leases
returns-clause-leases c =
    keeps_alone c.args.self.now _ c.pass.new.self.last refl (time_alone c.args.self.now.node c.pass.new.self c.args.now c.pass.ensures.moves c.pass.ensures.past)
