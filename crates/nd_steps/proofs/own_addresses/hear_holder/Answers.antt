use Rattle.std.proofs.Common.{refl}
use Rattle.nd_addr.specs.Number.{number_of}
use Rattle.nd_steps.proofs.Advertisements.{conflicts_now}
use Rattle.nd_steps.proofs.own_addresses.hear_holder.Goals as goal

pub returns-then-hear_conflict-clause-conflicts : goal.returns-then-hear_conflict-clause-conflicts
returns-then-hear_conflict-clause-conflicts g c =
    conflicts_now c.args.now (number_of c.args.target.0) c.args.addresses.now.addresses c.hear_conflict.new.addresses.addresses c.args.outs.now.items c.push_reserved.new.self.items _ c.hear_conflict.result
    c.if-hear_conflict.true c.hear_conflict.ensures.tentative (c.hear_conflict.ensures.gains c.if-hear_conflict.true c.args.now) c.push_reserved.ensures.items refl
