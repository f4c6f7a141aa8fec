use Rattle.std.proofs.Common.{refl}
use Rattle.nd_node.proofs.RouterCommands.{configures}
use Rattle.nd_node.proofs.node.Node.advertise.Goals as goal

pub returns-clause-adds : goal.returns-clause-adds
returns-clause-adds g c =
    rw c.advance_to.ensures (configures g.R.Rng.stream c.args.self.now _ c.args.now c.requires.settled c.in-Router.is (record c.args.self.now.router { advertiser = c.begin.new.self }) refl c.args.outs.now.items
    c.args.config c.begin.ensures.stands c.begin.ensures.limit refl)
