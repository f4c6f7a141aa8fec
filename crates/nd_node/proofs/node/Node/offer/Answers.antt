use Rattle.std.proofs.Common.{refl, ap}
use Rattle.std.specs.Prelude.{is_ok}
use Rattle.nd_node.proofs.RouterCommands.{offers}
use Rattle.nd_node.proofs.node.Node.offer.Goals as goal

pub returns-in-Ok-clause-adds : goal.returns-in-Ok-clause-adds
returns-in-Ok-clause-adds g c =
    rw c.advance_to.ensures (offers g.R.Rng.stream c.args.self.now _ c.args.now c.requires.settled c.in-Router.is (record c.args.self.now.router { advertiser = c.put.new.self }) refl c.args.outs.now.items
    c.args.offer c.put.result c.put.ensures.by_history (ap is_ok c.in-Ok.is) c.in-Ok.ensures.stands c.put.ensures.limit refl)
