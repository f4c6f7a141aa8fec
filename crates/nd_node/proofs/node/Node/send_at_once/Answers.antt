use Rattle.std.proofs.Common.{refl}
use Rattle.nd_node.proofs.OutgoingPackets.{sends}
use Rattle.nd_node.proofs.node.Node.send_at_once.Goals as goal

pub returns-clause-adds : goal.returns-clause-adds
returns-clause-adds g c =
    sends g.R.Rng.stream c.args.self.now c.report.new.self c.args.outs.now.items c.report.new.outs.items c.args.now _ c.requires.settled c.in_ok-report.ensures.clock c.in_ok-report.ensures.items c.args.packet refl
