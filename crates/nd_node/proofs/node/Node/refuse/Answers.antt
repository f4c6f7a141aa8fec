use Rattle.std.proofs.Common.{refl}
use Rattle.nd_out.specs.Out.{refusal_of}
use Rattle.nd_node.proofs.OutgoingPackets.{refuses}
use Rattle.nd_node.proofs.node.Node.refuse.Goals as goal

pub returns-clause-adds : goal.returns-clause-adds
returns-clause-adds g c =
    refuses g.R.Rng.stream c.args.self.now c.report.new.self c.args.outs.now.items c.report.new.outs.items c.args.now _ c.requires.settled c.in_ok-report.ensures.clock c.in_ok-report.ensures.items (refusal_of c.args.refusal) refl
