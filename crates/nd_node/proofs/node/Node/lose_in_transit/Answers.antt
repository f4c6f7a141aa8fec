use Rattle.nd_addr.specs.Ip6.{packet_parts}
use Rattle.nd_out.specs.Out.{loss_of}
use Rattle.nd_node.proofs.InTransit.{lost_as_it_came}
use Rattle.nd_node.proofs.node.Node.lose_in_transit.Goals as goal

pub returns-clause-adds : goal.returns-clause-adds
returns-clause-adds g c =
    lost_as_it_came g.R.Rng.stream c.args.self.now c.lose.new.self c.args.outs.now.items c.lose.new.outs.items c.args.now (packet_parts c.args.packet.now)
    (loss_of c.args.why) c.in_ok-frame.frame c.in_ok-frame.ensures c.in_ok-lose.ensures.adds
