use Rattle.std.proofs.Common.{sym, ◌∙◌}
use Rattle.nd_addr.specs.Ip6.{packet_parts}
use Rattle.nd_node.proofs.OutgoingPackets.{goes_to_all}
use Rattle.nd_node.proofs.Refusals.{to_destination}
use Rattle.nd_node.specs.declared.answer.Answer.TheVariants.{Done}
use Rattle.nd_node.proofs.Reporting.{answered}
use Rattle.nd_node.proofs.node.Node.send_directly.Goals as goal

pub returns-then-is_multicast-clause-adds : goal.returns-then-is_multicast-clause-adds
returns-then-is_multicast-clause-adds g c =
    answered c.send_at_once.result Done _ (λ adds. goes_to_all g.R.Rng.stream c.args.self.now c.send_at_once.new.self c.args.outs.now.items c.send_at_once.new.outs.items c.args.now
    (packet_parts c.args.packet.now) c.multicast-to.result c.in_ok-frame.frame c.in_ok-frame.ensures c.multicast-to.ensures (sym c.is_multicast.ensures.exactly ∙ c.if-is_multicast.true) adds)
    c.send_at_once.ensures.adds c.send_at_once.ensures.answer

pub returns-clause-refused : goal.returns-clause-refused
returns-clause-refused g c = λ start c' s adds place.
    c.send_to_neighbour.ensures.refused _ start c' s (to_destination start c.args.now (packet_parts c.args.packet.now) c' (sym c.is_multicast.ensures.exactly ∙ c.if-is_multicast.false) adds) place
