use Rattle.std.proofs.Common.{refl}
use Rattle.std.proofs.lemmas.Result.{IfOk-weaker}
use Rattle.nd_addr.specs.Ip6.{packet_parts}
use Rattle.nd_nexthop.specs.NextHopKept.{hop_of}
use Rattle.nd_node.proofs.OutgoingPackets.{hop_later, goes_to_hop}
use Rattle.nd_node.proofs.Refusals.{to_hop}
use Rattle.nd_node.proofs.node.Node.send_unrefused.Goals as goal

pub returns-clause-adds : goal.returns-clause-adds
returns-clause-adds g c =
    IfOk-weaker c.send_by_hop.result _ _ (λ a adds. goes_to_hop g.R.Rng.stream c.args.self.now c.send_by_hop.new.self c.args.outs.now.items c.send_by_hop.new.outs.items c.args.now
    (packet_parts c.args.packet.now) c.hop_of_packet-hop.new.self (hop_of c.hop_of_packet-hop.result) c.hop_of_packet-hop.ensures.stands c.hop_of_packet-hop.ensures.next adds)
    c.send_by_hop.ensures.adds

pub returns-clause-refused : goal.returns-clause-refused
returns-clause-refused g c = λ start c' s le adds place.
    let hop = hop_of c.hop_of_packet-hop.result in
    let packet = packet_parts c.args.packet.now in
    c.send_by_hop.ensures.refused start c' (c.hop_of_packet-hop.ensures.stands start c' s)
    (to_hop start c.args.now packet c' hop (hop_later start start.role c' c.args.now packet.header.destination hop (c.hop_of_packet-hop.ensures.next start c' s le)) adds)
    place
