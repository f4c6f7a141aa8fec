use Rattle.std.proofs.Common.{◌≡◌, ◌∙◌, ap}
use Rattle.std.proofs.lemmas.Result.{IfOk-weaker}
use Rattle.nd_addr.specs.Ip6.{packet_parts}
use Rattle.nd_out.specs.Out.{refusal_of}
use Rattle.nd_steps.specs.Packets.{packet_with}
use Rattle.nd_node.specs.declared.answer.Answer.TheVariants.{Refused}
use Rattle.nd_node.proofs.OutgoingPackets.{not_sent, sent, sent_refused}
use Rattle.nd_node.proofs.Reporting.{answered}
use Rattle.nd_node.proofs.node.Node.send_packet.Goals as goal

pub returns-in-Some-clause-adds : goal.returns-in-Some-clause-adds
returns-in-Some-clause-adds g c =
    answered c.refuse.result (Refused c.in-Some.refusal) _ (λ adds. not_sent g.R.Rng.stream c.args.self.now c.refuse.new.self c.args.outs.now.items c.refuse.new.outs.items c.args.now
    c.args.packet.now.source c.args.packet.now.destination c.args.packet.now.next_header c.args.packet.now.payload.now
    (refusal_of c.in-Some.refusal) (λ start c' s. c.in-Some.ensures.says start c.args.now c' s) adds)
    c.refuse.ensures.adds c.refuse.ensures.answer

pub returns-clause-adds : goal.returns-clause-adds
returns-clause-adds g c =
    let packet = c.args.packet.now in
    let is : packet_parts c.with_header-whole.result ≡ packet_with c.args.self.now.params.hop_limit packet.source packet.destination packet.next_header packet.payload.now =
    c.with_header-whole.ensures ∙ ap (λ n. packet_with n packet.source packet.destination packet.next_header packet.payload.now) c.hop_limit.ensures.value in
    IfOk-weaker c.send_unrefused.result _ _ (λ a adds. sent g.R.Rng.stream c.args.self.now c.send_unrefused.new.self c.args.outs.now.items c.send_unrefused.new.outs.items c.args.now
    packet.source packet.destination packet.next_header packet.payload.now (packet_parts c.with_header-whole.result) is (λ start c' s. c.in_default.ensures.says start c.args.now c' s) adds)
    c.send_unrefused.ensures.adds

pub returns-clause-refused : goal.returns-clause-refused
returns-clause-refused g c = λ start c' s le adds place.
    let packet = c.args.packet.now in
    let is : packet_parts c.with_header-whole.result ≡ packet_with c.args.self.now.params.hop_limit packet.source packet.destination packet.next_header packet.payload.now =
    c.with_header-whole.ensures ∙ ap (λ n. packet_with n packet.source packet.destination packet.next_header packet.payload.now) c.hop_limit.ensures.value in
    c.send_unrefused.ensures.refused start c' s le
    (sent_refused g.R.Rng.stream c.args.self.now c.args.self.now c.args.outs.now.items c.args.outs.now.items c.args.now packet.source packet.destination packet.next_header packet.payload.now
    (packet_parts c.with_header-whole.result) is start c' s (c.in_default.ensures.says start c.args.now c' s) adds)
    place
