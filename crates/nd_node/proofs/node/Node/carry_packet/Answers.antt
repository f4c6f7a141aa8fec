use Rattle.std.proofs.lemmas.Result.{IfOk-weaker}
use Rattle.nd_addr.specs.Ip6.{packet_parts}
use Rattle.nd_out.specs.Out.{refusal_of}
use Rattle.nd_node.specs.declared.answer.Answer.TheVariants.{Refused}
use Rattle.nd_node.proofs.OutgoingPackets.{carried, carried_refused, not_carried}
use Rattle.nd_node.proofs.Reporting.{answered}
use Rattle.nd_node.proofs.node.Node.carry_packet.Goals as goal

pub returns-in-Some-clause-adds : goal.returns-in-Some-clause-adds
returns-in-Some-clause-adds g c =
    answered c.refuse.result (Refused c.in-Some.refusal) _ (λ adds. not_carried g.R.Rng.stream c.args.self.now c.refuse.new.self c.args.outs.now.items c.refuse.new.outs.items c.args.now
    (packet_parts c.args.packet.now) (refusal_of c.in-Some.refusal) (λ start c' s. c.in-Some.ensures.says start c.args.now c' s) adds)
    c.refuse.ensures.adds c.refuse.ensures.answer

pub returns-clause-adds : goal.returns-clause-adds
returns-clause-adds g c =
    IfOk-weaker c.send_unrefused.result _ _ (λ a adds. carried g.R.Rng.stream c.args.self.now c.send_unrefused.new.self c.args.outs.now.items c.send_unrefused.new.outs.items c.args.now
    (packet_parts c.args.packet.now) (λ start c' s. c.in_default.ensures.says start c.args.now c' s) adds)
    c.send_unrefused.ensures.adds

pub returns-clause-refused : goal.returns-clause-refused
returns-clause-refused g c = λ start c' s le adds place.
    c.send_unrefused.ensures.refused start c' s le
    (carried_refused g.R.Rng.stream c.args.self.now c.args.self.now c.args.outs.now.items c.args.outs.now.items c.args.now (packet_parts c.args.packet.now) start c'
    (c.in_default.ensures.says start c.args.now c' s) adds)
    place
