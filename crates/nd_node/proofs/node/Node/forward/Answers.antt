use Rattle.std.proofs.Common.{arith, sym, refl, ◌∷◌}
use Rattle.std.proofs.lemmas.Result.{IfOk-weaker}
use Rattle.nd_addr.specs.Ip6.{packet_parts}
use Rattle.nd_addr.specs.Number.{number_of}
use Rattle.nd_chronicle.specs.Event.{packet_bytes}
use Rattle.nd_chronicle.specs.Histories.{address_history, route_history}
use Rattle.nd_nexthop.specs.NextHop.{direct, via}
use Rattle.nd_forwarding.specs.Forward.{lost_no_route, lost_hop_limit, sent}
use Rattle.nd_node.proofs.InTransit.{bytes_are, forwarded, goes_on_to, no_route, short_payload, spent}
use Rattle.nd_chronicle.specs.Happening.{Passed}
use Rattle.nd_chronicle.specs.OwnAddress.{is_own}
use Rattle.nd_node.proofs.Refusals.{fate_refused, not_refused}
use Rattle.nd_node.specs.declared.answer.Answer.TheVariants.{Done}
use Rattle.nd_node.proofs.Reporting.{answered}
use Rattle.nd_node.proofs.node.Node.forward.Goals as goal

pub lose_in_transit-requires-clause-short : goal.lose_in_transit-requires-clause-short
lose_in_transit-requires-clause-short g c = short_payload c.args.frame.now (packet_parts c.args.packet.now) c.requires.by_frame.2 (λ i. omega (arith, c.type_inv.frame i))

pub lose_in_transit-requires-in-HopLimit-clause-short : goal.lose_in_transit-requires-in-HopLimit-clause-short
lose_in_transit-requires-in-HopLimit-clause-short g c = short_payload c.args.frame.now (packet_parts c.args.packet.now) c.requires.by_frame.2 (λ i. omega (arith, c.type_inv.frame i))

pub send_on-requires-clause-short : goal.send_on-requires-clause-short
send_on-requires-clause-short g c = short_payload c.args.frame.now (packet_parts c.args.packet.now) c.requires.by_frame.2 (λ i. omega (arith, c.type_inv.frame i))

pub send_on-requires-in-Via-clause-short : goal.send_on-requires-in-Via-clause-short
send_on-requires-in-Via-clause-short g c = short_payload c.args.frame.now (packet_parts c.args.packet.now) c.requires.by_frame.2 (λ i. omega (arith, c.type_inv.frame i))

pub returns-in-NoRoute-clause-adds : goal.returns-in-NoRoute-clause-adds
returns-in-NoRoute-clause-adds g c =
    answered c.lose_in_transit.result Done _ (λ adds. forwarded g.R.Rng.stream c.args.self.now c.lose_in_transit.new.self c.args.outs.now.items c.lose_in_transit.new.outs.items c.args.now (packet_parts c.args.packet.now) (packet_bytes c.args.frame.now) c.counts-own.result
    lost_no_route c.in-NoRoute.ensures.by_history (λ start c' s. sym (c.counts-own.ensures.by_history (address_history c') s.addresses))
    (no_route g.R.Rng.stream c.args.self.now c.lose_in_transit.new.self c.args.outs.now.items c.lose_in_transit.new.outs.items c.args.now (packet_parts c.args.packet.now) (packet_bytes c.args.frame.now) c.counts-own.result adds))
    c.lose_in_transit.ensures.adds c.lose_in_transit.ensures.answer

pub returns-in-HopLimit-clause-adds : goal.returns-in-HopLimit-clause-adds
returns-in-HopLimit-clause-adds g c =
    answered c.lose_in_transit-in-HopLimit.result Done _ (λ adds. forwarded g.R.Rng.stream c.args.self.now c.lose_in_transit-in-HopLimit.new.self c.args.outs.now.items c.lose_in_transit-in-HopLimit.new.outs.items c.args.now (packet_parts c.args.packet.now) (packet_bytes c.args.frame.now) c.counts-own.result
    lost_hop_limit c.in-HopLimit.ensures.by_history (λ start c' s. sym (c.counts-own.ensures.by_history (address_history c') s.addresses))
    (spent g.R.Rng.stream c.args.self.now c.lose_in_transit-in-HopLimit.new.self c.args.outs.now.items c.lose_in_transit-in-HopLimit.new.outs.items c.args.now (packet_parts c.args.packet.now) (packet_bytes c.args.frame.now) c.counts-own.result adds))
    c.lose_in_transit-in-HopLimit.ensures.adds c.lose_in_transit-in-HopLimit.ensures.answer

pub returns-in-Direct-clause-adds : goal.returns-in-Direct-clause-adds
returns-in-Direct-clause-adds g c =
    IfOk-weaker c.send_on.result _ _ (λ a adds. forwarded g.R.Rng.stream c.args.self.now c.send_on.new.self c.args.outs.now.items c.send_on.new.outs.items c.args.now (packet_parts c.args.packet.now) (packet_bytes c.args.frame.now) c.counts-own.result
    (sent direct) c.in-Direct.ensures.by_history (λ start c' s. sym (c.counts-own.ensures.by_history (address_history c') s.addresses))
    (goes_on_to g.R.Rng.stream c.args.self.now c.send_on.new.self c.args.outs.now.items c.send_on.new.outs.items c.args.now (packet_parts c.args.packet.now) (packet_bytes c.args.frame.now) c.counts-own.result
    direct c.packet_in-bytes.result.now (bytes_are c.args.frame.now c.packet_in-bytes.result.now (packet_parts c.args.packet.now) c.requires.by_frame.2 c.packet_in-bytes.ensures) adds))
    c.send_on.ensures.adds

pub returns-in-Via-clause-adds : goal.returns-in-Via-clause-adds
returns-in-Via-clause-adds g c =
    IfOk-weaker c.send_on-in-Via.result _ _ (λ a adds. forwarded g.R.Rng.stream c.args.self.now c.send_on-in-Via.new.self c.args.outs.now.items c.send_on-in-Via.new.outs.items c.args.now (packet_parts c.args.packet.now) (packet_bytes c.args.frame.now) c.counts-own.result
    (sent (via (number_of c.in-Via.router.0))) c.in-Via.ensures.by_history (λ start c' s. sym (c.counts-own.ensures.by_history (address_history c') s.addresses))
    (goes_on_to g.R.Rng.stream c.args.self.now c.send_on-in-Via.new.self c.args.outs.now.items c.send_on-in-Via.new.outs.items c.args.now (packet_parts c.args.packet.now) (packet_bytes c.args.frame.now) c.counts-own.result
    (via (number_of c.in-Via.router.0)) c.packet_in-bytes.result.now (bytes_are c.args.frame.now c.packet_in-bytes.result.now (packet_parts c.args.packet.now) c.requires.by_frame.2 c.packet_in-bytes.ensures) adds))
    c.send_on-in-Via.ensures.adds

pub returns-in-NoRoute-clause-refused : goal.returns-in-NoRoute-clause-refused
returns-in-NoRoute-clause-refused g c = λ came start c' s adds place.
    let mine = sym (c.counts-own.ensures.by_history (address_history c') s.addresses) in
    let fated = fate_refused start c.args.now (packet_parts c.args.packet.now) came c' lost_no_route (c.in-NoRoute.ensures.by_history (is_own c') mine (route_history c') s.router.routes) adds in
    absurd (not_refused c.args.now fated.0 ((c.args.now, Passed) ∷ c') _ refl fated.1)

pub returns-in-HopLimit-clause-refused : goal.returns-in-HopLimit-clause-refused
returns-in-HopLimit-clause-refused g c = λ came start c' s adds place.
    let mine = sym (c.counts-own.ensures.by_history (address_history c') s.addresses) in
    let fated = fate_refused start c.args.now (packet_parts c.args.packet.now) came c' lost_hop_limit (c.in-HopLimit.ensures.by_history (is_own c') mine (route_history c') s.router.routes) adds in
    absurd (not_refused c.args.now fated.0 ((c.args.now, Passed) ∷ c') _ refl fated.1)

pub returns-in-Direct-clause-refused : goal.returns-in-Direct-clause-refused
returns-in-Direct-clause-refused g c = λ came start c' s adds place.
    let mine = sym (c.counts-own.ensures.by_history (address_history c') s.addresses) in
    let fated = fate_refused start c.args.now (packet_parts c.args.packet.now) came c' (sent direct) (c.in-Direct.ensures.by_history (is_own c') mine (route_history c') s.router.routes) adds in
    c.send_on.ensures.refused came start c' s mine fated place

pub returns-in-Via-clause-refused : goal.returns-in-Via-clause-refused
returns-in-Via-clause-refused g c = λ came start c' s adds place.
    let mine = sym (c.counts-own.ensures.by_history (address_history c') s.addresses) in
    let fated = fate_refused start c.args.now (packet_parts c.args.packet.now) came c' (sent (via (number_of c.in-Via.router.0))) (c.in-Via.ensures.by_history (is_own c') mine (route_history c') s.router.routes) adds in
    c.send_on-in-Via.ensures.refused came start c' s mine fated place
