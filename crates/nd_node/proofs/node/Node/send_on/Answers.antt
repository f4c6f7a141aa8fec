use Rattle.std.proofs.Common.{refl, sym, ◌≡◌}
use Rattle.std.specs.Prelude.{None, Some, true}
use Rattle.std.proofs.lemmas.Result.{IfOk-weaker}
use Rattle.nd_addr.specs.Ip6.{packet_parts}
use Rattle.nd_addr.specs.Number.{number_of}
use Rattle.nd_node.proofs.InTransit.{onward, sent_alone}
use Rattle.nd_node.proofs.Refusals.{onward_refused, place_refused, room_left}
use Rattle.nd_neighbour.specs.RoomKept.{has_room}
use Rattle.nd_node.proofs.node.Node.send_on.Goals as goal

pub returns-in_ok-frame-in-None-clause-adds : goal.returns-in_ok-frame-in-None-clause-adds
returns-in_ok-frame-in-None-clause-adds g c =
    IfOk-weaker c.send_to.result _ _ (λ a adds. onward g.R.Rng.stream c.args.self.now c.send_to.new.self c.args.outs.now.items c.send_to.new.outs.items c.args.now (packet_parts c.args.packet.now) c.args.bytes.now c.args.own
    (number_of c.args.hop.0) None (λ start c' s mine. c.in-None.ensures start c' (packet_parts c.args.packet.now) s refl mine)
    (sent_alone g.R.Rng.stream c.args.self.now c.send_to.new.self c.args.outs.now.items c.send_to.new.outs.items c.args.now (packet_parts c.args.packet.now) (number_of c.args.hop.0) c.args.bytes.now c.in_ok-frame-in-None.frame c.in_ok-frame-in-None.ensures adds))
    c.send_to.ensures.adds

pub returns-then-not-room-clause-adds : goal.returns-then-not-room-clause-adds
returns-then-not-room-clause-adds g c =
    IfOk-weaker c.refuse_neighbour.result _ _ (λ a adds. onward g.R.Rng.stream c.args.self.now c.refuse_neighbour.new.self c.args.outs.now.items c.refuse_neighbour.new.outs.items c.args.now (packet_parts c.args.packet.now) c.args.bytes.now c.args.own
    (number_of c.args.hop.0) None (λ start c' s mine. c.in-None.ensures start c' (packet_parts c.args.packet.now) s refl mine)
    (sent_alone g.R.Rng.stream c.args.self.now c.refuse_neighbour.new.self c.args.outs.now.items c.refuse_neighbour.new.outs.items c.args.now (packet_parts c.args.packet.now) (number_of c.args.hop.0) c.args.bytes.now _ refl (adds _)))
    c.refuse_neighbour.ensures.adds

pub returns-in-Some-clause-adds : goal.returns-in-Some-clause-adds
returns-in-Some-clause-adds g c =
    IfOk-weaker c.redirect_and_send.result _ _ (λ a. onward g.R.Rng.stream c.args.self.now c.redirect_and_send.new.self c.args.outs.now.items c.redirect_and_send.new.outs.items c.args.now (packet_parts c.args.packet.now) c.args.bytes.now c.args.own
    (number_of c.args.hop.0) (Some c.in-Some.target) (λ start c' s mine. c.in-Some.ensures start c' (packet_parts c.args.packet.now) s refl mine)) c.redirect_and_send.ensures.adds

pub returns-in_err-clone-in-None-clause-refused : goal.returns-in_err-clone-in-None-clause-refused
returns-in_err-clone-in-None-clause-refused g c = λ came start c' s mine adds place.
    let one = onward_refused start c.args.now (packet_parts c.args.packet.now) came c' None (number_of c.args.hop.0) (c.in-None.ensures start c' (packet_parts c.args.packet.now) s refl mine) adds in
    let has : has_room c.args.self.now.neighbours.limit c.args.now (number_of c.args.hop.0) None c.args.self.now.neighbours.entries ≡ true = sym c.if-not-room.ensures.value in
    absurd (room_left g.R.Rng.stream start c.args.self.now c' c.args.now (number_of c.args.hop.0) c.room_is_place.ensures c.full_by_history.ensures s has (place_refused start c.args.now (number_of c.args.hop.0) _ c' one))

pub returns-in_err-frame-in-None-clause-refused : goal.returns-in_err-frame-in-None-clause-refused
returns-in_err-frame-in-None-clause-refused g c = λ came start c' s mine adds place.
    let one = onward_refused start c.args.now (packet_parts c.args.packet.now) came c' None (number_of c.args.hop.0) (c.in-None.ensures start c' (packet_parts c.args.packet.now) s refl mine) adds in
    let has : has_room c.args.self.now.neighbours.limit c.args.now (number_of c.args.hop.0) None c.args.self.now.neighbours.entries ≡ true = sym c.if-not-room.ensures.value in
    absurd (room_left g.R.Rng.stream start c.args.self.now c' c.args.now (number_of c.args.hop.0) c.room_is_place.ensures c.full_by_history.ensures s has (place_refused start c.args.now (number_of c.args.hop.0) _ c' one))

pub returns-in_ok-frame-in-None-clause-refused : goal.returns-in_ok-frame-in-None-clause-refused
returns-in_ok-frame-in-None-clause-refused g c = λ came start c' s mine adds place.
    let one = onward_refused start c.args.now (packet_parts c.args.packet.now) came c' None (number_of c.args.hop.0) (c.in-None.ensures start c' (packet_parts c.args.packet.now) s refl mine) adds in
    let has : has_room c.args.self.now.neighbours.limit c.args.now (number_of c.args.hop.0) None c.args.self.now.neighbours.entries ≡ true = sym c.if-not-room.ensures.value in
    absurd (room_left g.R.Rng.stream start c.args.self.now c' c.args.now (number_of c.args.hop.0) c.room_is_place.ensures c.full_by_history.ensures s has (place_refused start c.args.now (number_of c.args.hop.0) _ c' one))

pub returns-in-Some-clause-refused : goal.returns-in-Some-clause-refused
returns-in-Some-clause-refused g c = λ came start c' s mine adds place.
    c.redirect_and_send.ensures.refused came start c' s
    (onward_refused start c.args.now (packet_parts c.args.packet.now) came c' (Some c.in-Some.target) (number_of c.args.hop.0) (c.in-Some.ensures start c' (packet_parts c.args.packet.now) s refl mine) adds)
    place
