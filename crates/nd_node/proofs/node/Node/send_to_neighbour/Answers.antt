use Rattle.std.proofs.Common.{sym, ◌≡◌}
use Rattle.std.proofs.lemmas.Result.{IfOk-weaker}
use Rattle.nd_compose.specs.Frames.{open_mac}
use Rattle.nd_addr.specs.Frame.{written_frame}
use Rattle.nd_node.proofs.Refusals.{place_refused, room_left}
use Rattle.nd_addr.specs.Number.{number_of}
use Rattle.std.specs.Prelude.{None, true}
use Rattle.nd_neighbour.specs.RoomKept.{has_room}
use Rattle.nd_node.proofs.node.Node.send_to_neighbour.Goals as goal

pub returns-then-not-room-clause-adds : goal.returns-then-not-room-clause-adds
returns-then-not-room-clause-adds g c = IfOk-weaker c.refuse_neighbour.result _ _ (λ a adds. adds (written_frame open_mac c.args.self.now.mac c.args.packet.now.header c.args.packet.now.payload.now)) c.refuse_neighbour.ensures.adds

pub returns-in_err-clone-clause-refused : goal.returns-in_err-clone-clause-refused
returns-in_err-clone-clause-refused g c = λ frame start c' s adds place.
    let has : has_room c.args.self.now.neighbours.limit c.args.now (number_of c.args.to.0) None c.args.self.now.neighbours.entries ≡ true = sym c.if-not-room.ensures.value in
    absurd (room_left g.R.Rng.stream start c.args.self.now c' c.args.now (number_of c.args.to.0) c.room_is_place.ensures c.full_by_history.ensures s has (place_refused start c.args.now (number_of c.args.to.0) frame c' adds))

pub returns-in_err-frame-clause-refused : goal.returns-in_err-frame-clause-refused
returns-in_err-frame-clause-refused g c = λ frame start c' s adds place.
    let has : has_room c.args.self.now.neighbours.limit c.args.now (number_of c.args.to.0) None c.args.self.now.neighbours.entries ≡ true = sym c.if-not-room.ensures.value in
    absurd (room_left g.R.Rng.stream start c.args.self.now c' c.args.now (number_of c.args.to.0) c.room_is_place.ensures c.full_by_history.ensures s has (place_refused start c.args.now (number_of c.args.to.0) frame c' adds))

pub returns-clause-refused : goal.returns-clause-refused
returns-clause-refused g c = λ frame start c' s adds place.
    let has : has_room c.args.self.now.neighbours.limit c.args.now (number_of c.args.to.0) None c.args.self.now.neighbours.entries ≡ true = sym c.if-not-room.ensures.value in
    absurd (room_left g.R.Rng.stream start c.args.self.now c' c.args.now (number_of c.args.to.0) c.room_is_place.ensures c.full_by_history.ensures s has (place_refused start c.args.now (number_of c.args.to.0) frame c' adds))
