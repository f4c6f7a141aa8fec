use Rattle.std.proofs.Common.{ℕ, ◌≡◌, ◌≤◌, refl, sym, subst, arith}
use Rattle.nd_addr.specs.Ip6.{packet_parts}
use Rattle.nd_addr.specs.Number.{number_of}
use Rattle.nd_neighbour.specs.EntryKept.{NeighbourEntry}
use Rattle.nd_neighbour.specs.RoomKept.{has_room}
use Rattle.std.specs.Prelude.{List, Some, true}
use Rattle.nd_node.proofs.InTransit.{both_go, both_refused, first_placed, one_left, place_left}
use Rattle.nd_node.proofs.Refusals.{both_left}
use Rattle.nd_node.specs.declared.answer.Answer.TheVariants.{Refused}
use Rattle.nd_out.specs.declared.out.Refusal.TheVariants.{Full}
use Rattle.nd_out.specs.declared.out.Limit.TheVariants.{Neighbours}
use Rattle.nd_node.proofs.Reporting.{answered}
use Rattle.nd_node.proofs.node.Node.redirect_and_send.Goals as goal

pub returns-then-not-room-clause-adds : goal.returns-then-not-room-clause-adds
returns-then-not-room-clause-adds g c =
    answered c.refuse.result (Refused (Full Neighbours)) _ (both_refused g.R.Rng.stream c.args.self.now c.refuse.new.self c.args.outs.now.items c.refuse.new.outs.items c.args.now (packet_parts c.args.packet.now) (number_of c.args.hop.0)
    c.args.bytes.now c.args.bytes.now c.args.target c.room.result c.room.ensures.history c.if-not-room.true) c.refuse.ensures.adds c.refuse.ensures.answer

pub go-requires-clause-ring : goal.go-requires-clause-ring
go-requires-clause-ring g c = rw c.advance_to.ensures (λ none.
    let two : 2 ≤ c.ready_for_two.new.neighbours.rings = c.in_ok-first.ensures.rings in omega (arith, two))

pub go-requires-clause-place : goal.go-requires-clause-place
go-requires-clause-place g c =
    rw (c.advance_to.ensures, c.ready_for_two.ensures.limit, c.ready_for_two.ensures.entries)
    (first_placed c.args.self.now.neighbours.limit c.args.now (number_of c.args.packet.now.header.source.0) (number_of c.args.hop.0) c.args.self.now.neighbours.entries (sym c.if-not-room.ensures.value))

pub go-requires-2-clause-place : goal.go-requires-2-clause-place
go-requires-2-clause-place g c =
    let limit = rw c.advance_to.ensures at c.go.ensures.limit in
    rw limit (place_left c.ready_for_two.new.neighbours.limit c.args.now (number_of c.args.packet.now.header.source.0) (number_of c.args.hop.0) c.ready_for_two.new.neighbours.entries c.go.new.self.neighbours.entries (rw c.advance_to.ensures at c.go.ensures.leaves)
    (subst (λ (limit : ℕ). has_room limit c.args.now (number_of c.args.packet.now.header.source.0) (Some (number_of c.args.hop.0)) c.ready_for_two.new.neighbours.entries ≡ true) (sym (c.ready_for_two.ensures.limit))
    (subst (λ (entries : List NeighbourEntry). has_room c.args.self.now.neighbours.limit c.args.now (number_of c.args.packet.now.header.source.0) (Some (number_of c.args.hop.0)) entries ≡ true) (sym (c.ready_for_two.ensures.entries))
    (sym c.if-not-room.ensures.value))))

pub go-requires-2-clause-ring : goal.go-requires-2-clause-ring
go-requires-2-clause-ring g c = λ none.
    one_left _ c.ready_for_two.new.neighbours.rings c.go.new.self.neighbours.rings c.in_ok-first.ensures.rings (rw c.advance_to.ensures at c.go.ensures.rings)

pub returns-clause-adds : goal.returns-clause-adds
returns-clause-adds g c =
    both_go g.R.Rng.stream c.args.self.now
    (record c.args.self.now { last = c.args.now; neighbours = c.ready_for_two.new.neighbours })
    (record c.args.self.now { last = c.args.now; neighbours = c.ready_for_two.new.neighbours; router = record c.args.self.now.router { routes = c.redirected.new.self } })
    c.go.new.self c.go-2.new.self c.args.outs.now.items c.ready_for_two.new.outs.items c.go.new.outs.items c.go-2.new.outs.items c.args.now (number_of c.args.hop.0) c.args.target c.link_local-own.result
    (packet_parts c.args.packet.now) c.args.bytes.now c.in_ok-redirect.redirect c.in_ok-frame.frame c.requires.settled
    c.room.result c.room.ensures.history c.if-not-room.false
    (record { role = refl; mac = refl; chosen = refl; policies = refl; generator = refl; last = refl; params = refl; routers = refl; prefixes = refl; addresses = refl; entries = c.ready_for_two.ensures.entries; limit = c.ready_for_two.ensures.limit; waiting = c.ready_for_two.ensures.waiting; dns = refl; choice = refl; solicitations = refl; router = refl })
    c.ready_for_two.ensures.same
    (record c.args.self.now.router { routes = c.redirected.new.self }) refl refl c.redirected.ensures.stands c.redirected.ensures.limit
    c.link_local-own.ensures c.in_ok-redirect.ensures.by_history c.in_ok-frame.ensures (rw c.advance_to.ensures at c.go.ensures.leads) c.go-2.ensures.leads

pub returns-in_err-redirect-clause-refused : goal.returns-in_err-redirect-clause-refused
returns-in_err-redirect-clause-refused g c = λ came start c' s adds place.
    absurd (both_left g.R.Rng.stream start c.args.self.now c' c.args.now (number_of c.args.hop.0) c.args.target (packet_parts c.args.packet.now) came c.room.result c.room.ensures.history c.if-not-room.false s adds)

pub returns-in_err-frame-clause-refused : goal.returns-in_err-frame-clause-refused
returns-in_err-frame-clause-refused g c = λ came start c' s adds place.
    absurd (both_left g.R.Rng.stream start c.args.self.now c' c.args.now (number_of c.args.hop.0) c.args.target (packet_parts c.args.packet.now) came c.room.result c.room.ensures.history c.if-not-room.false s adds)

pub returns-in_err-first-clause-refused : goal.returns-in_err-first-clause-refused
returns-in_err-first-clause-refused g c = λ came start c' s adds place.
    absurd (both_left g.R.Rng.stream start c.args.self.now c' c.args.now (number_of c.args.hop.0) c.args.target (packet_parts c.args.packet.now) came c.room.result c.room.ensures.history c.if-not-room.false s adds)
