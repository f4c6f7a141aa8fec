use Rattle.std.proofs.Common.{refl, sym, ◌≡◌, true, None, List, ap}
use Rattle.nd_addr.specs.Number.{number_of}
use Rattle.nd_neighbour.specs.RoomKept.{has_room}
use Rattle.nd_out.specs.declared.out.Limit.TheVariants.{Neighbours}
use Rattle.nd_out.specs.declared.out.Refusal.TheVariants.{Full}
use Rattle.nd_node.specs.declared.resolve.Resolution.TheVariants as answers
use Rattle.nd_node.proofs.Refusals.{room_left, wish_refused}
use Rattle.nd_node.proofs.Wishes.{answered_with, wish_refused_full, wish_taken}
use Rattle.nd_neighbour.specs.EntryKept.{NeighbourEntry}
use Rattle.nd_neighbour.specs.LeaseKept.{mac_at}
use Rattle.nd_neighbour.specs.TableKept.{entry_in}
use Rattle.nd_node.specs.ResolveKept.{LeadsTo}
use Rattle.nd_node.proofs.Ways.{leads_to, ways_left}
use Rattle.nd_node.proofs.node.Node.want_neighbour.Goals as goal

pub returns-then-not-room-clause-adds : goal.returns-then-not-room-clause-adds
returns-then-not-room-clause-adds g c =
    answered_with c.answer_at_once.result (answers.Refused (Full Neighbours)) _ _ (λ adds. λ destination. wish_refused_full g.R.Rng.stream c.args.self.now c.answer_at_once.new.self c.args.outs.now.items _ c.args.now destination (number_of c.args.to.0) c.requires.settled
    c.full_by_history.ensures (sym c.if-not-room.ensures.value) (adds destination)) c.answer_at_once.ensures.adds c.answer_at_once.ensures.answer

pub returns-clause-adds : goal.returns-clause-adds
returns-clause-adds g c = λ destination.
    wish_taken g.R.Rng.stream c.args.self.now c.wish-mac.new.self c.args.outs.now.items _ c.args.now destination (number_of c.args.to.0) c.requires.settled
    (record c.args.self.now { last = c.args.now; neighbours = c.ready_for_wish.new.neighbours }) c.ready_for_wish.new.outs.items
    (record { role = refl; mac = refl; chosen = refl; policies = refl; generator = refl; last = refl; params = refl; routers = refl; prefixes = refl; addresses = refl; entries = c.ready_for_wish.ensures.entries; limit = c.ready_for_wish.ensures.limit; waiting = c.ready_for_wish.ensures.waiting; dns = refl; choice = refl; solicitations = refl; router = refl })
    c.ready_for_wish.ensures.same c.room_is_place.ensures c.full_by_history.ensures (sym c.if-not-room.ensures.value) (rw c.advance_to.ensures at (c.wish-mac.ensures.leads destination))

pub returns-in_err-solicitation-clause-refused : goal.returns-in_err-solicitation-clause-refused
returns-in_err-solicitation-clause-refused g c = λ destination start c' s adds place.
    let has : has_room c.args.self.now.neighbours.limit c.args.now (number_of c.args.to.0) None c.args.self.now.neighbours.entries ≡ true = sym c.if-not-room.ensures.value in
    absurd (room_left g.R.Rng.stream start c.args.self.now c' c.args.now (number_of c.args.to.0) c.room_is_place.ensures c.full_by_history.ensures s has (wish_refused start c.args.now destination (number_of c.args.to.0) c' adds))

pub returns-then-not-room-clause-way : goal.returns-then-not-room-clause-way
returns-then-not-room-clause-way g c =
    answered_with c.answer_at_once.result (answers.Refused (Full Neighbours)) _ (LeadsTo c.args.to c.args.self.now c.answer_at_once.new.self) (λ _. tt) c.answer_at_once.ensures.clock c.answer_at_once.ensures.answer

pub returns-clause-way : goal.returns-clause-way
returns-clause-way g c =
    let old = c.args.self.now in
    leads_to c.args.to old (record old { last = c.args.now; neighbours = c.ready_for_wish.new.neighbours }) c.wish-mac.new.self
    (ways_left old c.ready_for_wish.new.neighbours old.choice c.args.now refl (λ key. ap (λ (l : List NeighbourEntry). mac_at (entry_in key l)) c.ready_for_wish.ensures.entries))
    c.wish-mac.result (rw c.advance_to.ensures at c.wish-mac.ensures.ways)
