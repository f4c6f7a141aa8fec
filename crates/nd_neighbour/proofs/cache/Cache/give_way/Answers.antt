use Rattle.std.proofs.Common.{arith, false, ◌≡◌, List, Some, None, sym, ◌∙◌, ap, subst}
use Rattle.std.specs.Option.{option_map}
use Rattle.nd_addr.specs.Number.{number_of}
use Rattle.nd_addr.specs.declared.addr.Addr.{Addr}
use Rattle.nd_neighbour.specs.EntryKept.{NeighbourEntry}
use Rattle.nd_neighbour.specs.GivingWay.{IsAskedLongest}
use Rattle.nd_neighbour.specs.GivingWayKept.{asked_longest}
use Rattle.nd_neighbour.specs.Removal.{Removes, waiting_at}
use Rattle.nd_neighbour.specs.RoomKept.{has_first}
use Rattle.nd_neighbour.specs.TableKept.{Table, address, entry_in}
use Rattle.nd_neighbour.proofs.Forgetting.{removed_gains, waits_by_history}
use Rattle.nd_neighbour.proofs.GivingWay.{absent_behind, first_absent, full_first, longest_found, named, named_in, named_none, no_way_left, none_incomplete, room_behind}
use Rattle.nd_neighbour.proofs.Second.{first_by_history}
use Rattle.nd_neighbour.proofs.cache.Cache.give_way.Goals as goal

pub returns-then-room-clause-way : goal.returns-then-room-clause-way
returns-then-room-clause-way g c = λ history s full.
    absurd (first_by_history c.args.self.now.limit c.args.now (number_of c.args.addr.0) c.args.self.now.entries history s (sym c.if-room.ensures.value) full)

pub returns-in_err-gone-clause-way : goal.returns-in_err-gone-clause-way
returns-in_err-gone-clause-way g c = λ history s.
    let entries : List NeighbourEntry = c.args.self.now.entries in
    let same : c.deref.result.now ≡ entries = c.deref.ensures.value ∙ ap (λ (t : Table). t.entries) c.self.view_is in
    let none : None ≡ option_map address (asked_longest entries) = subst (λ (l : List NeighbourEntry). None ≡ option_map address (asked_longest l)) same c.in_err-gone.ensures in
    rw c.from_residual.ensures (λ full. none_incomplete entries history s (named_none (asked_longest entries) none))

pub returns-clause-way : goal.returns-clause-way
returns-clause-way g c = λ history s.
    let entries : List NeighbourEntry = c.args.self.now.entries in
    let same : c.deref.result.now ≡ entries = c.deref.ensures.value ∙ ap (λ (t : Table). t.entries) c.self.view_is in
    let found = subst (λ (l : List NeighbourEntry). Some (number_of c.in_ok-gone.gone.0) ≡ option_map address (asked_longest l)) same c.in_ok-gone.ensures in
    let n = named (λ (a : Addr). number_of a.0) c.in_ok-gone.gone (asked_longest entries) found in (
      full_first c.args.self.now.limit c.args.now (number_of c.args.addr.0) entries history s (sym c.if-room.ensures.value),
      subst (λ k. IsAskedLongest history k) (sym n.2) (longest_found entries history s n.0 n.1).0,
    )

pub returns-clause-gains : goal.returns-clause-gains
returns-clause-gains g c = λ at cause.
    let key = number_of c.in_ok-gone.gone.0 in
    removed_gains key at cause c.args.self.now.entries c.remove-packets.new.entries.items (subst (λ (t : Table). Removes key t.entries c.remove-packets.new.entries.items) c.self.view_is c.remove-packets.ensures.removes)

pub returns-clause-packets : goal.returns-clause-packets
returns-clause-packets g c = λ history s.
    let key = number_of c.in_ok-gone.gone.0 in
    subst (λ (t : Table). c.remove-packets.result ≡ waiting_at (entry_in key t.entries)) c.self.view_is c.remove-packets.ensures.packets
    ∙ waits_by_history key c.args.self.now.entries history s

pub returns-clause-place : goal.returns-clause-place
returns-clause-place g c = λ way.
    let entries : List NeighbourEntry = c.self.inside.entries.items in
    let key = number_of c.in_ok-gone.gone.0 in
    let found = subst (λ (l : List NeighbourEntry). Some key ≡ option_map address (asked_longest l)) c.deref.ensures.value c.in_ok-gone.ensures in
    let n = named (λ (a : Addr). number_of a.0) c.in_ok-gone.gone (asked_longest entries) found in
    room_behind c.self.inside.limit c.args.now (number_of c.args.addr.0) key entries c.remove-packets.new.entries.items n.0 (omega (arith, c.self.invariant.0, c.self.inside.entries.ok.0))
    (named_in key entries c.self.invariant.3.order n.0 n.2 n.1) c.remove-packets.ensures.removes

pub returns-in_err-gone-clause-place : goal.returns-in_err-gone-clause-place
returns-in_err-gone-clause-place g c = λ way.
    let entries : List NeighbourEntry = c.args.self.now.entries in
    let same : c.deref.result.now ≡ entries = c.deref.ensures.value ∙ ap (λ (t : Table). t.entries) c.self.view_is in
    let none : None ≡ option_map address (asked_longest entries) = subst (λ (l : List NeighbourEntry). None ≡ option_map address (asked_longest l)) same c.in_err-gone.ensures in
    absurd (no_way_left (has_first c.args.self.now.limit c.args.now (number_of c.args.addr.0) entries) (asked_longest entries) (sym c.if-room.ensures.value) (named_none (asked_longest entries) none) way)

pub returns-clause-absent : goal.returns-clause-absent
returns-clause-absent g c =
    let key = number_of c.args.addr.0 in
    let absent : entry_in key c.self.inside.entries.items ≡ None =
    first_absent c.self.inside.limit c.args.now key c.self.inside.entries.items (subst (λ (t : Table). has_first t.limit c.args.now key t.entries ≡ false) (sym c.self.view_is) (sym c.if-room.ensures.value)) in
    absent_behind key (number_of c.in_ok-gone.gone.0) c.self.inside.entries.items c.remove-packets.new.entries.items c.self.invariant.3.order absent c.remove-packets.ensures.removes
