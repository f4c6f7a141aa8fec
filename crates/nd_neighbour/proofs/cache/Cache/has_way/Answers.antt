use Rattle.std.proofs.Common.{◌≡◌, List, sym, ◌∙◌, ap}
use Rattle.std.specs.Prelude.{is_some}
use Rattle.std.proofs.lemmas.Bool.{true≢false}
use Rattle.nd_addr.specs.Number.{number_of}
use Rattle.nd_neighbour.specs.EntryKept.{NeighbourEntry}
use Rattle.nd_neighbour.specs.GivingWayKept.{asked_longest}
use Rattle.nd_neighbour.specs.TableKept.{Table}
use Rattle.nd_neighbour.proofs.GivingWay.{named_some, no_way}
use Rattle.nd_neighbour.proofs.Second.{first_by_history}
use Rattle.nd_neighbour.proofs.cache.Cache.has_way.Goals as goal

pub returns-then-room-clause-history : goal.returns-then-room-clause-history
returns-then-room-clause-history g c = λ history s. (
  (λ e. absurd (true≢false (sym c.if-room.true ∙ e))),
  (λ full. absurd (first_by_history c.args.self.now.limit c.args.now (number_of c.args.addr.0) c.args.self.now.entries history s (sym c.if-room.ensures.value) full.full)),
)

pub returns-else-room-clause-history : goal.returns-else-room-clause-history
returns-else-room-clause-history g c = λ history s.
    let entries : List NeighbourEntry = c.args.self.now.entries in
    let same : c.deref.result.now ≡ entries = c.deref.ensures.value ∙ ap (λ (t : Table). t.entries) c.self.view_is in
    no_way c.args.self.now.limit c.args.now (number_of c.args.addr.0) entries history s (sym c.if-room.ensures.value) c.is_some.result
    (c.is_some.ensures ∙ (named_some (λ a. number_of a.0) c.asked_longest.result (asked_longest c.deref.result.now) c.asked_longest.ensures ∙ ap (λ (l : List NeighbourEntry). is_some (asked_longest l)) same))
