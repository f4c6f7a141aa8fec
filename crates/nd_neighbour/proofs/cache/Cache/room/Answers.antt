use Rattle.std.proofs.Common.{◌≡◌, ◌∙◌, sym, ap, subst, Bool, true, List}
use Rattle.std.specs.Prelude.{◌↔◌}
use Rattle.std.specs.Option.{option_map}
use Rattle.nd_addr.specs.Number.{number_of}
use Rattle.nd_neighbour.specs.EntryKept.{NeighbourEntry}
use Rattle.nd_neighbour.specs.TableKept.{Table}
use Rattle.nd_neighbour.specs.Room.{HasRoom}
use Rattle.nd_neighbour.specs.RoomKept.{has_room}
use Rattle.nd_neighbour.proofs.Second.{room_by_history}
use Rattle.nd_neighbour.proofs.cache.Cache.room.Goals as goal

pub returns-clause-history : goal.returns-clause-history
returns-clause-history g c = λ history s.
    let key = number_of c.args.addr.0 in
    let then' = option_map (λ next. number_of next.0) c.args.then in
    let table = c.args.self.now in
    let is : c.has_room.result ≡ has_room table.limit c.args.now key then' table.entries = c.has_room.ensures
    ∙ (ap (λ (l : List NeighbourEntry). has_room c.self.inside.limit c.args.now key then' l) c.deref.ensures.value
    ∙ ap (λ (t : Table). has_room t.limit c.args.now key then' t.entries) c.self.view_is) in
    subst (λ (b : Bool). (b ≡ true) ↔ HasRoom table.limit c.args.now key then' history) (sym is) (room_by_history table.limit c.args.now key table.entries history s then')
