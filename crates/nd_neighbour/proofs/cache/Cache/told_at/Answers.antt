use Rattle.std.proofs.Common.{◌≤◌, ◌+◌, ◌∙◌, List, ap, subst, sym}
use Rattle.nd_addr.specs.Number.{number_of}
use Rattle.nd_neighbour.specs.TableKept.{Table, entry_in}
use Rattle.nd_neighbour.specs.EntryKept.{NeighbourEntry}
use Rattle.nd_neighbour.specs.NewsKept.{told_at}
use Rattle.nd_neighbour.specs.Rings.{RoomWithin}
use Rattle.nd_neighbour.proofs.cache.Cache.told_at.Goals as goal

pub returns-clause-value : goal.returns-clause-value
returns-clause-value g c =
    let key = number_of c.args.addr.0 in
    c.count_told.ensures.value ∙ ap (λ xs. told_at (entry_in key xs)) (c.deref.ensures.value ∙ ap (λ (t : Table). t.entries) c.self.view_is)

pub returns-clause-limit : goal.returns-clause-limit
returns-clause-limit g c =
    let room = c.self.inside.rings.room in
    subst (λ (t : Table). c.count_told.result ≤ t.waiting + 1) c.self.view_is
    (c.count_told.ensures.limit room (subst (λ (l : List NeighbourEntry). RoomWithin room l) (sym c.deref.ensures.value) c.self.invariant.4))
