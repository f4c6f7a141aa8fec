use Rattle.std.proofs.Common.{◌≡◌, ◌<◌, ◌∙◌, List, length, ap, subst, sym}
use Rattle.std.specs.Prelude.{slice_get}
use Rattle.std.specs.List.{remove}
use Rattle.nd_addr.specs.Number.{number_of}
use Rattle.nd_neighbour.specs.EntryKept.{NeighbourEntry}
use Rattle.nd_neighbour.specs.DueKept.{due_in}
use Rattle.nd_neighbour.proofs.Turns.{went, stayed}
use Rattle.nd_neighbour.proofs.Planning.{goes_date, removed_planned, turned_planned, unturned, no_room}
use Rattle.nd_neighbour.proofs.due.turn_first.Goals as goal

pub returns-in-Some-clause-turns : goal.returns-in-Some-clause-turns
returns-in-Some-clause-turns g c =
    let i = c.in_ok-i.i in
    let old = c.args.entries.now.items in
    let within : i < length old = subst (λ (l : List NeighbourEntry). i < length l) c.deref.ensures.value c.in_ok-i.ensures.within in
    let first : due_in c.args.now old ≡ slice_get old i = subst (λ (l : List NeighbourEntry). due_in c.args.now l ≡ slice_get l i) c.deref.ensures.value c.in_ok-i.ensures.found in
    stayed c.args.now old i c.index_mut-entry.result.now c.solicit.new.self _ within first c.index_mut-entry.ensures.value c.solicit.ensures.entry c.in-Some.ensures.some c.in-Some.ensures.due

pub returns-clause-turns : goal.returns-clause-turns
returns-clause-turns g c =
    let i = c.in_ok-i.i in
    let old = c.args.entries.now.items in
    let within : i < length old = subst (λ (l : List NeighbourEntry). i < length l) c.deref.ensures.value c.in_ok-i.ensures.within in
    let first : due_in c.args.now old ≡ slice_get old i = subst (λ (l : List NeighbourEntry). due_in c.args.now l ≡ slice_get l i) c.deref.ensures.value c.in_ok-i.ensures.found in
    went c.args.now old i c.index_mut-entry.result.now c.solicit.new.self c.remove-entry.result _ _ within first
    c.index_mut-entry.ensures.value c.solicit.ensures.entry c.in_default.ensures.none c.remove-entry.ensures.value c.end.ensures c.remove-entry.ensures.items

pub change-requires-clause-was : goal.change-requires-clause-was
change-requires-clause-was g c =
    let i = c.in_ok-i.i in
    let old = c.args.entries.now.items in
    let n = c.index_mut-entry.result.now in
    let within : i < length old = subst (λ (l : List NeighbourEntry). i < length l) c.deref.ensures.value c.in_ok-i.ensures.within in
    goes_date (number_of c.addr-addr.result.0) i old old n c.args.dates.now c.args.dates.now c.requires.planned within c.index_mut-entry.ensures.value (sym c.addr-addr.ensures) c.date-was.result c.date-was.ensures

pub change-requires-clause-room : goal.change-requires-clause-room
change-requires-clause-room g c = no_room _ c.date-was.result _ c.date-was.ensures

pub returns-in-Some-clause-planned : goal.returns-in-Some-clause-planned
returns-in-Some-clause-planned g c =
    let i = c.in_ok-i.i in
    let old = c.args.entries.now.items in
    let n = c.index_mut-entry.result.now in
    let within : i < length old = subst (λ (l : List NeighbourEntry). i < length l) c.deref.ensures.value c.in_ok-i.ensures.within in
    turned_planned c.args.now (number_of c.addr-addr.result.0) i old n c.solicit.new.self c.requires.planned.order within c.index_mut-entry.ensures.value (sym c.addr-addr.ensures) c.solicit.ensures.entry
    c.args.dates.now c.change.new.self c.date.result c.requires.planned c.date.ensures c.change.ensures.dates c.change.ensures.room

pub change-requires-2-clause-was : goal.change-requires-2-clause-was
change-requires-2-clause-was g c =
    let i = c.in_ok-i.i in
    let old = c.args.entries.now.items in
    let n = c.index_mut-entry.result.now in
    let within : i < length old = subst (λ (l : List NeighbourEntry). i < length l) c.deref.ensures.value c.in_ok-i.ensures.within in
    goes_date (number_of c.addr-addr.result.0) i old old n c.args.dates.now c.args.dates.now c.requires.planned within c.index_mut-entry.ensures.value (sym c.addr-addr.ensures) c.date-was.result c.date-was.ensures

pub returns-clause-planned : goal.returns-clause-planned
returns-clause-planned g c =
    let i = c.in_ok-i.i in
    let old = c.args.entries.now.items in
    let n = c.index_mut-entry.result.now in
    let within : i < length old = subst (λ (l : List NeighbourEntry). i < length l) c.deref.ensures.value c.in_ok-i.ensures.within in
    let same = unturned c.args.now (number_of c.addr-addr.result.0) i old n c.solicit.new.self c.requires.planned.order within c.index_mut-entry.ensures.value (sym c.addr-addr.ensures) c.solicit.ensures.entry c.in_default.ensures.none in
    removed_planned (number_of c.addr-addr.result.0) i old c.remove-entry.new.self.items n c.args.dates.now c.change-2.new.self c.requires.planned within c.index_mut-entry.ensures.value (sym c.addr-addr.ensures)
    (c.remove-entry.ensures.items ∙ ap (λ (l : List NeighbourEntry). remove l i) same) c.change-2.ensures.dates c.change-2.ensures.room
