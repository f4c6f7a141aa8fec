use Rattle.std.proofs.Common.{◌<◌, ◌≡◌, List, length, subst}
use Rattle.std.specs.Prelude.{slice_get}
use Rattle.nd_addr.specs.Number.{number_of}
use Rattle.nd_table.proofs.Keyed.{key_is}
use Rattle.nd_neighbour.specs.EntryKept.{NeighbourEntry}
use Rattle.nd_neighbour.specs.TableKept.{address, entry_in}
use Rattle.nd_neighbour.proofs.Planning.{goes_date, removed_planned, no_room}
use Rattle.nd_neighbour.proofs.Finds.{taken_out, taken_waits, found_is}
use Rattle.nd_neighbour.proofs.removal.remove.Goals as goal

pub returns-clause-removes : goal.returns-clause-removes
returns-clause-removes g c =
    taken_out (number_of c.args.addr.0) c.args.entries.now.items c.deref.result.now c.remove-entry.new.self.items c.in-Some.i c.remove-entry.result c.deref.ensures.value c.in-Some.ensures.within c.in-Some.ensures.found c.remove-entry.ensures.value c.remove-entry.ensures.items

pub returns-clause-packets : goal.returns-clause-packets
returns-clause-packets g c =
    taken_waits (number_of c.args.addr.0) c.args.entries.now.items c.deref.result.now c.in-Some.i c.remove-entry.result c.packets.result c.deref.ensures.value c.in-Some.ensures.within c.in-Some.ensures.found c.remove-entry.ensures.value c.packets.ensures

pub change-requires-clause-was : goal.change-requires-clause-was
change-requires-clause-was g c =
    let key = number_of c.args.addr.0 in
    let old = c.args.entries.now.items in
    let i = c.in-Some.i in
    let n = c.remove-entry.result in
    let within : i < length old = subst (λ (l : List NeighbourEntry). i < length l) c.deref.ensures.value c.in-Some.ensures.within in
    let found : entry_in key old ≡ slice_get old i = subst (λ (l : List NeighbourEntry). entry_in key l ≡ slice_get l i) c.deref.ensures.value c.in-Some.ensures.found in
    goes_date key i old old n c.args.dates.now c.args.dates.now c.requires.planned within c.remove-entry.ensures.value
    (key_is address key old n (found_is key old i n within c.remove-entry.ensures.value found)) c.date.result c.date.ensures

pub change-requires-clause-room : goal.change-requires-clause-room
change-requires-clause-room g c = no_room _ c.date.result _ c.date.ensures

pub returns-clause-planned : goal.returns-clause-planned
returns-clause-planned g c =
    let key = number_of c.args.addr.0 in
    let old = c.args.entries.now.items in
    let i = c.in-Some.i in
    let n = c.remove-entry.result in
    let within : i < length old = subst (λ (l : List NeighbourEntry). i < length l) c.deref.ensures.value c.in-Some.ensures.within in
    let found : entry_in key old ≡ slice_get old i = subst (λ (l : List NeighbourEntry). entry_in key l ≡ slice_get l i) c.deref.ensures.value c.in-Some.ensures.found in
    removed_planned key i old c.remove-entry.new.self.items n c.args.dates.now c.change.new.self c.requires.planned within c.remove-entry.ensures.value
    (key_is address key old n (found_is key old i n within c.remove-entry.ensures.value found)) c.remove-entry.ensures.items c.change.ensures.dates c.change.ensures.room
