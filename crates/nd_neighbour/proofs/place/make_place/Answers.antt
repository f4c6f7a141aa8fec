use Rattle.std.proofs.Common.{◌≡◌, ◌<◌, ◌∙◌, sym, subst, List, length, arith}
use Rattle.std.specs.Prelude.{slice_get}
use Rattle.nd_addr.specs.Number.{number_of}
use Rattle.nd_neighbour.specs.EntryKept.{NeighbourEntry}
use Rattle.nd_neighbour.specs.PlaceKept.{stalest}
use Rattle.nd_neighbour.proofs.Planning.{goes_date, removed_planned, place_before, place_behind, no_room}
use Rattle.nd_neighbour.proofs.Places.{went_out}
use Rattle.nd_neighbour.proofs.place.make_place.Goals as goal
use Rattle.nd_neighbour.proofs.place.make_place.Goals.{then-i-at, else-i-at}

pub change-requires-clause-was : goal.change-requires-clause-was
change-requires-clause-was g c =
    let old = c.args.entries.now.items in
    let i = c.in-Some.i in
    let n = c.remove-gone.result in
    let within : i < length old = subst (λ (l : List NeighbourEntry). i < length l) c.deref.ensures.value c.in-Some.ensures.within in
    goes_date (number_of c.addr.result.0) i old old n c.args.dates.now c.args.dates.now c.requires.planned within c.remove-gone.ensures.value (sym c.addr.ensures) c.date.result c.date.ensures

pub change-requires-clause-room : goal.change-requires-clause-room
change-requires-clause-room g c = no_room _ c.date.result _ c.date.ensures

pub returns-clause-places : goal.returns-clause-places
returns-clause-places g c =
    let old = c.args.entries.now.items in
    let i = c.in-Some.i in
    let within : i < length old = subst (λ (l : List NeighbourEntry). i < length l) c.deref.ensures.value c.in-Some.ensures.within in
    let first : slice_get old i ≡ stalest c.args.now old = subst (λ (l : List NeighbourEntry). slice_get l i ≡ stalest c.args.now l) c.deref.ensures.value c.in-Some.ensures.stalest in
    went_out c.args.limit c.args.now old _ i c.remove-gone.result (omega (arith, c.args.entries.now.ok.0)) within c.remove-gone.ensures.value first c.remove-gone.ensures.items

pub returns-clause-planned : goal.returns-clause-planned
returns-clause-planned g c =
    let old = c.args.entries.now.items in
    let i = c.in-Some.i in
    let n = c.remove-gone.result in
    let within : i < length old = subst (λ (l : List NeighbourEntry). i < length l) c.deref.ensures.value c.in-Some.ensures.within in
    removed_planned (number_of c.addr.result.0) i old c.remove-gone.new.self.items n c.args.dates.now c.change.new.self c.requires.planned within c.remove-gone.ensures.value (sym c.addr.ensures) c.remove-gone.ensures.items c.change.ensures.dates c.change.ensures.room

pub returns-clause-at : goal.returns-clause-at
returns-clause-at g c =
    let key = number_of c.args.addr.0 in
    let old = c.args.entries.now.items in
    let i = c.in-Some.i in
    let n = c.remove-gone.result in
    let within : i < length old = subst (λ (l : List NeighbourEntry). i < length l) c.deref.ensures.value c.in-Some.ensures.within in
    elim (c.if-i-at.branch) [
      | then-i-at w ↦ w.place-is ∙ place_before key i old c.remove-gone.new.self.items n c.requires.planned.order within c.remove-gone.ensures.value c.requires.absent c.remove-gone.ensures.items c.args.at c.requires.at w.if-i-at.true
      | else-i-at w ↦ w.place-is ∙ place_behind key i old c.remove-gone.new.self.items n c.requires.planned.order within c.remove-gone.ensures.value c.requires.absent c.remove-gone.ensures.items c.args.at c.requires.at w.if-i-at.false
    ]
