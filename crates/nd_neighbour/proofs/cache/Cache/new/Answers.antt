use Rattle.std.proofs.Common.{◌≡◌, List, [], ap, sym, subst, arith, rules}
use Rattle.nd_table.specs.Dates.{Planned, has}
use Rattle.nd_neighbour.specs.EntryKept.{NeighbourEntry}
use Rattle.nd_neighbour.specs.Planned.{IsPlanned}
use Rattle.nd_neighbour.specs.Rings.{RoomWithin}
use Rattle.nd_neighbour.specs.TableKept.{Stands}
use Rattle.nd_neighbour.proofs.cache.Cache.new.Goals as goal

-- an empty cache has no dates, and stands for no history
none_planned : (entries : List NeighbourEntry) (planned : Planned) → entries ≡ [] → planned.dates ≡ [] → IsPlanned entries planned
none_planned entries planned none empty = subst (λ (l : List NeighbourEntry). IsPlanned l planned) (sym none) (record {
  order = tt;
  dates = record { each = λ moment k. ap (has moment k) empty };
  room = omega arith;
})

none_stand : Stands [] []
none_stand = search rules

pub invariant_of-result : goal.invariant_of-result
invariant_of-result g c = (
  omega (arith, c.in_ok-entries.ensures.len),
  omega (arith, c.in_ok-entries.ensures.capacity),
  omega (arith, c.in_ok-dates.ensures.room),
  none_planned c.in_ok-entries.entries.items c.in_ok-dates.dates c.in_ok-entries.ensures.items c.in_ok-dates.ensures.none,
  subst (λ (l : List NeighbourEntry). RoomWithin c.new-2.result.room l) (sym c.in_ok-entries.ensures.items) tt,
)

pub returns-clause-stands : goal.returns-clause-stands
returns-clause-stands g c = subst (λ (l : List NeighbourEntry). Stands l []) (sym c.in_ok-entries.ensures.items) none_stand
