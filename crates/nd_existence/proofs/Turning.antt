-- What is first due in a table is given by a turn of it.
use Rattle.std.proofs.Common.{◌≡◌, ℕ, cond, List, set, Some, None, refl}
use Rattle.std.specs.List.{remove}
use Rattle.nd_table.proofs.Due.{due_has}
use Rattle.nd_table.proofs.Keyed.{place_found}
use Rattle.nd_neighbour.specs.EntryKept.{NeighbourEntry}
use Rattle.nd_neighbour.specs.TableKept as cache
use Rattle.nd_neighbour.specs.DueKept as neighbours
use Rattle.nd_slaac.specs.AddressKept.{Address}
use Rattle.nd_slaac.specs.TableKept as own
use Rattle.nd_slaac.specs.Due as addresses
use Rattle.nd_slaac.specs.Dates as dates
use Rattle.nd_table.specs.Keyed as keyed

-- a neighbour for which something is due takes a turn
pub neighbour_turns : (now : ℕ) (ns : List NeighbourEntry) (n : NeighbourEntry) → cache.Rises ns → neighbours.due_in now ns ≡ Some n
    → (new : List NeighbourEntry) × neighbours.Turns now ns new (neighbours.falls n)
neighbour_turns now ns n r first =
    let has = due_has cache.address neighbours.date_of now ns n r first in
    let place = place_found cache.address n.key ns n has in (
      cond (neighbours.stays (neighbours.falls n)) (set ns place.0 (neighbours.solicited now n)) (remove ns place.0),
      record {
        at = place.0;
        entry = n;
        within = place.1;
        is = place.2;
        first = first;
        falls_is = refl;
        new_is = refl;
      },
    )

module _ (transmits now : ℕ) (xs : List Address) (r : keyed.Rises own.key_of xs) where
  -- an address whose end has come goes
  pub address_ends : (a : Address) → dates.first_at dates.end_date now xs ≡ Some a → (new : List Address) × dates.Turns transmits now xs new (addresses.Ends a.key)
  address_ends a first =
      let has = due_has own.key_of dates.end_date now xs a r first in
      let place = place_found own.key_of a.key xs a has in
      (remove xs place.0, dates.Goes place.0 a place.1 place.2 first refl refl)

  -- and else one takes a step
  pub address_steps : (a : Address) → dates.first_at dates.end_date now xs ≡ None → dates.first_at dates.next_step now xs ≡ Some a
      → (new : List Address) × dates.Turns transmits now xs new (dates.falls_by transmits a.key a.stage)
  address_steps a none first =
      let has = due_has own.key_of dates.next_step now xs a r first in
      let place = place_found own.key_of a.key xs a has in
      (set xs place.0 (dates.stepped transmits now a), dates.Steps place.0 a place.1 place.2 none first refl refl)
