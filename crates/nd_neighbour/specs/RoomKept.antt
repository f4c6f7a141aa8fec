-- Only what is kept, in the code's terms: whether the entries leave room.
use Rattle.std.specs.Prelude.{ℕ, true, List, Option, nat_lt, Bool, ◌&&◌, ◌||◌, not, ◌==◌, length, is_some, ◌+◌, Some, None, if◌then◌else◌, ◌≡◌}
use Rattle.std.specs.List.{list_any}
use Rattle.nd_neighbour.specs.EntryKept.{NeighbourEntry}
use Rattle.nd_neighbour.specs.TableKept.{entry_in}
use Rattle.nd_neighbour.specs.PlaceKept.{is_stale, since_of, stalest, has_place, NoPlace}

-- The same of what is kept. This neighbour is stale after a use of the first:
abbrev pub stays_stale : ℕ → ℕ → NeighbourEntry → Bool
stays_stale key now n = is_stale n.stage now && (not (n.key == key) || nat_lt now (since_of n.stage))

-- it is stale, and another one than the one that goes
abbrev pub stale_beside : ℕ → ℕ → NeighbourEntry → Bool
stale_beside gone now n = is_stale n.stage now && not (n.key == gone)

-- there is room for the second if the first is present and is used
abbrev pub place_beside : ℕ → ℕ → ℕ → ℕ → List NeighbourEntry → Bool
place_beside limit now key next entries =
    is_some (entry_in next entries) || (nat_lt (length entries) limit || list_any (stays_stale key now) entries)

-- or where the first enters, and this one goes for it
abbrev pub place_without : NeighbourEntry → ℕ → ℕ → ℕ → List NeighbourEntry → Bool
place_without gone now key next entries =
    (key == next) || ((not (gone.key == next) && is_some (entry_in next entries)) || list_any (stale_beside gone.key now) entries)

-- or where the first enters; the one that is stale for longest goes only where all places are taken
abbrev pub place_behind : ℕ → ℕ → ℕ → ℕ → List NeighbourEntry → Option NeighbourEntry → Bool
place_behind limit now key next entries None = (key == next) || (is_some (entry_in next entries) || nat_lt (length entries + 1) limit)
place_behind limit now key next entries (Some n) = nat_lt (length entries) limit || place_without n now key next entries

-- there is room for the second after a use of the first
abbrev pub has_second : ℕ → ℕ → ℕ → ℕ → List NeighbourEntry → Bool
has_second limit now key next entries =
    if is_some (entry_in key entries) then place_beside limit now key next entries
    else place_behind limit now key next entries (stalest now entries)

abbrev pub has_first : ℕ → ℕ → ℕ → List NeighbourEntry → Bool
has_first limit now key entries = is_some (entry_in key entries) || has_place limit now entries

abbrev pub has_room : ℕ → ℕ → ℕ → Option ℕ → List NeighbourEntry → Bool
has_room limit now key None entries = has_first limit now key entries
has_room limit now key (Some next) entries = has_first limit now key entries && has_second limit now key next entries

-- if there was room for a second one before a use of the first, there is room after it
pub record LeavesRoom (limit now key : ℕ) (old new : List NeighbourEntry) : Type 0 where
  pub has : (next : ℕ) → has_room limit now key (Some next) old ≡ true → NoPlace limit now next new → ⊥
