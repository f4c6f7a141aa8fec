-- Only what is kept, in the code's terms: which entry is evicted for a new one, and where the new one is.
use Rattle.std.specs.Prelude.{◌≡◌, ℕ, List, ◌<◌, ◌≤◌, ◌∷◌, length, Bool, ◌&&◌, not, false, nat_lt, Some, None, if◌then◌else◌, Option, [], ◌||◌, is_some, slice_index_or, slice_get}
use Rattle.std.specs.List.{remove, insert}
use Rattle.nd_neighbour.specs.EntryKept.{NeighbourEntry, Stage, Resolving, Known}
use Rattle.nd_neighbour.specs.TableKept.{entry_in, place_in, Alters}

-- the same of what is kept
abbrev pub is_stale : Stage → ℕ → Bool
is_stale (Resolving retrans sent wanted waiting) t = false
is_stale (Known mac confirmed since None) t = not (confirmed && nat_lt t since)
is_stale (Known mac confirmed since (Some probing)) t = false

abbrev pub since_of : Stage → ℕ
since_of (Resolving retrans sent wanted waiting) = 0
since_of (Known mac confirmed since probing) = since

-- the one of two that isn't reachable for longer, at a tie the first
abbrev pub longer : Option NeighbourEntry → Option NeighbourEntry → Option NeighbourEntry
longer None other = other
longer (Some n) None = Some n
longer (Some n) (Some m) = if nat_lt (since_of m.stage) (since_of n.stage) then Some m else Some n

abbrev pub if_stale : ℕ → NeighbourEntry → Option NeighbourEntry
if_stale now n = if is_stale n.stage now then Some n else None

-- the one of a list that is stale for longest
abbrev pub stalest : ℕ → List NeighbourEntry → Option NeighbourEntry
stalest now [] = None
stalest now (n ∷ entries) = longer (if_stale now n) (stalest now entries)

-- there is room for one more, or one that can be evicted
abbrev pub has_place : ℕ → ℕ → List NeighbourEntry → Bool
has_place limit now entries = nat_lt (length entries) limit || is_some (stalest now entries)

-- there is no room for a new neighbour in the list
abbrev pub NoPlace : ℕ → ℕ → ℕ → List NeighbourEntry → Type 0
NoPlace limit now key entries = (entry_in key entries ≡ None) × (has_place limit now entries ≡ false)

-- the list with place for one more
pub data Places (limit now : ℕ) (old new : List NeighbourEntry) : Type 0 where
  Enough : length old < limit → new ≡ old → Places limit now old new
  Went : (at : ℕ) (entry : NeighbourEntry) → limit ≤ length old → at < length old → entry ≡ slice_index_or old at entry → stalest now old ≡ Some entry → new ≡ remove old at → Places limit now old new

-- the list with a new one in its place, for which another one may have gone
pub record Enters (limit now : ℕ) (m : NeighbourEntry) (old new : List NeighbourEntry) : Type 0 where
  pub mid : List NeighbourEntry
  pub places : Places limit now old mid
  pub new_is : new ≡ insert mid (place_in m.key mid) m

-- the neighbour at a place that may be missing
abbrev pub picked : List NeighbourEntry → Option ℕ → Option NeighbourEntry
picked entries None = None
picked entries (Some i) = slice_get entries i

-- the same where it is stale
abbrev pub picked_stale : ℕ → Option NeighbourEntry → Option NeighbourEntry
picked_stale now None = None
picked_stale now (Some n) = if_stale now n

-- the list with the neighbour changed where it is there, and else with a new one in its place
pub data Gives (limit now key : ℕ) (change : NeighbourEntry → NeighbourEntry) (m : NeighbourEntry) (old new : List NeighbourEntry) : Type 0 where
  Was : (entry : NeighbourEntry) → entry_in key old ≡ Some entry → Alters key change old new → Gives limit now key change m old new
  Came : (mid : List NeighbourEntry) → entry_in key old ≡ None → Places limit now old mid → new ≡ insert mid (place_in m.key mid) m → Gives limit now key change m old new
