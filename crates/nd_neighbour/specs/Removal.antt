-- Neighbours are forgotten, and what waited for them is returned.
use Rattle.std.specs.Prelude.{ℕ, List, [], ◌∷◌, ◌≡◌, ◌<◌, length, slice_index_or, Some, None, Option, ◌++◌}
use Rattle.std.specs.List.{remove}
use Rattle.nd_neighbour.specs.History.{Row, Forgot, Cleared}
use Rattle.nd_neighbour.specs.EntryKept.{NeighbourEntry, waiting_in}
use Rattle.nd_neighbour.specs.TableKept.{entry_in}

-- the neighbours are forgotten, in the order of their addresses
abbrev pub cleared : ℕ → List NeighbourEntry → List Row → List Row
cleared at [] history = history
cleared at (n ∷ entries) history = cleared at entries ((at, n.key, Forgot Cleared) ∷ history)

-- the list without the neighbour
pub data Removes (key : ℕ) (old new : List NeighbourEntry) : Type 0 where
  WasNot : entry_in key old ≡ None → new ≡ old → Removes key old new
  Gone : (at : ℕ) (entry : NeighbourEntry) → at < length old → entry ≡ slice_index_or old at entry → entry_in key old ≡ Some entry → new ≡ remove old at → Removes key old new

-- what waits at a neighbour that may be there
abbrev pub waiting_at : Option NeighbourEntry → List (List ℕ)
waiting_at None = []
waiting_at (Some n) = waiting_in n.stage

-- what waits at all of them, in the order of their addresses, the oldest first
abbrev pub all_waiting : List NeighbourEntry → List (List ℕ)
all_waiting [] = []
all_waiting (n ∷ entries) = waiting_in n.stage ++ all_waiting entries
