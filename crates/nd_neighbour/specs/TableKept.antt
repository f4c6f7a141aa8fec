-- Only what is kept, in the code's terms: the entries, and what they are to what happened to the neighbours.
use Rattle.std.specs.Prelude.{ℕ, List, Option, ◌≡◌, ◌<◌, length, slice_index_or, slice_set, Some, None}
use Rattle.nd_table.specs.HistoryKept as growing
use Rattle.nd_table.specs.Keyed as keyed
use Rattle.nd_table.specs.Keyed.{at_key}
use Rattle.nd_table.specs.KeyedKept.{place_of}
use Rattle.nd_neighbour.specs.History.{Row, story}
use Rattle.nd_neighbour.specs.EntryKept.{NeighbourEntry}
use Rattle.nd_neighbour.specs.StoryKept.{entry_of}

-- how many rings may be in reserve for new neighbours. Our choice: a packet may need one for its neighbour and, as `room`
-- asks, one for a second neighbour.
abbrev pub max_rings : ℕ
max_rings = 2

-- the most neighbours that a cache may have room for (our choice)
abbrev pub max_neighbours : ℕ
max_neighbours = 2048

-- a cache: how many neighbours it has room for, those that it has, for how many packets each has room, and how many rings are in reserve for new ones
pub record Table : Type 0 where
  pub limit : ℕ
  pub entries : List NeighbourEntry
  pub waiting : ℕ
  pub rings : ℕ

-- the address of a neighbour
abbrev pub address : NeighbourEntry → ℕ
address n = n.key

-- the neighbour of this address
abbrev pub entry_in : ℕ → List NeighbourEntry → Option NeighbourEntry
entry_in key entries = at_key address key entries

-- the addresses rise
abbrev pub Rises : List NeighbourEntry → Type 0
Rises entries = keyed.Rises address entries

-- The neighbours are those that the history gives, each as its story says, in the order of their addresses.
pub record Stands (entries : List NeighbourEntry) (history : List Row) : Type 0 where
  pub each : (key : ℕ) → entry_in key entries ≡ entry_of key (story key history)
  pub order : Rises entries

-- the neighbours gain a row
abbrev pub GainsRow : List NeighbourEntry → List NeighbourEntry → Row → Type 0
GainsRow = growing.GainsRow Stands

-- how many neighbours at the front have lower addresses
abbrev pub place_in : ℕ → List NeighbourEntry → ℕ
place_in key entries = place_of address key entries

-- the list with the neighbour changed, if it is there
pub data Alters (key : ℕ) (change : NeighbourEntry → NeighbourEntry) (old new : List NeighbourEntry) : Type 0 where
  NotThere : entry_in key old ≡ None → new ≡ old → Alters key change old new
  There : (at : ℕ) (entry : NeighbourEntry) → at < length old → entry ≡ slice_index_or old at entry → entry_in key old ≡ Some entry → new ≡ slice_set old at (change entry) → Alters key change old new
