-- Only what is kept, in the code's terms: what the wish for a neighbour's link-layer address makes of an entry.
use Rattle.std.specs.Prelude.{ℕ, Option, Some, None, false, true, max, [], ◌+◌, List}
use Rattle.nd_table.specs.HistoryKept.{GainsRowsMakingPlace}
use Rattle.nd_neighbour.specs.History.{story}
use Rattle.nd_neighbour.specs.EntryKept.{Stage, Resolving, Known, NeighbourEntry}
use Rattle.nd_neighbour.specs.Place.{Prepares}
use Rattle.nd_neighbour.specs.SendingKept.{known_used}
use Rattle.nd_neighbour.specs.Story.{is_present, mac_of}
use Rattle.nd_neighbour.specs.TableKept.{Stands}
use Rattle.nd_neighbour.specs.Wanting.{Wanting, IsKnown, Awaits, then_wanted}

-- for each history that old stands for, new stands for it with the rows of the wish, and with what makes room before
abbrev pub GainsWish : ℕ → ℕ → ℕ → ℕ → ℕ → List NeighbourEntry → List NeighbourEntry → Type 0
GainsWish limit now key retrans room old new =
    GainsRowsMakingPlace Stands old new (Prepares limit now true key)
    (λ history made. then_wanted (is_present (story key history)) (mac_of (story key history)) now key retrans room made)

-- what becomes of it, by what is kept
abbrev pub wanting_to : Stage → Wanting
wanting_to (Resolving retrans sent wanted waiting) = Awaits false
wanting_to (Known mac confirmed since probing) = IsKnown mac

-- and of a neighbour that may not be there
abbrev pub wanting_in : Option NeighbourEntry → Wanting
wanting_in None = Awaits true
wanting_in (Some n) = wanting_to n.stage

-- what the wish makes of what is kept: in INCOMPLETE the caller waits; otherwise it is a use
abbrev pub wished_to : Stage → ℕ → ℕ → NeighbourEntry → NeighbourEntry
wished_to (Resolving retrans sent wanted waiting) at new_retrans n =
    record { key = n.key; router = n.router; due = n.due; stage = Resolving retrans sent true waiting }
wished_to (Known mac confirmed since probing) at retrans n = known_used mac confirmed since probing at retrans n

-- the same of a neighbour
abbrev pub wished : ℕ → ℕ → NeighbourEntry → NeighbourEntry
wished at retrans n = wished_to n.stage at retrans n

-- a resolution begins for which a caller waits, with room for so many packets
abbrev pub wished_entry : ℕ → ℕ → ℕ → ℕ → NeighbourEntry
wished_entry key at retrans room =
    record { key = key; router = false; due = at + retrans; stage = Resolving retrans 0 true (record { room = max 1 room; packets = [] }) }
