-- Only what is kept, in the code's terms: the entry with which a resolution begins.
use Rattle.std.specs.Prelude.{ℕ, max, ◌+◌, [], ◌∷◌, List, false}
use Rattle.nd_neighbour.specs.EntryKept.{NeighbourEntry, Resolving}

-- a resolution begins with a packet that waits, with room for so many
abbrev pub asked_entry : ℕ → ℕ → ℕ → ℕ → List ℕ → NeighbourEntry
asked_entry key at retrans room packet =
    record { key = key; router = false; due = at + retrans; stage = Resolving retrans 0 false (record { room = max 1 room; packets = packet ∷ [] }) }
