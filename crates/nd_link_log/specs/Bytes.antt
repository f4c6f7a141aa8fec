-- What is handed to a link is bytes, and so is what its nodes send. An address that is given to a node by hand is one that an interface may have.
use Rattle.std.specs.Prelude.{ℕ, ◌<◌, List, ◌∷◌}
use Rattle.std.specs.List.{All}
use Rattle.nd_addr.specs.Bytes.{IsBytes, AreBytes}
use Rattle.nd_table.specs.History.{Past}
use Rattle.nd_chronicle.specs.Happening.{Sent}
use Rattle.nd_chronicle.specs.Event.{ComesAsBytes}
use Rattle.nd_link_log.specs.Log.{Log, Adds}
use Rattle.nd_link_log.specs.Event.{Event, Passes, Starts, Comes, Delivers}

-- the link-layer address of a node that starts is six bytes, and it solicits once or more often for an address; a received frame is bytes, and an
-- address that is given by hand is bytes and one that an interface may have
abbrev pub IsOfBytes : Event → Type 0
IsOfBytes Passes = Unit {0}
IsOfBytes (Starts role mac transmits stream) = AreBytes 6 mac.0 × (0 < transmits)
IsOfBytes (Comes node event) = ComesAsBytes event
IsOfBytes (Delivers node number) = Unit {0}

abbrev pub AreOfBytes : List (ℕ × Event) → Type 0
AreOfBytes events = All (λ event. IsOfBytes event.1) events

-- each frame that a node sent is bytes
abbrev pub SendsBytes : Log → Type 0
SendsBytes log = (node at : ℕ) (frame : List ℕ) (before : Log) → Past (Adds node at (Sent frame) ∷ before) log → IsBytes frame
