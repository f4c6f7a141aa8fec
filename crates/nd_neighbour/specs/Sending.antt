-- A packet is to be sent to a neighbour (RFC 4861, sections 7.2.2 and 7.3.3).
use Rattle.std.specs.Prelude.{ℕ, Bool, List, Option, false, ◌∷◌, None, Some, true, Result, Ok, Err}
use Rattle.nd_neighbour.specs.declared.refusal.CacheRefusal.{CacheRefusal}
use Rattle.nd_neighbour.specs.History.{Row, Asked, Waits, Used, Story}
use Rattle.nd_packet.specs.Waiting.{replaced}
use Rattle.nd_neighbour.specs.AddressResolution.{resolution_of, room_in, waiting_of}
use Rattle.nd_neighbour.specs.Story.{is_present, mac_of}

-- what becomes of a packet: it is sent to an address, or it waits, where one for which there is no room replaces the oldest
pub data Sending : Type 0 where
  Sends : (mac : ℕ) (packet : List ℕ) → Sending
  Queues : (solicit : Bool) (replaced : Option (List ℕ)) → Sending

-- what becomes of the packet: it begins a resolution, or waits, or is sent
abbrev pub sending_by : Bool → Option ℕ → ℕ → List (List ℕ) → List ℕ → Sending
sending_by false known room waiting packet = Queues true None
sending_by true None room waiting packet = Queues false (replaced room waiting packet)
sending_by true (Some mac) room waiting packet = Sends mac packet

-- the same by the story
abbrev pub sending_of_story : Story → List ℕ → Sending
sending_of_story s packet = sending_by (is_present s) (mac_of s) (room_in (resolution_of s)) (waiting_of s) packet

-- what a packet adds: a use where an address is known, else it waits; the first one begins a resolution, with room
-- for so many
abbrev pub then_packet : Bool → Option ℕ → ℕ → ℕ → ℕ → ℕ → List ℕ → List Row → List Row
then_packet false known now key retrans room packet history = (now, key, Waits packet) ∷ (now, key, Asked retrans room) ∷ history
then_packet true None now key retrans room packet history = (now, key, Waits packet) ∷ history
then_packet true (Some mac) now key retrans room packet history = (now, key, Used retrans) ∷ history

-- why a packet is refused
abbrev pub refusal_of : {U P : Type 0} → Result U (CacheRefusal × P) → Option CacheRefusal
refusal_of (Ok sent) = None
refusal_of (Err refused) = Some refused.0
