-- Only what is kept, in the code's terms: what a packet makes of an entry.
use Rattle.std.specs.Prelude.{ℕ, Bool, List, Option, false, if◌then◌else◌, None, ◌+◌, nat_le, Some, true}
use Rattle.nd_table.specs.HistoryKept.{GainsRowsMakingPlace}
use Rattle.nd_neighbour.specs.History.{story}
use Rattle.nd_neighbour.specs.declared.unreachability_detection.Probing.{Probing}
use Rattle.nd_neighbour.specs.EntryKept.{Stage, Resolving, Known, NeighbourEntry}
use Rattle.nd_packet.specs.Waiting.{replaced, then_waits}
use Rattle.nd_neighbour.specs.UnreachabilityDetection.{delay_first_probe_time}
use Rattle.nd_neighbour.specs.Story.{is_present, mac_of}
use Rattle.nd_neighbour.specs.TableKept.{Stands}
use Rattle.nd_neighbour.specs.Place.{Prepares}
use Rattle.nd_neighbour.specs.Sending.{Sending, Sends, Queues, then_packet}

-- for each history that old stands for, new stands for it with the rows of the packet, and with what makes room before
abbrev pub GainsPacket : ℕ → ℕ → ℕ → ℕ → ℕ → List ℕ → List NeighbourEntry → List NeighbourEntry → Type 0
GainsPacket limit now key retrans room packet old new =
    GainsRowsMakingPlace Stands old new (Prepares limit now true key)
    (λ history made. then_packet (is_present (story key history)) (mac_of (story key history)) now key retrans room packet made)

-- the same by what is kept
abbrev pub sending_to : Stage → List ℕ → Sending
sending_to (Resolving retrans sent wanted waiting) packet = Queues false (replaced waiting.room waiting.packets packet)
sending_to (Known mac confirmed since probing) packet = Sends mac packet

-- and of a neighbour that may not be there
abbrev pub sending_in : Option NeighbourEntry → List ℕ → Sending
sending_in None packet = Queues true None
sending_in (Some n) packet = sending_to n.stage packet

-- what a use makes of a neighbour whose address is known: in STALE the first one leads to DELAY; in REACHABLE, DELAY and PROBE nothing changes
abbrev pub known_used : ℕ → Bool → ℕ → Option Probing → ℕ → ℕ → NeighbourEntry → NeighbourEntry
known_used mac confirmed since None at retrans n =
    if nat_le since at
    then record {
      key = n.key;
      router = n.router;
      due = at + delay_first_probe_time;
      stage = Known mac confirmed since (Some (record { from = at + delay_first_probe_time; retrans = retrans; sent = 0 }));
    }
    else n
known_used mac confirmed since (Some probing) at retrans n = n

-- what a packet makes of what is kept: in INCOMPLETE it waits; otherwise it is a use
abbrev pub used_to : Stage → ℕ → ℕ → List ℕ → NeighbourEntry → NeighbourEntry
used_to (Resolving retrans sent wanted waiting) at new_retrans packet n =
    record {
      key = n.key;
      router = n.router;
      due = n.due;
      stage = Resolving retrans sent wanted (record { room = waiting.room; packets = then_waits waiting.room waiting.packets packet });
    }
used_to (Known mac confirmed since probing) at retrans packet n = known_used mac confirmed since probing at retrans n

-- the same of a neighbour
abbrev pub used : ℕ → ℕ → List ℕ → NeighbourEntry → NeighbourEntry
used at retrans packet n = used_to n.stage at retrans packet n
