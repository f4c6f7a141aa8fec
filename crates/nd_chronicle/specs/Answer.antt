-- The answer to an event, by what the event added.
use Rattle.std.specs.Prelude.{ℕ, Bool, true, false, nat_lt, if◌then◌else◌, [], ◌∷◌}
use Rattle.nd_chronicle.specs.Start.{Start}
use Rattle.nd_chronicle.specs.Happening as rows
use Rattle.nd_chronicle.specs.Happening.{Chronicle, Happening, Loss, Refusal, last_moment}
use Rattle.nd_chronicle.specs.Event.{Carries, Event, Sends}

-- the event took place, or its frame was dropped; its packet has no next hop, and is lost (RFC 4861, section 5.2); it was refused; it is
-- earlier than the moment up to which time had passed
pub data Answer : Type 0 where
  Done : Answer
  NoRoute : Answer
  Refused : (refusal : Refusal) → Answer
  Past : (last : ℕ) → Answer

-- a packet of the upper layer is to be sent
abbrev pub is_packet : Event → Bool
is_packet (Sends source destination next_header payload) = true
is_packet (Carries packet) = true
is_packet _ = false

-- Such a packet is lost without a next hop. One in transit is too, but nobody asked this node to send it.
abbrev pub answer_to_loss : Loss → Bool → Answer
answer_to_loss rows.NoRoute true = NoRoute
answer_to_loss _ _ = Done

-- A refusal is the last row that its event adds, and so is the loss of a packet without a next hop.
abbrev pub answer_by : Happening → Bool → Answer
answer_by (rows.Refused refusal) packet = Refused refusal
answer_by (rows.Lost why frame) packet = answer_to_loss why packet
answer_by _ packet = Done

-- the answer to an event that isn't too late, by the last row of the chronicle after it
abbrev pub answer_after : Chronicle → Bool → Answer
answer_after [] packet = Done
answer_after ((at, what) ∷ c) packet = answer_by what packet

-- the answer to an event that led from the one chronicle to the other
abbrev pub answer_to : Start → Chronicle → ℕ → Event → Chronicle → Answer
answer_to start c now event d =
    if nat_lt now (last_moment start.at c) then Past (last_moment start.at c) else answer_after d (is_packet event)
