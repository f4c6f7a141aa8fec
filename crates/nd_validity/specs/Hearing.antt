-- What is heard in a frame: a valid message, another packet, or the first reason to drop it.
use Rattle.std.specs.Prelude.{◌≡◌, ◌≢◌, ℕ, ◌%◌, Bool, ◌&&◌, nat_lt, nat_le, nat_eq, List, length, slice_index, Option, Some, None, Result, Ok, Err, if◌then◌else◌}
use Rattle.nd_addr.specs.declared.addr.Addr.{Addr}
use Rattle.nd_addr.specs.declared.ip6.Ip6.{Ip6}
use Rattle.nd_addr.specs.declared.role.Role.{Role}
use Rattle.nd_addr.specs.declared.why.Why.{Why}
use Rattle.nd_addr.specs.declared.why.Why.TheVariants.{HopLimit, Sum, NotForUs}
use Rattle.nd_addr.specs.Frame.{FrameParts, frame_of}
use Rattle.nd_addr.specs.Ip6.{PacketParts, next_header_icmpv6, packet_parts, packet_of}
use Rattle.nd_addr.specs.Checksum.{total}
use Rattle.nd_addr.specs.Places.{header_in, payload_in, parts_in}
use Rattle.nd_decode.specs.Message.{Parts, parts, Spells}
use Rattle.nd_decode.specs.Decoding.{decode_of}
use Rattle.nd_decode.specs.Carried.{message_hop_limit}
use Rattle.nd_validity.specs.declared.hearing.Hearing.{Hearing}
use Rattle.nd_validity.specs.declared.hearing.Hearing.TheVariants as hearings
use Rattle.nd_validity.specs.Validity.{fault_of, is_not_for}
use Rattle.nd_validity.specs.Reasons.{IsMessage, IsReason, order, IsFirstOf, NoneOf}

-- what is heard, without where its bytes lie
pub data Outcome : Type 0 where
  valid : Addr → Addr → Parts → Outcome
  other : PacketParts → Outcome
  dropped : Why → Outcome

abbrev pub outcome : Hearing → Outcome
outcome (hearings.Valid heard) = valid heard.source heard.destination (parts heard.message)
outcome (hearings.Other packet) = other (packet_parts packet)
outcome (hearings.Drop why) = dropped why

-- What is heard in a frame: the first reason that holds; where none does, the message with its source and its destination, or the
-- packet that is no message.
abbrev pub Hears : List ℕ → Role → Outcome → Type 0
Hears frame role (dropped why) = IsFirstOf (IsReason frame role) order why
Hears frame role (other packet) = NoneOf (IsReason frame role) order
    × (IsMessage (header_in frame) (payload_in frame) → ⊥) × (packet ≡ parts_in frame)
Hears frame role (valid source destination message) = NoneOf (IsReason frame role) order × IsMessage (header_in frame) (payload_in frame)
    × (source ≡ (header_in frame).source) × (destination ≡ (header_in frame).destination) × Spells (payload_in frame) message

-- what a role hears that takes the message: of two roles that both take it, both hear the same
abbrev pub HearsInSomeRole : List ℕ → Outcome → Type 0
HearsInSomeRole frame heard = (role : Role) × Hears frame role heard × (heard ≢ dropped NotForUs)

-- ---- the same by functions

-- the test of a message of Neighbor Discovery
abbrev pub is_message : Ip6 → List ℕ → Bool
is_message header payload =
    nat_eq header.next_header next_header_icmpv6 && nat_lt 0 (length payload) && nat_le 133 (slice_index payload 0) && nat_le (slice_index payload 0) 137

-- the test of its checksum
abbrev pub has_good_sum : Addr → Addr → List ℕ → Bool
has_good_sum source destination message = nat_lt 0 (total source.0 destination.0 message) && nat_eq (total source.0 destination.0 message % 65535) 0

-- a reason, or what is heard
abbrev pub unless : Option Why → Outcome → Outcome
unless (Some why) heard = dropped why
unless None heard = heard

-- what is heard in the bytes of a message
abbrev pub outcome_of_message : Ip6 → Result Parts Why → Outcome
outcome_of_message header (Err why) = dropped why
outcome_of_message header (Ok message) = unless (fault_of header.source header.destination message) (valid header.source header.destination message)

-- what is heard in a packet
abbrev pub outcome_of_packet : PacketParts → Outcome
outcome_of_packet packet =
    if is_message packet.header packet.payload then
    (if nat_eq packet.header.hop_limit message_hop_limit then
    (if has_good_sum packet.header.source packet.header.destination packet.payload then outcome_of_message packet.header (decode_of packet.payload) else dropped Sum)
    else dropped HopLimit)
    else other packet

abbrev pub outcome_in_frame : Result PacketParts Why → Outcome
outcome_in_frame (Err why) = dropped why
outcome_in_frame (Ok packet) = outcome_of_packet packet

abbrev pub outcome_behind : Result FrameParts Why → Outcome
outcome_behind (Err why) = dropped why
outcome_behind (Ok frame) = outcome_in_frame (packet_of frame.rest)

-- what is heard in a frame by a role that takes the message: the frame, its packet, its message
unfoldable pub hearing_in_some_role : List ℕ → Outcome
hearing_in_some_role frame = outcome_behind (frame_of frame)

-- the same by a role, which may not take it
abbrev pub taken_by : Role → Outcome → Outcome
taken_by role (valid source destination message) = if is_not_for role message.body then dropped NotForUs else valid source destination message
taken_by role heard = heard

-- what is heard in a frame by a role
abbrev pub hearing_of : List ℕ → Role → Outcome
hearing_of frame role = taken_by role (hearing_in_some_role frame)
