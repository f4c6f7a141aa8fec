-- A packet, as a whole Ethernet frame (RFC 2464, section 3).
use Rattle.std.specs.Prelude.{ℕ, nat_lt, if◌then◌else◌, List, length, Option, Some, None}
use Rattle.nd_addr.specs.Frame.{ethernet_header_length}

-- a frame is a packet where it has an Ethernet header
abbrev pub packet_of : List ℕ → Option (List ℕ)
packet_of frame = if nat_lt (length frame) ethernet_header_length then None else Some frame
