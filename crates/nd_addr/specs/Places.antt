-- Where the parts of a frame that holds an IPv6 packet lie (RFC 2464, section 3; RFC 8200, section 3).
use Rattle.std.specs.Prelude.{ℕ, List, drop}
use Rattle.nd_addr.specs.declared.ip6.Ip6.{Ip6}
use Rattle.nd_addr.specs.Ip6.{PacketParts, header_of, payload_of}

-- the IPv6 packet, and the padding behind it
abbrev pub packet_in : List ℕ → List ℕ
packet_in frame = drop 14 frame

-- the fields of its header
abbrev pub header_in : List ℕ → Ip6
header_in frame = header_of (packet_in frame)

-- its payload, without the padding
abbrev pub payload_in : List ℕ → List ℕ
payload_in frame = payload_of (packet_in frame)

-- the header and the payload
abbrev pub parts_in : List ℕ → PacketParts
parts_in frame = record { header = header_in frame; payload = payload_in frame }
