-- Which frames carry a message (RFC 4861, section 4).
use Rattle.std.specs.Prelude.{◌≡◌, ◌≤◌, ◌+◌, ◌/◌, ◌^◌, ℕ, List, length, drop}
use Rattle.byteorder.specs.Endian.{big_number}
use Rattle.nd_addr.specs.declared.addr.Addr.{Addr}
use Rattle.nd_addr.specs.Frame.{ethernet_header_length}
use Rattle.nd_addr.specs.Ip6.{ipv6_header_length, next_header_icmpv6, header_of, payload_length_of, payload_of}
use Rattle.nd_addr.specs.Checksum.{IsGoodSum}
use Rattle.nd_addr.specs.Places.{packet_in}
use Rattle.nd_decode.specs.Message.{Parts, Spells}

-- the hop limit of every message: no router can have sent it on (RFC 4861, section 3.1)
abbrev pub message_hop_limit : ℕ
message_hop_limit = 255

-- The bytes begin with a whole IPv6 packet (RFC 8200, section 3) from the source to the destination, with this hop limit, whose
-- payload is ICMPv6, has a good checksum and spells the message.
pub record HoldsMessage (packet : List ℕ) (source destination : Addr) (message : Parts) : Type 0 where
  pub header : ipv6_header_length ≤ length packet
  pub version : big_number 4 packet / 2 ^ 28 ≡ 6
  pub whole : ipv6_header_length + payload_length_of packet ≤ length packet
  pub source_is : (header_of packet).source ≡ source
  pub destination_is : (header_of packet).destination ≡ destination
  pub hop_limit : (header_of packet).hop_limit ≡ message_hop_limit
  pub icmpv6 : (header_of packet).next_header ≡ next_header_icmpv6
  pub sum : IsGoodSum source.0 destination.0 (payload_of packet)
  pub spelled : Spells (payload_of packet) message

-- an Ethernet frame of such a packet (RFC 2464, section 3), to whomever and from whomever
pub record Carries (frame : List ℕ) (source destination : Addr) (message : Parts) : Type 0 where
  pub ethernet : ethernet_header_length ≤ length frame
  pub ipv6 : big_number 2 (drop 12 frame) ≡ 0x86dd
  pub packet : HoldsMessage (packet_in frame) source destination message
