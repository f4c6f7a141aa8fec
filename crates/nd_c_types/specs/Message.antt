-- A message of ICMPv6 that a stack has taken out of its packet, from C, and the frame that has its fields.
use Rattle.std.specs.Prelude.{ℕ, Bool, ◌&&◌, nat_eq, nat_le, nat_lt, if◌then◌else◌, List, ◌++◌, length, replicate, slice_index}
use Rattle.byteorder.specs.Endian.{big_bytes}
use Rattle.nd_addr.specs.declared.ip6.Ip6.{Ip6}
use Rattle.nd_addr.specs.declared.mac.Mac.{Mac}
use Rattle.nd_addr.specs.Checksum.{sum_to_write, with_sum}
use Rattle.nd_addr.specs.Frame.{written_headers}
use Rattle.nd_addr.specs.Ip6.{next_header_icmpv6}
use Rattle.nd_c_types.specs.declared.message.Message.{Message}

-- bytes that begin with the type of a message of Neighbor Discovery (RFC 4861, sections 4.1 to 4.5)
abbrev pub has_known_type : List ℕ → Bool
has_known_type bytes = nat_lt 0 (length bytes) && (nat_le 133 (slice_index bytes 0) && nat_le (slice_index bytes 0) 137)

-- a flag of 0 or 1, nothing in the reserved field, as many bytes as a packet may have (RFC 8200, section 3), and the type of a message
abbrev pub is_message : Message → List ℕ → Bool
is_message message bytes =
    nat_le message.checksum_good 1 && (nat_eq message.reserved 0 && (nat_le (length bytes) 65535 && has_known_type bytes))

-- an Ethernet address that is not looked at
abbrev pub no_mac : Mac
no_mac = record { 0 = replicate 6 0 }

-- the IPv6 header
abbrev pub header_of : Message → Ip6
header_of message = record {
  traffic_class = 0;
  flow_label = 0;
  next_header = next_header_icmpv6;
  hop_limit = message.hop_limit;
  source = record { 0 = message.source };
  destination = record { 0 = message.destination };
}

-- the message: with the right checksum, where the stack has seen that it is good (RFC 4443, section 2.3)
abbrev pub bytes_in : Message → List ℕ → List ℕ
bytes_in message bytes =
    if nat_eq message.checksum_good 1 then with_sum (big_bytes 2 (sum_to_write message.source message.destination bytes)) bytes else bytes

-- the frame
abbrev pub frame_of : Message → List ℕ → List ℕ
frame_of message bytes = written_headers no_mac no_mac (header_of message) (length bytes) ++ bytes_in message bytes
