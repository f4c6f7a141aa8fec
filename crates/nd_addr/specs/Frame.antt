-- An Ethernet frame that holds an IPv6 packet (RFC 2464, section 3).
use Rattle.std.specs.Prelude.{List, ℕ, [], ◌∷◌, ◌++◌, length, drop, Result, Ok, Err, ◌+◌, slice_range, nat_lt, ◌==◌, if◌then◌else◌}
use Rattle.byteorder.specs.Endian.{big_number}
use Rattle.nd_addr.specs.declared.why.Why.{Why}
use Rattle.nd_addr.specs.declared.why.Why.TheVariants.{FrameShort, NotIpv6}
use Rattle.nd_addr.specs.declared.mac.Mac.{Mac}
use Rattle.nd_addr.specs.declared.ip6.Ip6.{Ip6}
use Rattle.nd_addr.specs.Ip6.{ipv6_header_length, written_header, written_packet}

-- how many bytes an Ethernet header has
abbrev pub ethernet_header_length : ℕ
ethernet_header_length = 14

-- a frame without where its bytes lie
pub record FrameParts : Type 0 where
  pub destination : Mac
  pub source : Mac
  pub rest : List ℕ

-- the fields at their places
abbrev pub frame_of : List ℕ → Result FrameParts Why
frame_of bytes =
    if nat_lt (length bytes) ethernet_header_length then Err FrameShort else
    if big_number 2 (drop 12 bytes) == 0x86dd then Ok (record {
      destination = record { 0 = slice_range bytes 0 6 };
      source = record { 0 = slice_range bytes 6 12 };
      rest = drop ethernet_header_length bytes;
    }) else Err NotIpv6

-- the MTU of Ethernet, in bytes (RFC 2464, section 2)
abbrev pub ethernet_mtu : ℕ
ethernet_mtu = 1500

-- how many bytes precede the payload: the fields, and the header (RFC 2464, section 3; RFC 8200, section 3)
abbrev pub headers_length : ℕ
headers_length = ethernet_header_length + ipv6_header_length

-- the fields one after the other, and the header of a packet with a payload of this length
abbrev pub written_headers : Mac → Mac → Ip6 → ℕ → List ℕ
written_headers destination source header len = destination.0 ++ source.0 ++ (0x86 ∷ 0xdd ∷ []) ++ written_header header len

-- the fields one after the other, and the packet
abbrev pub written_frame : Mac → Mac → Ip6 → List ℕ → List ℕ
written_frame destination source header payload = destination.0 ++ source.0 ++ (0x86 ∷ 0xdd ∷ []) ++ written_packet header payload

-- the frame to another Ethernet address, which its first six bytes are
abbrev pub addressed : Mac → List ℕ → List ℕ
addressed destination frame = destination.0 ++ drop 6 frame
