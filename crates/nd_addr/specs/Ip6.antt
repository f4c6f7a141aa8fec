-- An IPv6 header and its payload (RFC 8200, section 3).
use Rattle.std.specs.Prelude.{◌≡◌, ℕ, ◌+◌, ◌*◌, ◌/◌, ◌%◌, ◌^◌, ◌<◌, List, [], ◌∷◌, ◌++◌, length, drop, Result, Ok, Err, slice_index, slice_range, nat_lt, ◌==◌, if◌then◌else◌}
use Rattle.byteorder.specs.Endian.{big_number, big_bytes}
use Rattle.nd_addr.specs.declared.why.Why.{Why}
use Rattle.nd_addr.specs.declared.why.Why.TheVariants.{HeaderShort, Version, PayloadShort}
use Rattle.nd_addr.specs.declared.ip6.Ip6.{Ip6}
use Rattle.nd_addr.specs.declared.ip6.Ip6Ref.{Ip6Ref}

-- the next header of ICMPv6 (RFC 4443, section 1)
abbrev pub next_header_icmpv6 : ℕ
next_header_icmpv6 = 58

-- the least MTU of a link, in bytes (RFC 8200, section 5)
abbrev pub least_mtu : ℕ
least_mtu = 1280

-- how many bytes an IPv6 header has
abbrev pub ipv6_header_length : ℕ
ipv6_header_length = 40

-- a header that its bytes hold: a byte of traffic class, 20 bits of flow label, two addresses
pub record FitsHeader (header : Ip6) : Type 0 where
  pub traffic_class : header.traffic_class < 256
  pub flow_label : header.flow_label < 2 ^ 20
  pub source : length header.source.0 ≡ 16
  pub destination : length header.destination.0 ≡ 16

-- a packet without where its payload lies
pub record PacketParts : Type 0 where
  pub header : Ip6
  pub payload : List ℕ

abbrev pub packet_parts : Ip6Ref → PacketParts
packet_parts p = record { header = p.header; payload = p.payload.now }

-- the fields of a header at their places
abbrev pub header_of : List ℕ → Ip6
header_of bytes = record {
  traffic_class = big_number 4 bytes / 2 ^ 20 % 256;
  flow_label = big_number 4 bytes % 2 ^ 20;
  next_header = slice_index bytes 6;
  hop_limit = slice_index bytes 7;
  source = record { 0 = slice_range bytes 8 24 };
  destination = record { 0 = slice_range bytes 24 40 };
}

-- the number of payload bytes that a header says
abbrev pub payload_length_of : List ℕ → ℕ
payload_length_of bytes = big_number 2 (drop 4 bytes)

-- as many bytes behind the header as it says
abbrev pub payload_of : List ℕ → List ℕ
payload_of bytes = slice_range bytes ipv6_header_length (ipv6_header_length + payload_length_of bytes)

-- the header at its place, and as many bytes behind it as it says; what follows is padding
abbrev pub packet_of : List ℕ → Result PacketParts Why
packet_of bytes =
    if nat_lt (length bytes) ipv6_header_length then Err HeaderShort else
    if big_number 4 bytes / 2 ^ 28 == 6 then
    (if nat_lt (length bytes) (ipv6_header_length + payload_length_of bytes) then Err PayloadShort else
    Ok (record { header = header_of bytes; payload = payload_of bytes }))
    else Err Version

-- version 6, class and flow label in the first four bytes, then the other fields in their order; the length is the payload's
abbrev pub written_header : Ip6 → ℕ → List ℕ
written_header header len =
    big_bytes 4 (6 * 2 ^ 28 + header.traffic_class * 2 ^ 20 + header.flow_label % 2 ^ 20) ++ big_bytes 2 len
    ++ (header.next_header ∷ header.hop_limit ∷ []) ++ header.source.0 ++ header.destination.0

-- the header, and the payload behind it
abbrev pub written_packet : Ip6 → List ℕ → List ℕ
written_packet header payload = written_header header (length payload) ++ payload
