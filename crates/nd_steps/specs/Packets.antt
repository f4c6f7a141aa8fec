-- The packets that a node is to send: one of the upper layer, to which it gives a header (RFC 4861, section 5.2), and a whole one.
use Rattle.std.specs.Prelude.{◌≡◌, ℕ, ◌+◌, List, length, Ok}
use Rattle.nd_addr.specs.declared.addr.Addr.{Addr}
use Rattle.nd_addr.specs.Ip6.{PacketParts, ipv6_header_length, packet_of}
use Rattle.nd_steps.specs.declared.packets.WholePacket.{WholePacket}

-- the packet with the header that the node gives it, and a hop limit (RFC 8200, section 3)
abbrev pub packet_with : ℕ → Addr → Addr → ℕ → List ℕ → PacketParts
packet_with hop_limit source destination next_header payload = record {
  header = record {
    traffic_class = 0;
    flow_label = 0;
    next_header = next_header;
    hop_limit = hop_limit;
    source = source;
    destination = destination;
  };
  payload = payload;
}

-- a whole packet without where its payload lies
abbrev pub whole_parts : {A : Type 0} → WholePacket A → PacketParts
whole_parts packet = record { header = packet.header; payload = packet.payload.items }

-- the bytes are one packet, and nothing behind it
pub record IsWholePacket (bytes : List ℕ) (packet : PacketParts) : Type 0 where
  pub read : packet_of bytes ≡ Ok packet
  pub all : length bytes ≡ ipv6_header_length + length packet.payload
