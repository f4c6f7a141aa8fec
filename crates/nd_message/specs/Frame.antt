-- The frame of a message (RFC 2464, section 3; RFC 4861, section 4).
use Rattle.std.specs.Prelude.{List, ℕ}
use Rattle.nd_addr.specs.declared.addr.Addr.{Addr}
use Rattle.nd_addr.specs.declared.ip6.Ip6.{Ip6}
use Rattle.nd_addr.specs.declared.mac.Mac.{Mac}
use Rattle.nd_addr.specs.Frame.{written_frame}
use Rattle.nd_addr.specs.Ip6.{next_header_icmpv6}
use Rattle.nd_decode.specs.Carried.{message_hop_limit}
use Rattle.nd_decode.specs.Message.{Parts}
use Rattle.nd_message.specs.Spelling.{written_message}

-- the header of each message: ICMPv6, and the hop limit that says that no router sent it on (RFC 4861, section 3.1)
abbrev pub message_header : Addr → Addr → Ip6
message_header source destination = record {
  traffic_class = 0;
  flow_label = 0;
  next_header = next_header_icmpv6;
  hop_limit = message_hop_limit;
  source = source;
  destination = destination;
}

-- the frame of a message, to one Ethernet address from another, from a source to a destination
unfoldable pub message_frame : Mac → Mac → Addr → Addr → Parts → List ℕ
message_frame to from source destination message = written_frame to from (message_header source destination) (written_message source destination message)
