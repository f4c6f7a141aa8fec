-- A router forwards a packet, and sends its sender a Redirect to a better first hop (RFC 8200, section 3; RFC 4861, section 8.2).
use Rattle.std.specs.Prelude.{◌≡◌, ℕ, ◌-◌, Bool, if◌then◌else◌, List, ◌∷◌, Option, Some, None}
use Rattle.std.specs.Option.{option_map}
use Rattle.nd_addr.specs.declared.addr.Addr.{Addr}
use Rattle.nd_addr.specs.declared.mac.Mac.{Mac}
use Rattle.nd_addr.specs.Frame.{written_frame}
use Rattle.nd_addr.specs.Ip6.{PacketParts}
use Rattle.nd_addr.specs.Number.{number_of, mac_at}
use Rattle.nd_compose.specs.Frames.{open_mac}
use Rattle.nd_compose.specs.Redirect.{redirect_frame}
use Rattle.nd_neighbour.specs.History.{story}
use Rattle.nd_neighbour.specs.Story.{mac_of}
use Rattle.nd_nexthop.specs.NextHop.{NextHop, direct, via, no_route}
use Rattle.nd_forwarding.specs.Forward.{Fate, lost_no_route, lost_hop_limit, sent, fate}
use Rattle.nd_forwarding.specs.Redirect.{last_redirect, redirect}
use Rattle.nd_forwarding.specs.Routes.{routes}
use Rattle.nd_chronicle.specs.Start.{Start, link_local}
use Rattle.nd_chronicle.specs.Happening.{Chronicle, Lost, NoRoute, HopLimit, RedirectMade}
use Rattle.nd_chronicle.specs.Histories.{neighbour_history, route_history}
use Rattle.nd_chronicle.specs.OwnAddress.{is_own}
use Rattle.nd_chronicle.specs.Packet.{Goes, GoesIfPlaced, HavePlace, no_place}
use Rattle.nd_chronicle.specs.Refused.{UnlessFull}

-- the link-layer address of a neighbour, if it is known
abbrev pub known_mac_of : Chronicle → Addr → Option Mac
known_mac_of c a = option_map mac_at (mac_of (story (number_of a.0) (neighbour_history c)))

-- whose next hop it is
abbrev pub key_of : NextHop → Addr → ℕ
key_of direct destination = number_of destination.0
key_of (via key) destination = key
key_of no_route destination = 0

module _ (start : Start) (now : ℕ) where
  -- it goes to the sender of the packet, which is quoted as received
  abbrev pub better_hop_frame : Addr → PacketParts → List ℕ → Chronicle → List ℕ
  better_hop_frame target packet bytes c =
      redirect_frame start.mac (link_local start) packet.header.source (known_mac_of c target) target packet.header.destination bytes

  -- ---- the packet

  -- as received
  abbrev pub frame_as_it_came : PacketParts → List ℕ
  frame_as_it_came packet = written_frame open_mac start.mac packet.header packet.payload

  -- "decremented by 1 by each node that forwards the packet" (RFC 8200, section 3)
  abbrev pub frame_sent_on : PacketParts → List ℕ
  frame_sent_on packet = written_frame open_mac start.mac (record packet.header { hop_limit = packet.header.hop_limit - 1 }) packet.payload

  -- a Redirect is made, and goes, and then the packet
  pub record Redirects (target : Addr) (packet : PacketParts) (bytes : List ℕ) (key : ℕ) (c d : Chronicle) : Type 0 where
    pub told : Chronicle
    pub redirect : Goes start ((now, RedirectMade) ∷ c) now (number_of packet.header.source.0) (better_hop_frame target packet bytes c) told
    pub behind : Goes start told now key (frame_sent_on packet) d

  -- both go or none does, if there is no room for one of them
  abbrev pub SendsOn : Option Addr → PacketParts → List ℕ → ℕ → Chronicle → Chronicle → Type 0
  SendsOn None packet bytes key c d = GoesIfPlaced start now key (frame_sent_on packet) c d
  SendsOn (Some target) packet bytes key c d =
      (place : Bool) × HavePlace start c now (number_of packet.header.source.0) key place
      × UnlessFull now (no_place place) (Redirects target packet bytes key c) c d

  -- "The Source Address field of the packet identifies a neighbor" (RFC 4861, section 8.2): it is no address of the router's own
  abbrev pub redirect_to : PacketParts → Chronicle → Option Addr
  redirect_to packet c =
      if is_own c packet.header.source.0 then None
      else redirect (is_own c) (routes (route_history c)) (last_redirect (route_history c)) now packet.header

  abbrev pub FateAdds : Fate → PacketParts → List ℕ → Chronicle → Chronicle → Type 0
  FateAdds lost_no_route packet bytes c d = d ≡ (now, Lost NoRoute (frame_as_it_came packet)) ∷ c
  FateAdds lost_hop_limit packet bytes c d = d ≡ (now, Lost HopLimit (frame_as_it_came packet)) ∷ c
  FateAdds (sent next) packet bytes c d = SendsOn (redirect_to packet c) packet bytes (key_of next packet.header.destination) c d

  -- what a packet adds that is in transit, of these bytes
  abbrev pub ForwardAdds : PacketParts → List ℕ → Chronicle → Chronicle → Type 0
  ForwardAdds packet bytes c d = FateAdds (fate (is_own c) (routes (route_history c)) packet.header) packet bytes c d
