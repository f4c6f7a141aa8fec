-- What an event adds to a chronicle: a frame, a packet to be sent, a command. The milliseconds up to it have passed.
use Rattle.std.specs.Prelude.{◌≡◌, ℕ, Bool, true, ◌+◌, ◌&&◌, ◌||◌, not, nat_lt, if◌then◌else◌, MatchBool, List, [], ◌∷◌, length, take, Option, Some, None}
use Rattle.std.specs.List.{All}
use Rattle.nd_addr.specs.declared.addr.Addr.{Addr}
use Rattle.nd_addr.specs.declared.mac.Mac.{Mac}
use Rattle.nd_addr.specs.Bytes.{IsBytes}
use Rattle.nd_addr.specs.Frame.{written_frame}
use Rattle.nd_addr.specs.Ip6.{PacketParts, ipv6_header_length, payload_length_of}
use Rattle.nd_addr.specs.Kind.{multicast_prefix}
use Rattle.nd_addr.specs.Number.{number_of, holds}
use Rattle.nd_addr.specs.Places.{packet_in}
use Rattle.nd_addr.specs.Prefix.{PrefixValue}
use Rattle.nd_advertiser.specs.Config.{Settings}
use Rattle.nd_decode.specs.Message.{Parts}
use Rattle.nd_decode.specs.declared.body.Body.{Body}
use Rattle.nd_decode.specs.declared.body.Body.TheVariants as bodies
use Rattle.nd_decode.specs.declared.prefix_info.PrefixInfo.{PrefixInfo}
use Rattle.nd_table.specs.declared.lasting.Lasting.{Lasting}
use Rattle.nd_table.specs.Listing.{Lists}
use Rattle.nd_neighbour.specs.EntryKept.{NeighbourEntry, waiting_in}
use Rattle.nd_neighbour.specs.History as neighbours
use Rattle.nd_neighbour.specs.History.{story}
use Rattle.nd_neighbour.specs.Story.{waits_of}
use Rattle.nd_neighbour.specs.TableKept as cache
use Rattle.nd_nexthop.specs.NextHop.{NextHop, direct, via, no_route}
use Rattle.nd_slaac.specs.ByHand.{AddressByHand, IsOwnAddress}
use Rattle.nd_routers.specs.History.{announcements}
use Rattle.nd_routers.specs.Routers.{same}
use Rattle.nd_forwarding.specs.declared.route.Route.{Route}
use Rattle.nd_forwarding.specs.Forward.{may_be_forwarded}
use Rattle.nd_chronicle.specs.Start.{Start}
use Rattle.nd_chronicle.specs.Happening.{Chronicle, Heard, Dropped, Up, Neighbour, LeftRouter, ClearedPrefixes, ClearedRedirects, ClearedDns, Configured, Offered, RoutePut, Sent, Lost, Shown, Limit, Refusal, Refused, Full, Disabled, Tentative, NotOurs, TooLong, NoRoute, Forgotten}
use Rattle.nd_chronicle.specs.Histories.{neighbour_history, router_history}
use Rattle.nd_chronicle.specs.InForce.{hop_limit, link_mtu, reachable_time}
use Rattle.nd_chronicle.specs.OwnAddress.{is_assigned, is_disabled, is_own, is_up}
use Rattle.nd_compose.specs.Frames.{multicast_mac, open_mac}
use Rattle.nd_chronicle.specs.Packet.{losing, GoesIfPlaced}
use Rattle.nd_chronicle.specs.NextHop.{IsHopOf}
use Rattle.nd_chronicle.specs.Hearing.{Verdict, hears, goes_up, goes_on, drops, IsHeard}
use Rattle.nd_chronicle.specs.Message.{said, PlaceFor, RoomFor, failing_for, releasing}
use Rattle.nd_chronicle.specs.RouterAdvertisement.{then_advertised}
use Rattle.nd_chronicle.specs.ByHand.{SetAdds, withdrawing}
use Rattle.nd_chronicle.specs.NeighborSolicitation.{ThenSolicited, is_router, then_answered}
use Rattle.nd_chronicle.specs.NeighborAdvertisement.{then_neighbor_advertised}
use Rattle.nd_chronicle.specs.Full.{Fills}
use Rattle.nd_chronicle.specs.Parts.{Taken, IsTakenInPart, ignoring}
use Rattle.nd_chronicle.specs.Refused.{UnlessRefused, UnlessFull, AtRouter}
use Rattle.nd_chronicle.specs.Advertising.{planning, wants_answer, ceasing, full_of_offers, full_of_routes}
use Rattle.nd_chronicle.specs.Forwarding.{ForwardAdds}
use Rattle.nd_chronicle.specs.Resolve.{ResolveAdds}
use Rattle.nd_chronicle.specs.Shown.{Table, AreRows}

-- the tables that a command clears
pub data Clearable : Type 0 where
  ClearNeighbours : Clearable
  ClearRouters : Clearable
  ClearPrefixes : Clearable
  ClearRedirects : Clearable
  ClearDns : Clearable

pub data Event : Type 0 where
  -- time passes
  Passes : Event
  -- a frame is received
  Receives : (frame : List ℕ) → Event
  -- a packet is to be sent
  Sends : (source destination : Addr) (next_header : ℕ) (payload : List ℕ) → Event
  -- a whole packet is to be sent, which a stack has built or received on another interface
  Carries : (packet : PacketParts) → Event
  -- a caller that keeps its packets asks where those to a destination go
  Resolves : (destination : Addr) → Event
  -- an upper layer confirms that a neighbour is reached (RFC 4861, section 7.3.1)
  Confirms : (neighbour : Addr) → Event
  -- a neighbour is to be forgotten
  Forgets : (neighbour : Addr) → Event
  Clears : (table : Clearable) → Event
  Shows : (table : Table) → Event
  -- a router is to advertise with these settings, and this prefix too (RFC 4861, section 6.2.1)
  Advertises : (settings : Settings) → Event
  Offers : (info : PrefixInfo) → Event
  -- a router is to have a static route
  Routes : (prefix : PrefixValue) (route : Route) → Event
  -- a router is to cease advertising (section 6.2.5)
  Stops : Event
  -- the node is to have an address (RFC 4862, section 5.4), and to have it no more
  Sets : (own : AddressByHand) → Event
  Withdraws : (address : Addr) → Event

-- a received frame is bytes, and so is an address that is given by hand, which an interface may have
pub record ComesAsBytes (event : Event) : Type 0 where
  pub frame : (frame : List ℕ) → event ≡ Receives frame → IsBytes frame
  pub own : (own : AddressByHand) → event ≡ Sets own → IsOwnAddress own

-- the same of events with their moments
abbrev pub ComeAsBytes : List (ℕ × Event) → Type 0
ComeAsBytes events = All (λ event. ComesAsBytes event.1) events

-- the packet of a frame, from its IPv6 header to the end of its payload: what follows is padding
abbrev pub packet_bytes : List ℕ → List ℕ
packet_bytes frame = take (ipv6_header_length + payload_length_of (packet_in frame)) (packet_in frame)

module _ (start : Start) (now : ℕ) where
  -- ---- a frame is received

  -- what a message adds that is for this node and for which all tables have room
  abbrev pub MessageAdds : Addr → Addr → Parts → Body → Chronicle → Chronicle → Type 0
  MessageAdds source destination message (bodies.Ns ns) c d = ThenSolicited start now source destination ns.target message c d
  MessageAdds source destination message (bodies.Ra ra) c d =
      (gone : Option ℕ) × (placed : Chronicle) × RoomFor start c now (said c source message) gone placed
      × (d ≡ then_advertised start now source destination ra message true gone (neighbour_history c) placed)
  MessageAdds source destination message (bodies.Na na) c d =
      (placed : Chronicle) × PlaceFor start c now (said c source message) placed × (d ≡ then_neighbor_advertised start now source destination na.target message placed)
  MessageAdds source destination message (bodies.Redirect r) c d =
      (gone : Option ℕ) × (placed : Chronicle) × RoomFor start c now (said c source message) gone placed
      × (d ≡ releasing now (said c source message) (neighbour_history placed)
      (failing_for now gone (neighbour_history c) ((now, Heard source destination message) ∷ placed)))
  MessageAdds source destination message bodies.Rs c d =
      (gone : Option ℕ) × (placed : Chronicle) × RoomFor start c now (said c source message) gone placed
      × (d ≡ planning start now (wants_answer start c) (releasing now (said c source message) (neighbour_history placed)
      (failing_for now gone (neighbour_history c) ((now, Heard source destination message) ∷ placed))))

  -- the same of what is taken of a message, where it isn't all of it: its router may not be listed, and an asker may get no entry
  abbrev pub PartAdds : Addr → Addr → Parts → Taken → Body → Chronicle → Chronicle → Type 0
  PartAdds source destination message taken (bodies.Ns ns) c d =
      MatchBool taken.place (MessageAdds source destination taken.message (bodies.Ns ns) c d) (d ≡ then_answered start now source destination ns.target message taken.message c)
  PartAdds source destination message taken (bodies.Ra ra) c d =
      (gone : Option ℕ) × (placed : Chronicle) × RoomFor start c now (said c source taken.message) gone placed
      × (d ≡ then_advertised start now source destination ra taken.message taken.listed gone (neighbour_history c) placed)
  PartAdds source destination message taken body c d = MessageAdds source destination taken.message body c d

  -- with the policy `parts`: what is taken adds what it adds, and then each limit is reported of which a part was passed over
  pub record InPart (source destination : Addr) (message : Parts) (c d : Chronicle) : Type 0 where
    pub taken : Taken
    pub is_taken : IsTakenInPart start c now source message message.body taken
    pub told : Chronicle
    pub adds : PartAdds source destination message taken message.body c told
    pub all : d ≡ ignoring now taken.ignored told

  -- what a message adds where a table has no room for all of it, or where each has: it is taken in part, or refused
  abbrev pub HeardAdds : Option Limit → Addr → Addr → Parts → Chronicle → Chronicle → Type 0
  HeardAdds None source destination message c d = MessageAdds source destination message message.body c d
  HeardAdds (Some limit) source destination message c d = MatchBool start.policies.parts (InPart source destination message c d) (d ≡ (now, Refused (Full limit)) ∷ c)

  abbrev pub VerdictAdds : List ℕ → Verdict → Chronicle → Chronicle → Type 0
  VerdictAdds frame (drops why) c d = d ≡ (now, Dropped why) ∷ c
  VerdictAdds frame (goes_up packet) c d = d ≡ (now, Up (packet_bytes frame)) ∷ c
  VerdictAdds frame (goes_on packet) c d = ForwardAdds start now packet (packet_bytes frame) c d
  VerdictAdds frame (hears source destination message) c d =
      (full : Option Limit) × Fills start c now source message message.body full × HeardAdds full source destination message c d

  pub record FrameAdds (frame : List ℕ) (c d : Chronicle) : Type 0 where
    pub verdict : Verdict
    pub heard : IsHeard start c now frame verdict
    pub adds : VerdictAdds frame verdict c d

  -- ---- a packet is to be sent (RFC 4861, section 5.2)

  -- the packet with the hop limit in force
  abbrev pub packet_sent : Addr → Addr → ℕ → List ℕ → Chronicle → PacketParts
  packet_sent source destination next_header payload c = record {
    header = record {
      traffic_class = 0;
      flow_label = 0;
      next_header = next_header;
      hop_limit = hop_limit c;
      source = source;
      destination = destination;
    };
    payload = payload;
  }

  -- a packet behind an Ethernet header, each of its bytes as it is
  abbrev pub frame_with : PacketParts → Mac → List ℕ
  frame_with packet to = written_frame to start.mac packet.header packet.payload

  -- what goes to a multicast address goes out at once (RFC 2464, section 7)
  abbrev pub PacketAdds : NextHop → PacketParts → Chronicle → Chronicle → Type 0
  PacketAdds no_route packet c d = d ≡ (now, Lost NoRoute (frame_with packet open_mac)) ∷ c
  PacketAdds direct packet c d =
      MatchBool (holds multicast_prefix packet.header.destination.0) (d ≡ (now, Sent (frame_with packet (multicast_mac packet.header.destination))) ∷ c)
      (GoesIfPlaced start now (number_of packet.header.destination.0) (frame_with packet open_mac) c d)
  PacketAdds (via key) packet c d = GoesIfPlaced start now key (frame_with packet open_mac) c d

  -- it goes to its next hop
  abbrev pub HopAdds : PacketParts → Chronicle → Chronicle → Type 0
  HopAdds packet c d = (next : NextHop) × IsHopOf start start.role c now packet.header.destination next × PacketAdds next packet c d

  -- why it isn't sent at all, the first that holds
  abbrev pub refusal_of_packet : Addr → List ℕ → Chronicle → Option Refusal
  refusal_of_packet source payload c =
      if is_disabled start c then Some Disabled else
      if is_assigned c source.0 then
      (if nat_lt (link_mtu c) (ipv6_header_length + length payload) then Some TooLong else None)
      else Some (NotOurs source)

  abbrev pub SendAdds : Addr → Addr → ℕ → List ℕ → Chronicle → Chronicle → Type 0
  SendAdds source destination next_header payload c d =
      UnlessRefused now (refusal_of_packet source payload c) (HopAdds (packet_sent source destination next_header payload c) c) c d

  -- ---- a whole packet is to be sent, as it is (this project's own)

  -- a router carries what another node sent, unless an address of it keeps it on its link (RFC 4291, section 2.5.6)
  abbrev pub is_of_others : PacketParts → Chronicle → Bool
  is_of_others packet c = is_router start.role && not (is_own c packet.header.source.0) && may_be_forwarded packet.header

  -- why it isn't sent at all, the first that holds
  abbrev pub refusal_of_carried : PacketParts → Chronicle → Option Refusal
  refusal_of_carried packet c =
      if is_disabled start c then Some Disabled else
      if is_up start c then
      (if is_assigned c packet.header.source.0 || is_of_others packet c then
      (if nat_lt (link_mtu c) (ipv6_header_length + length packet.payload) then Some TooLong else None)
      else Some (NotOurs packet.header.source))
      else Some Tentative

  abbrev pub CarryAdds : PacketParts → Chronicle → Chronicle → Type 0
  CarryAdds packet c d = UnlessRefused now (refusal_of_carried packet c) (HopAdds packet c) c d

  -- ---- commands

  -- the packets that wait for a neighbour that is forgotten are lost
  abbrev pub forgetting : ℕ → Chronicle → Chronicle
  forgetting key c = losing now Forgotten (waits_of (story key (neighbour_history c))) ((now, Neighbour key (neighbours.Forgot neighbours.Removed)) ∷ c)

  -- the same of all, in the order of their addresses
  abbrev pub clearing : List NeighbourEntry → Chronicle → Chronicle
  clearing [] c = c
  clearing (n ∷ entries) c = clearing entries (losing now Forgotten (waiting_in n.stage) ((now, Neighbour n.key (neighbours.Forgot neighbours.Cleared)) ∷ c))

  -- the routers leave in the order of their list
  abbrev pub all_leaving : List (Lasting ℕ) → Chronicle → Chronicle
  all_leaving [] c = c
  all_leaving (e ∷ entries) c = all_leaving entries ((now, LeftRouter e.key) ∷ c)

  abbrev pub ClearAdds : Clearable → Chronicle → Chronicle → Type 0
  ClearAdds ClearNeighbours c d = (entries : List NeighbourEntry) × cache.Stands entries (neighbour_history c) × (d ≡ clearing entries c)
  ClearAdds ClearRouters c d =
      (entries : List (Lasting ℕ)) × Lists same (announcements (router_history c)) now entries × (d ≡ (now, ClearedRedirects) ∷ all_leaving entries c)
  ClearAdds ClearPrefixes c d = d ≡ (now, ClearedPrefixes) ∷ c
  ClearAdds ClearRedirects c d = d ≡ (now, ClearedRedirects) ∷ c
  ClearAdds ClearDns c d = d ≡ (now, ClearedDns) ∷ c

  -- ---- the event

  abbrev pub EventAdds : Event → Chronicle → Chronicle → Type 0
  EventAdds Passes c d = d ≡ c
  EventAdds (Receives frame) c d = FrameAdds frame c d
  EventAdds (Sends source destination next_header payload) c d = SendAdds source destination next_header payload c d
  EventAdds (Carries packet) c d = CarryAdds packet c d
  EventAdds (Resolves destination) c d = ResolveAdds start now destination c d
  EventAdds (Confirms neighbour) c d = d ≡ (now, Neighbour (number_of neighbour.0) (neighbours.Confirmed (reachable_time c))) ∷ c
  EventAdds (Forgets neighbour) c d = d ≡ forgetting (number_of neighbour.0) c
  EventAdds (Clears table) c d = ClearAdds table c d
  EventAdds (Shows table) c d = (rows : List (List ℕ)) × AreRows start c now table rows × (d ≡ (now, Shown rows) ∷ c)
  EventAdds (Advertises settings) c d = AtRouter now start.role (λ e. e ≡ (now, Configured settings) ∷ c) c d
  EventAdds (Offers info) c d = AtRouter now start.role (λ e. UnlessFull now (full_of_offers start info.prefix c) (λ x. x ≡ (now, Offered info) ∷ c) c e) c d
  EventAdds (Routes prefix route) c d = AtRouter now start.role (λ e. UnlessFull now (full_of_routes start prefix c) (λ x. x ≡ (now, RoutePut prefix route) ∷ c) c e) c d
  EventAdds Stops c d = AtRouter now start.role (λ e. e ≡ ceasing start now c) c d
  EventAdds (Sets own) c d = SetAdds start now own c d
  EventAdds (Withdraws address) c d = d ≡ withdrawing start now (number_of address.0) c
