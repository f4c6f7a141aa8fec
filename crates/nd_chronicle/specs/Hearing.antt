-- What a node hears in a frame: what the frame says by itself, unless it is not for this node, or a Redirect that does not come from the
-- current first hop (RFC 4861, sections 7.2.3, 7.2.5, 8.1 and RFC 4862, section 5.4).
use Rattle.std.specs.Prelude.{◌≡◌, ◌≢◌, ℕ, Bool, true, false, ◌&&◌, ◌||◌, not, ◌⊎◌, bytes_eq, nat_eq, slice_range, is_none, if◌then◌else◌, List}
use Rattle.std.specs.List.{list_any}
use Rattle.nd_addr.specs.declared.addr.Addr.{Addr}
use Rattle.nd_addr.specs.declared.role.Role.TheVariants.{Router}
use Rattle.nd_addr.specs.declared.why.Why.{Why}
use Rattle.nd_addr.specs.declared.why.Why.TheVariants.{NotForUs, NotFirstHop}
use Rattle.nd_addr.specs.Ip6.{PacketParts}
use Rattle.nd_addr.specs.Kind.{unspecified_address, loopback_address, all_nodes_address, all_routers_address, solicited_node_of, multicast_prefix}
use Rattle.nd_addr.specs.Number.{addr_at, holds, number_of}
use Rattle.nd_decode.specs.Message.{Parts}
use Rattle.nd_decode.specs.OfType.{kind_of}
use Rattle.nd_decode.specs.Option.{Said}
use Rattle.nd_decode.specs.declared.body.Body.{Body}
use Rattle.nd_decode.specs.declared.body.Body.TheVariants as bodies
use Rattle.nd_validity.specs.Hearing.{Outcome, valid, other, dropped}
use Rattle.nd_nexthop.specs.NextHop.{NextHop, via}
use Rattle.nd_forwarding.specs.Forward.{may_be_forwarded}
use Rattle.nd_chronicle.specs.LinkLayerAddress.{first_slla}
use Rattle.nd_chronicle.specs.Start.{Policies, Start, link_local}
use Rattle.nd_chronicle.specs.Happening.{Chronicle}
use Rattle.nd_chronicle.specs.NextHop.{IsNextHop}
use Rattle.nd_chronicle.specs.OwnAddress.{is_tentative, is_assigned, is_own, is_up}
use Rattle.nd_chronicle.specs.Solicited.{IsReadAt}

-- ---- to whom it goes

-- an address that counts, or its solicited-node address
pub record IsCounted (counts : List ℕ → Bool) (destination : Addr) : Type 0 where
  pub key : ℕ
  pub counted : counts (addr_at key).0 ≡ true
  pub to : (destination.0 ≡ (addr_at key).0) ⊎ (destination.0 ≡ solicited_node_of (addr_at key).0)

-- all nodes, at a router all routers, and each address that counts with its solicited-node address (RFC 4291, section 2.8)
abbrev pub IsOurs : Start → (List ℕ → Bool) → Addr → Type 0
IsOurs start counts destination =
    (destination.0 ≡ all_nodes_address) ⊎ (((start.role ≡ Router) × (destination.0 ≡ all_routers_address)) ⊎ IsCounted counts destination)

-- ---- of what it speaks

-- another node has the address, or tries for it: an advertisement for it, or a solicitation for it from :: (RFC 4862, sections 5.4.3 and
-- 5.4.4)
abbrev pub conflicts_with : List ℕ → Addr → Body → Bool
conflicts_with address source (bodies.Ns ns) = bytes_eq ns.target.0 address && bytes_eq source.0 unspecified_address
conflicts_with address source (bodies.Na na) = bytes_eq na.target.0 address
conflicts_with address source _ = false

-- "If the Target Address is tentative, the Neighbor Solicitation should be processed as described in [ADDRCONF]": a tentative
-- address is not answered for, so that only a conflict is heard; no other node's address is (RFC 4861, section 7.2.3)
abbrev pub takes_target : Chronicle → Addr → Body → Bool
takes_target c source (bodies.Ns ns) = is_assigned c ns.target.0 || (is_tentative c ns.target.0 && bytes_eq source.0 unspecified_address)
takes_target c source _ = true

-- Before its link-local address is assigned a node hears only what makes that a duplicate; where it is a duplicate, nothing (our choice:
-- a node has to have a link-local address).
abbrev pub is_awake : Start → Chronicle → Addr → Body → Bool
is_awake start c source body =
    is_up start c || (is_tentative c (link_local start).0 && conflicts_with (link_local start).0 source body)

-- with the policy `self` what comes from one of the node's addresses that count is of no other node
abbrev pub is_foreign : Start → (List ℕ → Bool) → Addr → Bool
is_foreign start counts source = not (start.policies.own && counts source.0)

-- ---- what is forbidden

-- an option of type 1, of any length (RFC 4861, section 4.6.1)
abbrev pub is_source_address : Said → Bool
is_source_address option = nat_eq (kind_of option) 1

-- what the policy `strict` drops for its options: a solicitation from :: with such an option, which "MUST NOT be included" there, and a Neighbor
-- Solicitation to a group without one that counts, which "MUST be included in multicast solicitations" (sections 4.1 and 4.3)
abbrev pub is_forbidden : Addr → Addr → List Said → Body → Bool
is_forbidden source destination options bodies.Rs = bytes_eq source.0 unspecified_address && list_any is_source_address options
is_forbidden source destination options (bodies.Ns ns) =
    if bytes_eq source.0 unspecified_address then list_any is_source_address options
    else holds multicast_prefix destination.0 && is_none (first_slla options)
is_forbidden source destination options _ = false

-- no packet from the loopback address leaves its node (RFC 4291, section 2.5.3)
abbrev pub is_loopback : Addr → Bool
is_loopback source = bytes_eq source.0 loopback_address

abbrev pub is_redirect : Body → Bool
is_redirect (bodies.Redirect r) = true
is_redirect _ = false

-- no policy drops the message: `unredirected` drops each Redirect, and `strict` what is forbidden
abbrev pub is_allowed : Policies → Addr → Addr → Parts → Bool
is_allowed policies source destination message =
    not (policies.unredirected && is_redirect message.body) && not (policies.strict && (is_loopback source || is_forbidden source destination message.options message.body))

-- no policy drops the packet: a multicast address is no source (RFC 4291, section 2.7)
abbrev pub is_allowed_packet : Policies → Addr → Bool
is_allowed_packet policies source = not (policies.strict && (is_loopback source || holds multicast_prefix source.0))

-- the message is for this node. The source of a defender's advertisement is the address that is tentative here: only an assigned one is the node's own.
pub record IsForUs (start : Start) (c : Chronicle) (source destination : Addr) (message : Parts) : Type 0 where
  pub destination_is : IsOurs start (is_own c) destination
  pub target : takes_target c source message.body ≡ true
  pub awake : is_awake start c source message.body ≡ true
  pub foreign : is_foreign start (is_assigned c) source ≡ true
  pub allowed : is_allowed start.policies source destination message ≡ true

-- the packet is for this node: for an address that is assigned
pub record IsPacketForUs (start : Start) (c : Chronicle) (packet : PacketParts) : Type 0 where
  pub destination_is : IsOurs start (is_assigned c) packet.header.destination
  pub up : is_up start c ≡ true
  pub allowed : is_allowed_packet start.policies packet.header.source ≡ true

-- with the policy `unicast`: the frame came to the node's own link-layer address, and to no group
abbrev pub came_to : Start → List ℕ → Bool
came_to start frame = not start.policies.unicast || bytes_eq (slice_range frame 0 6) start.mac.0

-- the packet is to be sent on: it isn't for this node, a router whose link-local address is assigned, nor for an address of its own that is
-- tentative still, and neither its source nor its destination keeps it on its link (RFC 4291, section 2.5.6)
pub record IsInTransit (start : Start) (c : Chronicle) (frame : List ℕ) (packet : PacketParts) : Type 0 where
  pub role : start.role ≡ Router
  pub not_ours : IsPacketForUs start c packet → ⊥
  pub not_own : is_own c packet.header.destination.0 ≡ false
  pub may : may_be_forwarded packet.header ≡ true
  pub up : is_up start c ≡ true
  pub came : came_to start frame ≡ true
  pub foreign : is_foreign start (is_own c) packet.header.source ≡ true

-- ---- the sender of a Redirect

-- "The IP source address of the Redirect is the same as the current first-hop router for the specified ICMP Destination Address."
-- (section 8.1)
abbrev pub FromFirstHop : Start → Chronicle → ℕ → Addr → Body → Type 0
FromFirstHop start c now source (bodies.Redirect r) = IsNextHop start c now r.destination (via (number_of source.0))
FromFirstHop start c now source _ = Unit {0}

-- it is a Redirect, and comes from another node
abbrev pub NotFromFirstHop : Start → Chronicle → ℕ → Addr → Body → Type 0
NotFromFirstHop start c now source (bodies.Redirect r) = (next : NextHop) × IsNextHop start c now r.destination next × (next ≢ via (number_of source.0))
NotFromFirstHop start c now source _ = ⊥

-- ---- what is heard

-- a message is heard; another packet goes up, to the upper layer, or on, to another node; or the frame is dropped for a reason
pub data Verdict : Type 0 where
  hears : (source destination : Addr) (message : Parts) → Verdict
  goes_up : (packet : PacketParts) → Verdict
  goes_on : (packet : PacketParts) → Verdict
  drops : (why : Why) → Verdict

-- What this node makes of what the frame says by itself: a reason stays; a message is heard that is for it and comes from where it has to;
-- another packet goes up that is for it, and on where it is in transit.
pub data Judges (start : Start) (c : Chronicle) (now : ℕ) (frame : List ℕ) : Outcome → Verdict → Type 0 where
  IsDropped : {why : Why} → Judges start c now frame (dropped why) (drops why)
  IsTaken : {source destination : Addr} {message : Parts} → IsForUs start c source destination message → FromFirstHop start c now source message.body
      → Judges start c now frame (valid source destination message) (hears source destination message)
  IsStrange : {source destination : Addr} {message : Parts} → (IsForUs start c source destination message → ⊥)
      → Judges start c now frame (valid source destination message) (drops NotForUs)
  IsMisdirected : {source destination : Addr} {message : Parts} → IsForUs start c source destination message → NotFromFirstHop start c now source message.body
      → Judges start c now frame (valid source destination message) (drops NotFirstHop)
  IsPacket : {packet : PacketParts} → IsPacketForUs start c packet → Judges start c now frame (other packet) (goes_up packet)
  IsPassing : {packet : PacketParts} → IsInTransit start c frame packet → Judges start c now frame (other packet) (goes_on packet)
  IsStrangePacket : {packet : PacketParts} → (IsPacketForUs start c packet → ⊥) → (IsInTransit start c frame packet → ⊥) → Judges start c now frame (other packet) (drops NotForUs)

-- this is made of the frame
pub record IsHeard (start : Start) (c : Chronicle) (now : ℕ) (frame : List ℕ) (verdict : Verdict) : Type 0 where
  pub outcome : Outcome
  pub by_frame : IsReadAt start c now frame outcome
  pub by_node : Judges start c now frame outcome verdict
