-- What happens at a node, each with its moment in milliseconds, the newest first. Nothing here is a state: each question looks back.
use Rattle.std.specs.Prelude.{ℕ, List, [], ◌∷◌, Option}
use Rattle.nd_addr.specs.Prefix.{PrefixValue}
use Rattle.nd_addr.specs.declared.addr.Addr.{Addr}
use Rattle.nd_addr.specs.declared.why.Why.{Why}
use Rattle.nd_decode.specs.Message.{Parts}
use Rattle.nd_decode.specs.declared.prefix_info.PrefixInfo.{PrefixInfo}
use Rattle.nd_advertiser.specs.Config.{Settings}
use Rattle.nd_forwarding.specs.declared.route.Route.{Route}
use Rattle.nd_neighbour.specs.History as neighbours
use Rattle.nd_slaac.specs.History as addresses

-- what a word of the generator is drawn for: ReachableTime (RFC 4861, section 6.3.2), the delay of the first solicitation for an address
-- (RFC 4862, section 5.4.2), the time until the next Router Advertisement (RFC 4861, section 6.2.4), or the delay of one that answers
-- (section 6.2.6)
pub data Draw : Type 0 where
  ForReachableTime : Draw
  ForDelay : Draw
  ForInterval : Draw
  ForAnswer : Draw

-- why a packet is lost: its neighbour can't be reached (RFC 4861, section 7.2.2), a later one took its place among those that wait, its
-- neighbour was to be forgotten, there is no next hop for it, or its hop limit is spent (RFC 8200, section 3)
pub data Loss : Type 0 where
  Unreachable : Loss
  Replaced : Loss
  Forgotten : Loss
  NoRoute : Loss
  HopLimit : Loss

-- the tables that have a limit, in the order in which they are asked for room
pub data Limit : Type 0 where
  Neighbours : Limit
  Routers : Limit
  Prefixes : Limit
  Addresses : Limit
  Servers : Limit
  Names : Limit
  Offers : Limit
  StaticRoutes : Limit

-- why an event is refused: it is a router's command at a host; the link-local address is a duplicate, or is tentative still; the source is no
-- assigned address; the packet is longer than the MTU of the link; a table would pass its limit
pub data Refusal : Type 0 where
  WrongRole : Refusal
  Disabled : Refusal
  Tentative : Refusal
  NotOurs : (source : Addr) → Refusal
  TooLong : Refusal
  Full : (limit : Limit) → Refusal

-- where packets to a destination go: there is no next hop for them, or they go to a neighbour, at this link-layer address, if it is known
pub data Way : Type 0 where
  NoWay : Way
  WayTo : (neighbour : ℕ) (mac : Option ℕ) → Way

-- What may happen. What a message says to a table is read off the message; what the node does itself has a row of its own.
pub data Happening : Type 0 where
  -- time passed up to an event
  Passed : Happening
  -- the next word of the generator was drawn
  Drew : (what : Draw) (value : ℕ) → Happening
  -- a valid message was heard
  Heard : (source destination : Addr) (message : Parts) → Happening
  -- a frame was dropped for a reason
  Dropped : (why : Why) → Happening
  -- a packet that is no message goes up, from its IPv6 header to the end of its payload
  Up : (packet : List ℕ) → Happening
  -- something that no message says happened to a neighbour, or to one of the node's own addresses
  Neighbour : (key : ℕ) (kind : neighbours.RowKind) → Happening
  Address : (key : ℕ) (kind : addresses.RowKind) → Happening
  -- a router left the list
  LeftRouter : (key : ℕ) → Happening
  -- a router that advertised itself is not listed, for want of room
  Unlisted : (key : ℕ) → Happening
  -- the on-link prefixes, the redirects, the servers and search names were cleared
  ClearedPrefixes : Happening
  ClearedRedirects : Happening
  ClearedDns : Happening
  -- a Router Solicitation was sent (RFC 4861, section 6.3.7)
  SolicitedRouters : Happening
  -- a router is to advertise with these settings, and this prefix too, or to cease (RFC 4861, sections 6.2.1 and 6.2.5)
  Configured : (settings : Settings) → Happening
  Offered : (info : PrefixInfo) → Happening
  Ceased : Happening
  -- a Router Advertisement was sent, and the next one comes after this time (section 6.2.4)
  Advertised : (interval : ℕ) → Happening
  -- a Router Solicitation is to be answered, after this delay (section 6.2.6)
  Planned : (delay : ℕ) → Happening
  -- a router has a static route
  RoutePut : (prefix : PrefixValue) (route : Route) → Happening
  -- a Redirect was made (section 8.2)
  RedirectMade : Happening
  -- a frame was sent
  Sent : (frame : List ℕ) → Happening
  -- a packet was lost, a frame whose Ethernet destination was still open
  Lost : (why : Loss) (packet : List ℕ) → Happening
  -- a caller that keeps its packets learned where those to a destination go, and the link-layer address for which it waited
  Path : (destination : Addr) (way : Way) → Happening
  Resolved : (neighbour mac : ℕ) → Happening
  -- an event was refused
  Refused : (refusal : Refusal) → Happening
  -- parts of a message were passed over, for which a table has no room
  Ignored : (limit : Limit) → Happening
  -- rows of a table were shown, each a text
  Shown : (rows : List (List ℕ)) → Happening
  -- an event was too late, and was only reported as past: time had passed up to this moment
  TooLate : (last : ℕ) → Happening

-- a moment and what happened then, the newest first
abbrev pub Chronicle : Type 0
Chronicle = List (ℕ × Happening)

-- the moment up to which time has passed
abbrev pub last_moment : ℕ → Chronicle → ℕ
last_moment start [] = start
last_moment start ((at, TooLate last) ∷ c) = last_moment start c
last_moment start ((at, _) ∷ c) = at
