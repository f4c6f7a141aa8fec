-- How a node starts.
use Rattle.std.specs.Prelude.{ℕ, Bool, true, false}
use Rattle.rand_core.specs.Stream.{Stream}
use Rattle.nd_addr.specs.declared.addr.Addr.{Addr}
use Rattle.nd_addr.specs.declared.mac.Mac.{Mac}
use Rattle.nd_addr.specs.declared.role.Role.{Role}
use Rattle.nd_addr.specs.declared.role.Role.TheVariants.{Host, Router}
use Rattle.nd_addr.specs.Number.{addr_at}
use Rattle.nd_slaac.specs.PrefixOption.{link_local_of}

-- how many rows each table of a node may have (RFC 4861, sections 5.1, 5.3, 6.2.1 and 6.3.4, and RFC 8106, section 5.3.1, leave it open): neighbours, default
-- routers, prefixes on the link, addresses with the link-local one, servers, search names, destinations whose redirects are kept, destinations whose
-- next hops are remembered, prefixes that a router offers, its routes; and how many packets wait for a neighbour (section 7.2.2)
pub record Limits : Type 0 where
  pub neighbours : ℕ
  pub routers : ℕ
  pub prefixes : ℕ
  pub addresses : ℕ
  pub servers : ℕ
  pub names : ℕ
  pub redirects : ℕ
  pub destinations : ℕ
  pub offers : ℕ
  pub routes : ℕ
  pub waiting : ℕ

-- what a node does on a link that isn't trusted, each where it is asked for: a message is taken in part where a table has no room for all of it (RFC 8106,
-- section 5.3.1); a neighbour that is only asked for goes before one that speaks is refused; numbers of an advertisement that are outside their ranges
-- say nothing; nothing is heard of what claims to come from the node itself (the policy `self`); a router sends on only what came to its own link-layer
-- address; no prefix option forms an address; the flag S of an advertisement counts only if a solicitation is out; lifetimes are read as at most 9,000
-- seconds of a router, and a week of all else; no Redirect is heard; what the RFCs forbid to send is dropped
pub record Policies : Type 0 where
  pub parts : Bool
  pub speakers : Bool
  pub timers : Bool
  pub own : Bool
  pub unicast : Bool
  pub unformed : Bool
  pub asked : Bool
  pub lifetimes : Bool
  pub unredirected : Bool
  pub strict : Bool

-- none is asked for
abbrev pub no_policies : Policies
no_policies = record {
  parts = false;
  speakers = false;
  timers = false;
  own = false;
  unicast = false;
  unformed = false;
  asked = false;
  lifetimes = false;
  unredirected = false;
  strict = false;
}

-- when it starts, in milliseconds, as a host or as a router, its link-layer address, how many solicitations it sends for each address (RFC
-- 4862, section 5.1, DupAddrDetectTransmits), the words of its generator, its limits, and its policies
pub record Start : Type 0 where
  pub at : ℕ
  pub role : Role
  pub mac : Mac
  pub transmits : ℕ
  pub stream : Stream
  pub limits : Limits
  pub policies : Policies

abbrev pub is_host : Role → Bool
is_host Host = true
is_host Router = false

-- the link-local address of the node (RFC 4862, section 5.3), as a number and as an address
abbrev pub link_local_key : Start → ℕ
link_local_key start = link_local_of start.mac

abbrev pub link_local : Start → Addr
link_local start = addr_at (link_local_key start)
