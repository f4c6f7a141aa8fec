-- Only what is kept, in the code's terms: the tables of a node, and what they are to its chronicle.
use Rattle.std.specs.Prelude.{◌≡◌, ℕ, ◌+◌, ◌-◌, ◌≤◌, length, Option}
use Rattle.rand_core.specs.Stream.{Stream}
use Rattle.nd_addr.specs.Same.{same_prefix}
use Rattle.nd_table.specs.Announcements as lifetimes
use Rattle.nd_table.specs.ListingKept as lists
use Rattle.nd_neighbour.specs.TableKept as neighbours
use Rattle.nd_neighbour.specs.DueKept as neighbour_dates
use Rattle.nd_slaac.specs.TableKept as addresses
use Rattle.nd_slaac.specs.Dates as address_dates
use Rattle.nd_routers.specs.RoutersKept as routers
use Rattle.nd_params.specs.ParamsKept as parameters
use Rattle.nd_params.specs.ReachableTime.{redraw_after}
use Rattle.nd_dns.specs.DnsKept as dns
use Rattle.nd_nexthop.specs.Choice as choice
use Rattle.nd_routers.specs.PrefixesKept.{Prefixes}
use Rattle.nd_chronicle.specs.Start.{Limits, Start}
use Rattle.nd_chronicle.specs.Happening.{Chronicle, last_moment}
use Rattle.nd_chronicle.specs.Histories.{parameter_history, neighbour_history, router_history, prefix_history, address_history, server_history, name_history, redirect_history}
use Rattle.nd_chronicle.specs.Generator.{stream_left}
use Rattle.nd_chronicle.specs.Due.{max_rtr_solicitations}
use Rattle.nd_steps.specs.RouterTables as router
use Rattle.nd_steps.specs.RouterTables.{after_last, next_advertisement}
use Rattle.nd_steps.specs.SolicitRouters as solicitations
use Rattle.nd_steps.specs.SolicitRouters.{next_solicitation}
use Rattle.nd_steps.specs.DestinationCache.{Remembers}
use Rattle.nd_node.specs.Moments.{earlier}
use Rattle.nd_node.specs.declared.node.Node.{Node}

-- the earliest of the routers', the addresses', the neighbours', the Router Solicitations', the Router Advertisements' and the redraw's
abbrev pub earliest : Option ℕ → Option ℕ → Option ℕ → Option ℕ → Option ℕ → ℕ → ℕ
earliest routers addresses neighbours solicitation advertisement redraw =
    earlier routers (earlier addresses (earlier neighbours (earlier solicitation (earlier advertisement redraw))))

-- the moment at which something is due next
abbrev pub next_of : {R A : Type 0} → Node R A → ℕ
next_of node =
    earliest (routers.next_end node.routers.entries) (address_dates.next_in node.addresses.addresses) (neighbour_dates.next_in node.neighbours.entries)
    (next_solicitation node.role node.solicitations) (next_advertisement node.role node.router) (node.params.drawn_at + redraw_after)

-- the tables have room for as many rows as the limits
pub record HasLimits (limits : Limits) (cache : neighbours.Table) (list : routers.Table) (linked : Prefixes) (own : addresses.Table) (learned : dns.Table) (chosen : choice.Table) : Type 0 where
  pub neighbours : cache.limit ≡ limits.neighbours
  pub routers : list.limit ≡ limits.routers
  pub prefixes : linked.limit ≡ limits.prefixes
  pub addresses : own.limit ≡ limits.addresses
  pub servers : learned.server_limit ≡ limits.servers
  pub names : learned.name_limit ≡ limits.names
  pub redirects : chosen.redirects.limit ≡ limits.redirects
  pub destinations : chosen.redirects.destinations ≡ limits.destinations
  pub waiting : cache.waiting ≡ limits.waiting

-- Each table of the node stands for what the chronicle says of it, the generator is that of the start after as many words as were drawn,
-- and nothing that is due has been passed over.
pub record Stands {R A : Type 0} (stream : R → Stream) (start : Start) (node : Node R A) (c : Chronicle) : Type 0 where
  pub role : node.role ≡ start.role
  pub mac : node.mac ≡ start.mac
  pub chosen : node.limits ≡ start.limits
  pub policies : node.policies ≡ start.policies
  pub address_mac : node.addresses.mac ≡ start.mac
  pub address_transmits : node.addresses.transmits ≡ start.transmits
  pub limits : HasLimits start.limits node.neighbours node.routers node.prefixes node.addresses node.dns node.choice
  pub params : parameters.Stands node.params (parameter_history c)
  pub routers : routers.Stands node.routers (router_history c)
  pub prefixes : lists.Stands same_prefix node.prefixes.entries (prefix_history c)
  pub addresses : addresses.Stands node.addresses.addresses (address_history c)
  pub neighbours : neighbours.Stands node.neighbours.entries (neighbour_history c)
  pub dns : dns.Stands node.dns (server_history c) (name_history c)
  pub redirects : choice.Stands node.choice (redirect_history c)
  pub solicitations : solicitations.Stands start node.solicitations c
  pub router : router.Stands start node.router c
  pub generator : stream node.generator ≡ stream_left start c
  pub last : node.last ≡ last_moment start.at c
  pub prefixes_by_then : lifetimes.last_moment (prefix_history c) ≤ last_moment start.at c
  pub servers_by_then : lifetimes.last_moment (server_history c) ≤ last_moment start.at c
  pub names_by_then : lifetimes.last_moment (name_history c) ≤ last_moment start.at c
  pub memo : Remembers node.last node.choice node.addresses.addresses node.prefixes.entries node.neighbours.entries node.routers
  pub in_time : last_moment start.at c ≤ next_of node

-- how many turns are left up to a moment, where nothing else happens, and the time since the last redraw and the last advertisement
abbrev pub turns_left : {R A : Type 0} → ℕ → Node R A → ℕ
turns_left end node =
    length node.routers.entries + address_dates.turns_left node.addresses.transmits node.addresses.addresses + neighbour_dates.turns_left node.neighbours.entries
    + (max_rtr_solicitations - node.solicitations.sent) + (end + redraw_after - node.params.drawn_at) + (end + 1 - after_last node.router.advertiser.last)
