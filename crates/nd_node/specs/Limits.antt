-- How many rows each table of a node may have, and how many packets wait for a neighbour (the RFCs leave it open; the numbers are our choice).
use Rattle.std.specs.Prelude.{ℕ, ◌≤◌}
use Rattle.nd_neighbour.specs.TableKept.{max_neighbours}
use Rattle.nd_routers.specs.Routers.{max_routers}
use Rattle.nd_routers.specs.OnLinkPrefixes.{max_prefixes}
use Rattle.nd_slaac.specs.Room.{max_addresses}
use Rattle.nd_dns.specs.Dns.{max_names, max_servers}
use Rattle.nd_nexthop.specs.History.{max_redirects}
use Rattle.nd_nexthop.specs.Memo.{max_remembered}
use Rattle.nd_advertiser.specs.Offers.{max_offers}
use Rattle.nd_forwarding.specs.Routes.{max_routes}
use Rattle.nd_packet.specs.Waiting.{max_waiting}
use Rattle.nd_chronicle.specs.Start.{Limits}

-- 1 at least, and no more than the greatest
abbrev pub IsLimit : ℕ → ℕ → Type 0
IsLimit most limit = (1 ≤ limit) × (limit ≤ most)

-- each is in its range
pub record AreLimits (limits : Limits) : Type 0 where
  pub neighbours : IsLimit max_neighbours limits.neighbours
  pub routers : IsLimit max_routers limits.routers
  pub prefixes : IsLimit max_prefixes limits.prefixes
  pub addresses : IsLimit max_addresses limits.addresses
  pub servers : IsLimit max_servers limits.servers
  pub names : IsLimit max_names limits.names
  pub redirects : IsLimit max_redirects limits.redirects
  pub destinations : IsLimit max_remembered limits.destinations
  pub offers : IsLimit max_offers limits.offers
  pub routes : IsLimit max_routes limits.routes
  pub waiting : IsLimit max_waiting limits.waiting

-- where nothing else is asked for
abbrev pub usual_limits : Limits
usual_limits = record {
  neighbours = 512;
  routers = 16;
  prefixes = max_prefixes;
  addresses = max_addresses;
  servers = max_servers;
  names = max_names;
  redirects = max_redirects;
  destinations = max_remembered;
  offers = max_offers;
  routes = max_routes;
  waiting = 3;
}
