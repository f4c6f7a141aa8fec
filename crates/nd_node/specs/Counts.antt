-- How many rows the tables of a node have, and how many they may have.
use Rattle.std.specs.Prelude.{◌≡◌, ◌≤◌, length}
use Rattle.nd_chronicle.specs.Start.{Limits}
use Rattle.nd_node.specs.declared.counts.Counts.{Counts}
use Rattle.nd_node.specs.declared.node.Node.{Node}

-- they are those of the tables
pub record Counted {R A : Type 0} (node : Node R A) (counts : Counts) : Type 0 where
  pub neighbours : counts.neighbours ≡ length node.neighbours.entries
  pub routers : counts.routers ≡ length node.routers.entries
  pub prefixes : counts.prefixes ≡ length node.prefixes.entries
  pub addresses : counts.addresses ≡ length node.addresses.addresses
  pub servers : counts.servers ≡ length node.dns.servers
  pub search_names : counts.search_names ≡ length node.dns.names
  pub redirects : counts.redirects ≡ length node.choice.redirects.entries
  pub offers : counts.offers ≡ length node.router.advertiser.offers
  pub routes : counts.routes ≡ length node.router.routes.entries

-- no table passes its limit
pub record WithinLimits (limits : Limits) (counts : Counts) : Type 0 where
  pub neighbours : counts.neighbours ≤ limits.neighbours
  pub routers : counts.routers ≤ limits.routers
  pub prefixes : counts.prefixes ≤ limits.prefixes
  pub addresses : counts.addresses ≤ limits.addresses
  pub servers : counts.servers ≤ limits.servers
  pub search_names : counts.search_names ≤ limits.names
  pub redirects : counts.redirects ≤ limits.redirects
  pub offers : counts.offers ≤ limits.offers
  pub routes : counts.routes ≤ limits.routes
