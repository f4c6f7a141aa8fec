-- There is room for what a Router Advertisement says, by what is kept.
use Rattle.std.specs.Prelude.{◌≡◌, ℕ, Bool, true, List, [], ◌∷◌}
use Rattle.nd_addr.specs.declared.addr.Addr.{Addr}
use Rattle.nd_addr.specs.Number.{number_of}
use Rattle.nd_addr.specs.Same.{same_addr, same_prefix}
use Rattle.nd_decode.specs.Option.{Said}
use Rattle.nd_decode.specs.declared.router_advertisement.RouterAdvertisement.{RouterAdvertisement}
use Rattle.nd_table.specs.Listing.{fits}
use Rattle.nd_routers.specs.OnLinkPrefixes as prefixes
use Rattle.nd_routers.specs.Routers.{same}
use Rattle.nd_slaac.specs.PrefixOption as addresses
use Rattle.nd_slaac.specs.Room.{fits_in}
use Rattle.nd_slaac.specs.Calls.{keys_in}
use Rattle.nd_dns.specs.AnnouncedNames.{same_name, names_told}
use Rattle.nd_dns.specs.AnnouncedServers.{servers_told}
use Rattle.nd_node.specs.declared.node.Node.{Node}

-- there is room for its sender among the neighbours, and each other table has room
pub record HasRoom {R A : Type 0} (node : Node R A) (now : ℕ) (source : Addr) (ra : RouterAdvertisement) (options : List Said) (place : Bool) : Type 0 where
  pub neighbours : place ≡ true
  pub routers : fits same node.routers.limit now ((number_of source.0, ra.router_lifetime) ∷ []) node.routers.entries ≡ true
  pub prefixes : fits same_prefix node.prefixes.limit now (prefixes.prefixes_in options) node.prefixes.entries ≡ true
  pub addresses : fits_in node.addresses.limit node.addresses.mac (keys_in node.addresses.addresses) (addresses.prefixes_in options) ≡ true
  pub servers : fits same_addr node.dns.server_limit now (servers_told options) node.dns.servers ≡ true
  pub names : fits same_name node.dns.name_limit now (names_told options) node.dns.names ≡ true
