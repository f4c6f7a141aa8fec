-- A Router Advertisement is taken by all tables of a node (RFC 4861, section 6.3.4; RFC 4862, section 5.5.3; RFC 8106, section 6.1).
use Rattle.std.specs.Prelude.{◌≡◌, ◌≤◌, ℕ, Bool, List, ◌∷◌, Option}
use Rattle.rand_core.specs.Stream.{Stream}
use Rattle.nd_addr.specs.declared.addr.Addr.{Addr}
use Rattle.nd_addr.specs.Same.{same_prefix}
use Rattle.nd_decode.specs.Message.{Parts}
use Rattle.nd_decode.specs.Option.{Said}
use Rattle.nd_decode.specs.declared.body.Body.TheVariants as bodies
use Rattle.nd_decode.specs.declared.router_advertisement.RouterAdvertisement.{RouterAdvertisement}
use Rattle.nd_table.specs.Listing.{with_room}
use Rattle.nd_params.specs.RouterAdvertisement.{first_mtu}
use Rattle.nd_routers.specs.OnLinkPrefixes as on_link
use Rattle.nd_slaac.specs.PrefixOption.{prefixes_in}
use Rattle.nd_slaac.specs.Room as own
use Rattle.nd_slaac.specs.Calls.{keys_in}
use Rattle.nd_dns.specs.AnnouncedNames.{names_told}
use Rattle.nd_dns.specs.AnnouncedServers.{servers_told}
use Rattle.nd_dns.specs.DnsKept.{names_taken, servers_taken}
use Rattle.nd_chronicle.specs.Start.{Start}
use Rattle.nd_chronicle.specs.Happening.{Chronicle, Passed, Heard, last_moment}
use Rattle.nd_chronicle.specs.Histories.{neighbour_history}
use Rattle.nd_chronicle.specs.Message.{said, RoomFor}
use Rattle.nd_chronicle.specs.RouterAdvertisement.{then_advertised, then_options}
use Rattle.nd_out.specs.declared.out.Out.{Out}
use Rattle.nd_steps.specs.DestinationCache.{forms_none}
use Rattle.nd_steps.specs.Outputs.{Tells}
use Rattle.nd_node.specs.declared.node.Node.{Node}
use Rattle.nd_node.specs.NodeKept.{Stands}

abbrev pub advertised : RouterAdvertisement → List Said → Parts
advertised ra options = record { body = bodies.Ra ra; options = options }

-- These options are what is taken of those that are said: in each table that for which there is room.
pub record IsTaken {R A : Type 0} (node : Node R A) (now : ℕ) (said taken : List Said) : Type 0 where
  pub mtu : first_mtu taken ≡ first_mtu said
  pub prefixes : on_link.prefixes_in taken ≡ with_room same_prefix node.prefixes.limit now (on_link.prefixes_in said) node.prefixes.entries
  pub forms : (start : Start) (to_all : Bool) (c : Chronicle) → then_options start now to_all (prefixes_in taken) c
      ≡ then_options start now to_all (own.with_room node.addresses.limit node.addresses.mac (keys_in node.addresses.addresses) (prefixes_in said)) c
  pub none : forms_none node.addresses.mac (keys_in node.addresses.addresses) (prefixes_in taken)
      ≡ forms_none node.addresses.mac (keys_in node.addresses.addresses) (own.with_room node.addresses.limit node.addresses.mac (keys_in node.addresses.addresses) (prefixes_in said))
  pub servers : servers_told taken ≡ servers_taken now said node.dns
  pub names : names_told taken ≡ names_taken now said node.dns

-- What an advertisement leads to: there is room for its sender, and the tables are those of the chronicle with all that it adds.
pub record Advertises {R A : Type 0} (stream : R → Stream) (new : Node R A) (before after : List (ℕ × Out A)) (now : ℕ) (source destination : Addr) (ra : RouterAdvertisement) (options : List Said) (listed : Bool) (start : Start) (c : Chronicle) : Type 0 where
  pub gone : Option ℕ
  pub placed : Chronicle
  pub room : RoomFor start c now (said c source (advertised ra options)) gone placed
  pub stands : Stands stream start new (then_advertised start now source destination ra (advertised ra options) listed gone (neighbour_history c) placed)
  pub moment : last_moment start.at (then_advertised start now source destination ra (advertised ra options) listed gone (neighbour_history c) placed) ≡ now
  pub tells : Tells ((now, Heard source destination (advertised ra options)) ∷ c) (then_advertised start now source destination ra (advertised ra options) listed gone (neighbour_history c) placed) before after

-- from each chronicle of earlier moments that the node stood for
pub record TakesAdvertisement {R A : Type 0} (stream : R → Stream) (old new : Node R A) (before after : List (ℕ × Out A)) (now : ℕ) (source destination : Addr) (ra : RouterAdvertisement) (options : List Said) (listed : Bool) : Type 0 where
  pub each : (start : Start) (c : Chronicle) → Stands stream start old c → last_moment start.at c ≤ now
      → Advertises stream new before after now source destination ra options listed start ((now, Passed) ∷ c)
