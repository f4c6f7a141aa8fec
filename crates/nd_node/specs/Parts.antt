-- A message is taken in part, where a table of a node has no room for all of it.
use Rattle.std.specs.Prelude.{◌≡◌, ◌≤◌, ℕ, Bool, true, List, [], ◌∷◌, ◌++◌}
use Rattle.rand_core.specs.Stream.{Stream}
use Rattle.nd_addr.specs.declared.addr.Addr.{Addr}
use Rattle.nd_addr.specs.Number.{number_of}
use Rattle.nd_addr.specs.Same.{same_addr, same_prefix}
use Rattle.nd_decode.specs.Message.{Parts}
use Rattle.nd_decode.specs.Option.{Said}
use Rattle.nd_table.specs.Listing.{fits, open_at}
use Rattle.nd_routers.specs.OnLinkPrefixes as on_link
use Rattle.nd_routers.specs.Routers.{same}
use Rattle.nd_slaac.specs.PrefixOption.{prefixes_in}
use Rattle.nd_slaac.specs.Calls.{keys_in}
use Rattle.nd_slaac.specs.Room.{fits_in}
use Rattle.nd_dns.specs.AnnouncedNames.{same_name, names_told}
use Rattle.nd_dns.specs.AnnouncedServers.{servers_told}
use Rattle.nd_chronicle.specs.Start.{Limits, Start}
use Rattle.nd_chronicle.specs.Happening.{Chronicle, Limit, Neighbours, Routers, Prefixes, Addresses, Servers, Names, Passed, last_moment}
use Rattle.nd_chronicle.specs.Event.{InPart}
use Rattle.nd_chronicle.specs.Hearing.{takes_target}
use Rattle.nd_chronicle.specs.Parts.{Filling, as_placed, options_taken, passed_over}
use Rattle.nd_out.specs.declared.out.Out.{Out}
use Rattle.nd_steps.specs.Outputs.{Tells}
use Rattle.nd_node.specs.declared.node.Node.{Node}
use Rattle.nd_node.specs.declared.parts.Rooms.{Rooms}
use Rattle.nd_node.specs.NodeKept.{Stands}

-- which tables have room for all of an advertisement with these options as they are said, for whose sender the neighbour table has room or hasn't
abbrev pub rooms_of : {R A : Type 0} → Node R A → ℕ → Addr → ℕ → List Said → Bool → Rooms
rooms_of node now source lifetime options place = record {
  neighbours = place;
  routers = fits same node.routers.limit now ((number_of source.0, lifetime) ∷ []) node.routers.entries;
  prefixes = fits same_prefix node.prefixes.limit now (on_link.prefixes_in options) node.prefixes.entries;
  addresses = fits_in node.addresses.limit node.addresses.mac (keys_in node.addresses.addresses) (prefixes_in options);
  servers = fits same_addr node.dns.server_limit now (servers_told options) node.dns.servers;
  names = fits same_name node.dns.name_limit now (names_told options) node.dns.names;
}

-- the limits of which a part is passed over
abbrev pub ignored_by : Rooms → List Limit
ignored_by rooms = passed_over rooms.neighbours Neighbours ++ passed_over rooms.routers Routers ++ passed_over rooms.prefixes Prefixes ++ passed_over rooms.addresses Addresses
    ++ passed_over rooms.servers Servers ++ passed_over rooms.names Names

-- what is in the tables, of which each is asked for room
abbrev pub filling_of : {R A : Type 0} → Node R A → ℕ → Filling
filling_of node now = record {
  prefixes = open_at now node.prefixes.entries;
  addresses = keys_in node.addresses.addresses;
  servers = open_at now node.dns.servers;
  names = open_at now node.dns.names;
}

-- with the limits of these tables
abbrev pub limits_of : {R A : Type 0} → Node R A → Limits
limits_of node = record node.limits { prefixes = node.prefixes.limit; addresses = node.addresses.limit; servers = node.dns.server_limit; names = node.dns.name_limit }

-- the options of an advertisement that are taken, of those that are read
abbrev pub part_of : {R A : Type 0} → Node R A → ℕ → Bool → List Said → List Said
part_of node now place options = as_placed place (options_taken (limits_of node) node.addresses.mac now (filling_of node now) options)

-- From each chronicle of earlier moments that the node stood for, what is taken of a message leads to one with what it adds, which is reported.
pub record AddsInPart {R A : Type 0} (stream : R → Stream) (old new : Node R A) (before after : List (ℕ × Out A)) (now : ℕ) (source destination : Addr) (message : Parts) : Type 0 where
  pub each : (start : Start) (c : Chronicle) → Stands stream start old c → last_moment start.at c ≤ now → takes_target c source message.body ≡ true
      → (d : Chronicle) × InPart start now source destination message ((now, Passed) ∷ c) d × Stands stream start new d × Tells c d before after
