-- Only what is kept, in the code's terms: the path of a destination, by the tables of a node.
use Rattle.std.specs.Prelude.{◌≡◌, ℕ, ◌<◌, ◌≤◌, Bool, false, if◌then◌else◌, List, Option, Some, None}
use Rattle.std.specs.Option.{option_map}
use Rattle.nd_addr.specs.declared.addr.Addr.{Addr}
use Rattle.nd_addr.specs.declared.mac.Mac.{Mac}
use Rattle.nd_addr.specs.declared.role.Role.{Role}
use Rattle.nd_addr.specs.declared.role.Role.TheVariants.{Host, Router}
use Rattle.nd_addr.specs.Kind.{multicast_prefix}
use Rattle.nd_addr.specs.Number.{holds, number_of}
use Rattle.nd_table.specs.Listing.{open_at}
use Rattle.nd_neighbour.specs.DueKept.{stays}
use Rattle.nd_neighbour.specs.EntryKept.{NeighbourEntry}
use Rattle.nd_neighbour.specs.LeaseKept.{LeavesLeases, LeavesMacs}
use Rattle.nd_neighbour.specs.Shown.{Seen}
use Rattle.nd_neighbour.specs.ShownKept.{seen}
use Rattle.nd_neighbour.specs.TableKept.{entry_in}
use Rattle.nd_nexthop.specs.Choice.{target_in}
use Rattle.nd_nexthop.specs.NextHop.{NextHop, direct, hop, no_route, via}
use Rattle.nd_forwarding.specs.NextHop as routes
use Rattle.nd_slaac.specs.declared.destination.Counted.TheVariants.{Assigned}
use Rattle.nd_slaac.specs.Destination.{counted_in}
use Rattle.nd_slaac.specs.PrefixOption.{link_local_of}
use Rattle.nd_slaac.specs.TableKept.{address_in}
use Rattle.nd_chronicle.specs.Due.{NeighbourFalls, What}
use Rattle.nd_steps.specs.DestinationCache.{linked_by, own_in}
use Rattle.nd_steps.specs.NextHop.{candidates_in}
use Rattle.nd_node.specs.declared.node.Node.{Node}
use Rattle.nd_node.specs.NodeKept.{next_of}
use Rattle.nd_node.specs.Path.{PathSeen, first_end, path_by, path_to_all}

-- the next hop by the tables: a host chooses, a router takes its longest route
abbrev pub hop_kept : {R A : Type 0} → Role → Node R A → ℕ → Addr → NextHop
hop_kept Host node now destination =
    hop (own_in node.addresses.addresses) (linked_by (open_at now node.prefixes.entries)) (candidates_in node.neighbours.entries node.routers)
    (target_in (number_of destination.0) node.choice.redirects.entries) destination.0
hop_kept Router node now destination = routes.hop (own_in node.addresses.addresses) node.router.routes.entries destination.0

-- the link-local address is assigned
abbrev pub up_kept : {R A : Type 0} → Node R A → Bool
up_kept node = counted_in Assigned (address_in (link_local_of node.addresses.mac) node.addresses.addresses)

-- the path by the next hop, where the first on-link prefix ends then and these neighbours are kept
abbrev pub path_by_hop : Bool → ℕ → ℕ → Option ℕ → List NeighbourEntry → Addr → NextHop → PathSeen
path_by_hop up now due end entries destination no_route = record { next = no_route; mac = None; state = None; until = now }
path_by_hop up now due end entries destination direct =
    if holds multicast_prefix destination.0 then path_to_all up now due destination
    else path_by up now due end direct (option_map (seen now) (entry_in (number_of destination.0) entries))
path_by_hop up now due end entries destination (via key) = path_by up now due end (via key) (option_map (seen now) (entry_in key entries))

-- the path of the destination at the moment
abbrev pub path_kept : {R A : Type 0} → Node R A → ℕ → Addr → PathSeen
path_kept node now destination =
    path_by_hop (up_kept node) now (next_of node) (first_end node.role (open_at now node.prefixes.entries)) node.neighbours.entries destination
    (hop_kept node.role node now destination)

-- for how long a neighbour still is REACHABLE
abbrev pub left_of : Option Seen → Option ℕ
left_of None = None
left_of (Some seen) = seen.left

-- the same by the next hop: a multicast destination has no neighbour
abbrev pub left_by_hop : ℕ → List NeighbourEntry → Addr → NextHop → Option ℕ
left_by_hop now entries destination no_route = None
left_by_hop now entries destination direct =
    if holds multicast_prefix destination.0 then None else left_of (option_map (seen now) (entry_in (number_of destination.0) entries))
left_by_hop now entries destination (via key) = left_of (option_map (seen now) (entry_in key entries))

-- the same of the path of the destination
abbrev pub left_kept : {R A : Type 0} → Node R A → ℕ → Addr → Option ℕ
left_kept node now destination = left_by_hop now node.neighbours.entries destination (hop_kept node.role node now destination)

-- the neighbour that a packet to the destination goes to by the next hop, or the destination itself
abbrev pub towards : NextHop → Addr → ℕ
towards (via key) destination = key
towards _ destination = number_of destination.0

-- The lease of the path holds, and packets go to this address and to this link-layer address.
pub record InLease {R A : Type 0} (node : Node R A) (now : ℕ) (destination to : Addr) (mac : Mac) : Type 0 where
  pub holds : now < (path_kept node now destination).until
  pub to_is : towards (path_kept node now destination).next destination ≡ number_of to.0
  pub mac_is : (path_kept node now destination).mac ≡ Some (number_of mac.0)

-- The next hops and the link-layer addresses are the same at each moment.
pub record LeavesWays {R A : Type 0} (old new : Node R A) : Type 0 where
  pub hop : (now : ℕ) (destination : Addr) → hop_kept new.role new now destination ≡ hop_kept old.role old now destination
  pub macs : LeavesMacs old.neighbours.entries new.neighbours.entries

-- Packets go the same way at each moment: the next hops and the link-layer addresses are the same, no lease ends earlier, and nothing is due earlier.
pub record LeavesPaths {R A : Type 0} (old new : Node R A) : Type 0 where
  pub up : up_kept new ≡ up_kept old
  pub hop : (now : ℕ) (destination : Addr) → hop_kept new.role new now destination ≡ hop_kept old.role old now destination
  pub neighbours : LeavesLeases old.neighbours.entries new.neighbours.entries
  pub due : next_of old ≤ next_of new

-- of what is due, a solicitation for a neighbour leaves them
abbrev pub leaves_paths : What → Bool
leaves_paths (NeighbourFalls falls) = stays falls
leaves_paths _ = false
