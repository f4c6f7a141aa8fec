-- A neighbour, as C sees it (RFC 4861, section 5.1).
use Rattle.std.specs.Prelude.{ℕ, List, replicate, Option, Some, None}
use Rattle.nd_addr.specs.declared.mac.Mac.{Mac}
use Rattle.nd_neighbour.specs.declared.shown.Neighbour.{Neighbour}
use Rattle.nd_neighbour.specs.declared.shown.Reachability.{Reachability}
use Rattle.nd_neighbour.specs.declared.shown.Reachability.TheVariants as states
use Rattle.nd_c_types.specs.Numbers.{flag_number}
use Rattle.nd_c_types.specs.declared.neighbour.NeighbourRow.{NeighbourRow}

-- the link-layer address, or zeros
abbrev pub mac_bytes : Option Mac → List ℕ
mac_bytes None = replicate 6 0
mac_bytes (Some mac) = mac.0

-- 1 if it is known
abbrev pub mac_flag : Option Mac → ℕ
mac_flag None = 0
mac_flag (Some mac) = 1

-- enum nd_reachability
abbrev pub reachability_number : Reachability → ℕ
reachability_number states.Incomplete = 1
reachability_number states.Reachable = 2
reachability_number states.Stale = 3
reachability_number states.Delay = 4
reachability_number states.Probe = 5

-- what is left of the time for which it is REACHABLE, in milliseconds, or 0
abbrev pub reachable_left : Option ℕ → ℕ
reachable_left None = 0
reachable_left (Some left) = left

abbrev pub neighbour_row : Neighbour → NeighbourRow
neighbour_row n = record {
  reachable_left = reachable_left n.reachable_left;
  address = n.addr.0;
  mac = mac_bytes n.mac;
  has_mac = mac_flag n.mac;
  is_router = flag_number n.router;
  state = reachability_number n.state;
  reserved = 0;
}
