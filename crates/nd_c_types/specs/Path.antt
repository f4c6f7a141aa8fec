-- Where packets to a destination go, as C sees it (RFC 4861, sections 5.2 and 7.3.3).
use Rattle.std.specs.Prelude.{ℕ, replicate, if◌then◌else◌, Option, Some, None}
use Rattle.nd_addr.specs.Same.{same_addr}
use Rattle.nd_addr.specs.declared.addr.Addr.{Addr}
use Rattle.nd_addr.specs.declared.mac.Mac.{Mac}
use Rattle.nd_neighbour.specs.declared.shown.Reachability.{Reachability}
use Rattle.nd_out.specs.declared.out.Way.{Way}
use Rattle.nd_out.specs.declared.out.Way.TheVariants as ways
use Rattle.nd_c_types.specs.Neighbour.{mac_bytes, mac_flag, reachability_number}
use Rattle.nd_c_types.specs.Numbers.{no_address}
use Rattle.nd_c_types.specs.declared.path.PathRow.{PathRow}

-- no next hop, up to a moment
abbrev pub no_path : ℕ → PathRow
no_path until = record { until = until; version = 0; next_hop = no_address; mac = replicate 6 0; has_mac = 0; reserved = 0; hop = 0; state = 0 }

-- the destination itself, or a router: enum nd_hop
abbrev pub hop_number : Addr → Addr → ℕ
hop_number to destination = if same_addr to destination then 1 else 2

-- enum nd_reachability, or 0
abbrev pub state_number : Option Reachability → ℕ
state_number None = 0
state_number (Some state) = reachability_number state

-- the version of the lease, where there may be one
abbrev pub lease_version : Option Mac → ℕ → ℕ
lease_version None version = 0
lease_version (Some mac) version = version

-- the next hop and its link-layer address
abbrev pub path_row : Addr → Way → Option Reachability → ℕ → ℕ → PathRow
path_row destination ways.NoRoute state until version = record (no_path until) { state = state_number state }
path_row destination (ways.To to mac) state until version = record (no_path until) {
  version = lease_version mac version;
  next_hop = to.0;
  mac = mac_bytes mac;
  has_mac = mac_flag mac;
  hop = hop_number to destination;
  state = state_number state;
}
