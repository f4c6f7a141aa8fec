-- Only what is kept, in the code's terms: an entry of a neighbour.
use Rattle.std.specs.Prelude.{ℕ, Bool, List, Option, Some, None, [], if◌then◌else◌, is_some, nat_lt, false, ◌&&◌, ◌+◌, true}
use Rattle.nd_packet.specs.Waiting.{Waiting}
use Rattle.nd_neighbour.specs.declared.unreachability_detection.Probing.{Probing}
use Rattle.nd_neighbour.specs.UnreachabilityDetection.{stale_lifetime}

-- what is kept of a neighbour, besides its address and its mark
pub data Stage : Type 0 where
  -- no address is known (INCOMPLETE): the time between two solicitations, how many were sent after the first, whether a caller waits, what packets do
  Resolving : (retrans sent : ℕ) (wanted : Bool) (waiting : Waiting) → Stage
  -- an address is known (REACHABLE, STALE, DELAY or PROBE): whether the last word is a confirmation, until or from when, and the use afterwards
  Known : (mac : ℕ) (confirmed : Bool) (since : ℕ) (probing : Option Probing) → Stage

-- a neighbour: its address, its mark, the moment at which something is due, and the rest
pub record NeighbourEntry : Type 0 where
  pub key : ℕ
  pub router : Bool
  pub due : ℕ
  pub stage : Stage

-- the link-layer address, if it is known
abbrev pub known_mac : Stage → Option ℕ
known_mac (Resolving retrans sent wanted waiting) = None
known_mac (Known mac confirmed since probing) = Some mac

-- what waits
abbrev pub waiting_in : Stage → List (List ℕ)
waiting_in (Resolving retrans sent wanted waiting) = waiting.packets
waiting_in (Known mac confirmed since probing) = []

-- a caller waits for the address
abbrev pub is_wanted : Stage → Bool
is_wanted (Resolving retrans sent wanted waiting) = wanted
is_wanted (Known mac confirmed since probing) = false

-- what is released: where an address is known after the change, all that waited
abbrev pub released : NeighbourEntry → NeighbourEntry → List (List ℕ)
released old new = if is_some (known_mac new.stage) then waiting_in old.stage else []

-- the neighbour is reachable at the moment
abbrev pub is_reachable : Stage → ℕ → Bool
is_reachable (Resolving retrans sent wanted waiting) t = false
is_reachable (Known mac confirmed since probing) t = confirmed && nat_lt t since

-- a message says whether it is a router
abbrev pub with_mark : Bool → NeighbourEntry → NeighbourEntry
with_mark router n = record { key = n.key; router = router; due = n.due; stage = n.stage }

-- the address is known from now on, and nothing says that the neighbour is reachable
abbrev pub stale_entry : ℕ → Bool → ℕ → ℕ → NeighbourEntry
stale_entry key router at mac = record { key = key; router = router; due = at + stale_lifetime; stage = Known mac false at None }

-- the neighbour is reachable until the ReachableTime is over
abbrev pub reachable_entry : ℕ → Bool → ℕ → ℕ → ℕ → NeighbourEntry
reachable_entry key router at mac reachable =
    record { key = key; router = router; due = at + reachable + stale_lifetime; stage = Known mac true (at + reachable) None }
