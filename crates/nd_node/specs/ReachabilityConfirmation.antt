-- Which neighbour is confirmed by a sign that packets to a destination arrive, where confirmations that move little are left out (RFC 4861, section 7.3.1;
-- the least time is this project's own).
use Rattle.std.specs.Prelude.{◌≡◌, ℕ, ◌-◌, nat_lt, Bool, true, false, not, if◌then◌else◌, Option, Some, None}
use Rattle.nd_addr.specs.declared.addr.Addr.{Addr}
use Rattle.nd_addr.specs.Kind.{multicast_prefix}
use Rattle.nd_addr.specs.Number.{holds, number_of}
use Rattle.nd_neighbour.specs.declared.shown.Reachability.{Reachability}
use Rattle.nd_neighbour.specs.declared.shown.Reachability.TheVariants.{Incomplete, Reachable}
use Rattle.nd_neighbour.specs.Shown.{Seen}
use Rattle.nd_nexthop.specs.NextHop.{NextHop, direct, via, no_route}
use Rattle.nd_chronicle.specs.Happening.{Chronicle}
use Rattle.nd_chronicle.specs.InForce.{reachable_time}
use Rattle.nd_chronicle.specs.NextHop.{IsHopOf}
use Rattle.nd_chronicle.specs.Start.{Start}
use Rattle.nd_node.specs.Path.{neighbour_at}

-- A neighbour whose link-layer address isn't known can't be confirmed. One that is REACHABLE for this time still would be so for the ReachableTime.
abbrev pub moves_by : ℕ → ℕ → Reachability → Option ℕ → Bool
moves_by reachable least Incomplete left = false
moves_by reachable least Reachable (Some left) = not (nat_lt (reachable - left) least)
moves_by reachable least _ _ = true

-- A confirmation makes the neighbour REACHABLE, or moves the end of that by the least time or more.
abbrev pub moves : ℕ → ℕ → Option Seen → Bool
moves reachable least None = false
moves reachable least (Some seen) = moves_by reachable least seen.state seen.left

-- the neighbour that packets go to by the next hop, to a destination of this number
abbrev pub neighbour_by : NextHop → ℕ → Option ℕ
neighbour_by no_route number = None
neighbour_by direct number = Some number
neighbour_by (via key) number = Some key

-- it, where a confirmation moves it
abbrev pub where_it_moves : (ℕ → Bool) → Option ℕ → Option ℕ
where_it_moves moved None = None
where_it_moves moved (Some key) = if moved key then Some key else None

-- a multicast destination has no neighbour
abbrev pub confirmed_by : (ℕ → Bool) → NextHop → Addr → Option ℕ
confirmed_by moved next destination = if holds multicast_prefix destination.0 then None else where_it_moves moved (neighbour_by next (number_of destination.0))

-- It is the neighbour that a sign of life from the destination confirms at the moment, if one is.
pub record IsConfirmed (start : Start) (c : Chronicle) (now : ℕ) (destination : Addr) (least : ℕ) (to : Option ℕ) : Type 0 where
  pub next : NextHop
  pub hop : IsHopOf start start.role c now destination next
  pub is : to ≡ confirmed_by (λ key. moves (reachable_time c) least (neighbour_at c now key)) next destination
