-- A caller that keeps its packets asks where those to a destination go (RFC 4861, sections 5.2, 7.2.2 and 7.3.3; the question is this project's
-- own).
use Rattle.std.specs.Prelude.{◌≡◌, ℕ, Bool, true, false, MatchBool, ◌∷◌, Some}
use Rattle.nd_addr.specs.declared.addr.Addr.{Addr}
use Rattle.nd_addr.specs.Kind.{multicast_prefix}
use Rattle.nd_addr.specs.Number.{addr_at, holds, number_of}
use Rattle.nd_compose.specs.Frames.{multicast_mac, resolution_frame}
use Rattle.nd_neighbour.specs.History as neighbours
use Rattle.nd_neighbour.specs.History.{Story, story}
use Rattle.nd_neighbour.specs.Story.{is_present, mac_of}
use Rattle.nd_neighbour.specs.Wanting.{Wanting, IsKnown, Awaits, mac_in, wanting_by}
use Rattle.nd_nexthop.specs.NextHop.{NextHop, direct, via, no_route}
use Rattle.nd_chronicle.specs.Start.{Start, link_local}
use Rattle.nd_chronicle.specs.Happening.{Chronicle, Neighbour, NoWay, Path, Sent, WayTo}
use Rattle.nd_chronicle.specs.Histories.{neighbour_history}
use Rattle.nd_chronicle.specs.InForce.{retrans_timer}
use Rattle.nd_chronicle.specs.NextHop.{IsHopOf}
use Rattle.nd_chronicle.specs.OwnAddress.{refusal_unless_up}
use Rattle.nd_chronicle.specs.Packet.{HasPlace, MakesPlace, no_place}
use Rattle.nd_chronicle.specs.Refused.{UnlessFull, UnlessRefused}

-- what becomes of the wish for its link-layer address
abbrev pub wanting_of : Story → Wanting
wanting_of s = wanting_by (is_present s) (mac_of s)

-- A neighbour whose link-layer address is known is used. Else the caller waits for it, and the first wish for another neighbour begins its
-- resolution.
abbrev pub then_wanted : Start → ℕ → ℕ → ℕ → Wanting → Chronicle → Chronicle
then_wanted start at key retrans (IsKnown mac) c = (at, Neighbour key (neighbours.Used retrans)) ∷ c
then_wanted start at key retrans (Awaits true) c =
    (at, Neighbour key neighbours.Wanted) ∷ (at, Sent (resolution_frame start.mac (link_local start) (addr_at key)))
    ∷ (at, Neighbour key (neighbours.Asked retrans start.limits.waiting)) ∷ c
then_wanted start at key retrans (Awaits false) c = (at, Neighbour key neighbours.Wanted) ∷ c

-- The wish for a neighbour's link-layer address, and what the caller learns behind it. There is room for the neighbour.
pub record Wants (start : Start) (destination : Addr) (c : Chronicle) (at key : ℕ) (d : Chronicle) : Type 0 where
  pub placed : Chronicle
  pub place : MakesPlace start c at key true placed
  pub wants : d ≡ (at, Path destination (WayTo key (mac_in (wanting_of (story key (neighbour_history c))))))
      ∷ then_wanted start at key (retrans_timer c) (wanting_of (story key (neighbour_history c))) placed

module _ (start : Start) (now : ℕ) where
  -- the neighbour is wanted, if there is room for it
  abbrev pub WantsIfPlaced : Addr → ℕ → Chronicle → Chronicle → Type 0
  WantsIfPlaced destination key c d =
      (place : Bool) × HasPlace start c now key true place × UnlessFull now (no_place place) (Wants start destination c now key) c d

  -- what goes to a multicast address goes to its own link-layer address (RFC 2464, section 7)
  abbrev pub PathAdds : NextHop → Addr → Chronicle → Chronicle → Type 0
  PathAdds no_route destination c d = d ≡ (now, Path destination NoWay) ∷ c
  PathAdds direct destination c d =
      MatchBool (holds multicast_prefix destination.0)
      (d ≡ (now, Path destination (WayTo (number_of destination.0) (Some (number_of (multicast_mac destination).0)))) ∷ c)
      (WantsIfPlaced destination (number_of destination.0) c d)
  PathAdds (via key) destination c d = WantsIfPlaced destination key c d

  abbrev pub ResolveAdds : Addr → Chronicle → Chronicle → Type 0
  ResolveAdds destination c d = UnlessRefused now (refusal_unless_up start c)
      (λ e. (next : NextHop) × IsHopOf start start.role c now destination next × PathAdds next destination c e) c d
