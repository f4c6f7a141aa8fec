-- What is due in a millisecond, in the order of its passes, and what comes with it.
use Rattle.std.specs.Prelude.{◌≡◌, ◌≢◌, ℕ, ◌+◌, ◌*◌, Bool, false, ◌&&◌, ◌||◌, not, ◌==◌, nat_lt, if◌then◌else◌, List, [], ◌∷◌, Option, Some, None}
use Rattle.std.specs.Option.{option_map}
use Rattle.nd_addr.specs.Number.{addr_at, mac_at}
use Rattle.nd_params.specs.History as parameters
use Rattle.nd_neighbour.specs.Due as neighbours
use Rattle.nd_neighbour.specs.History as neighbour_rows
use Rattle.nd_routers.specs.Due as routers
use Rattle.nd_slaac.specs.Due as addresses
use Rattle.nd_slaac.specs.History as address_rows
use Rattle.nd_chronicle.specs.Start.{Start, is_host, link_local, link_local_key}
use Rattle.nd_chronicle.specs.Happening.{Chronicle, Drew, ForReachableTime, Neighbour, Address, LeftRouter, SolicitedRouters, Sent}
use Rattle.nd_chronicle.specs.Histories.{parameter_history, neighbour_history, router_history, address_history, advertising_history}
use Rattle.nd_advertiser.specs.Advertising.{next_of}
use Rattle.nd_chronicle.specs.Advertising.{then_advertising}
use Rattle.nd_chronicle.specs.InForce.{base_reachable_time, next_redraw}
use Rattle.nd_chronicle.specs.Generator.{stream_left, reachable_drawn}
use Rattle.nd_compose.specs.Frames.{detection_frame, resolution_frame, probe_frame, router_solicitation_frame}
use Rattle.nd_chronicle.specs.Packet.{failing}

-- ---- Router Solicitations (RFC 4861, section 6.3.7)

-- MAX_RTR_SOLICITATIONS, and RTR_SOLICITATION_INTERVAL in milliseconds (section 10)
abbrev pub max_rtr_solicitations : ℕ
max_rtr_solicitations = 3

abbrev pub rtr_solicitation_interval : ℕ
rtr_solicitation_interval = 4000

-- how many were sent
abbrev pub solicited_routers : Chronicle → ℕ
solicited_routers [] = 0
solicited_routers ((at, SolicitedRouters) ∷ c) = solicited_routers c + 1
solicited_routers ((at, _) ∷ c) = solicited_routers c

-- "Once the host sends a Router Solicitation, and receives a valid Router Advertisement with a non-zero Router Lifetime, the host MUST
-- desist from sending additional solicitations"
abbrev pub heard_router : List parameters.Row → Bool
heard_router [] = false
heard_router (parameters.Heard ra options ∷ history) = not (ra.router_lifetime == 0) || heard_router history
heard_router (parameters.Drew at value ∷ history) = heard_router history

-- when the address was last assigned, if it was
abbrev pub assigned_at : ℕ → List address_rows.Row → Option ℕ
assigned_at key [] = None
assigned_at key ((at, k, address_rows.Assigned) ∷ history) = if k == key then Some at else assigned_at key history
assigned_at key ((at, k, _) ∷ history) = assigned_at key history

-- the date of the next one: the first comes with the link-local address, the others an interval later each
abbrev pub router_solicitation_date : Start → Chronicle → Option ℕ
router_solicitation_date start c =
    if is_host start.role && nat_lt (solicited_routers c) max_rtr_solicitations && not (heard_router (parameter_history c))
    then option_map (λ at. at + solicited_routers c * rtr_solicitation_interval) (assigned_at (link_local_key start) (address_history c))
    else None

-- ---- Router Advertisements (RFC 4861, section 6.2.4)

-- the date of the next one: a host sends none
abbrev pub router_advertisement_date : Start → Chronicle → Option ℕ
router_advertisement_date start c = if is_host start.role then None else next_of (advertising_history start c)

-- ---- the passes

-- what may be due: a router's lifetime ends (RFC 4861, section 6.3.5); one of the node's own addresses ends, is solicited or is assigned (RFC
-- 4862, sections 5.4 and 5.5.4); a neighbour is solicited, fails or ages (RFC 4861, sections 7.2.2 and 7.3.3); a Router Solicitation, or a
-- Router Advertisement, is sent (sections 6.3.7 and 6.2.4); ReachableTime is drawn again (section 6.3.4)
pub data What : Type 0 where
  RouterEnds : (key : ℕ) → What
  AddressFalls : (falls : addresses.Falls) → What
  NeighbourFalls : (falls : neighbours.Falls) → What
  RoutersSolicited : What
  RouterAdvertises : What
  Redraws : What

abbrev pub NoRouter : Chronicle → ℕ → Type 0
NoRouter c moment = routers.FirstDue (router_history c) moment None

abbrev pub NoAddress : Start → Chronicle → ℕ → Type 0
NoAddress start c moment = addresses.FirstDue start.transmits (address_history c) moment None

abbrev pub NoNeighbour : Chronicle → ℕ → Type 0
NoNeighbour c moment = neighbours.FirstDue (neighbour_history c) moment None

abbrev pub NoSolicitation : Start → Chronicle → ℕ → Type 0
NoSolicitation start c moment = router_solicitation_date start c ≢ Some moment

abbrev pub NoAdvertisement : Start → Chronicle → ℕ → Type 0
NoAdvertisement start c moment = router_advertisement_date start c ≢ Some moment

-- What is due first at the moment and isn't in the chronicle: the routers' ends, the addresses' ends, their detections, the neighbours, Router
-- Solicitations, Router Advertisements, a redraw, each pass in the order of addresses.
abbrev pub Due : Start → Chronicle → ℕ → Option What → Type 0
Due start c moment (Some (RouterEnds key)) = routers.FirstDue (router_history c) moment (Some key)
Due start c moment (Some (AddressFalls falls)) = NoRouter c moment × addresses.FirstDue start.transmits (address_history c) moment (Some falls)
Due start c moment (Some (NeighbourFalls falls)) =
    NoRouter c moment × NoAddress start c moment × neighbours.FirstDue (neighbour_history c) moment (Some falls)
Due start c moment (Some RoutersSolicited) =
    NoRouter c moment × NoAddress start c moment × NoNeighbour c moment × (router_solicitation_date start c ≡ Some moment)
Due start c moment (Some RouterAdvertises) =
    NoRouter c moment × NoAddress start c moment × NoNeighbour c moment × NoSolicitation start c moment
    × (router_advertisement_date start c ≡ Some moment)
Due start c moment (Some Redraws) =
    NoRouter c moment × NoAddress start c moment × NoNeighbour c moment × NoSolicitation start c moment × NoAdvertisement start c moment
    × (next_redraw c ≡ moment)
Due start c moment None =
    NoRouter c moment × NoAddress start c moment × NoNeighbour c moment × NoSolicitation start c moment × NoAdvertisement start c moment
    × (next_redraw c ≢ moment)

-- ---- what comes with it

module _ (start : Start) (at : ℕ) where
  abbrev pub then_address : addresses.Falls → Chronicle → Chronicle
  then_address (addresses.Ends key) c = (at, Address key address_rows.Ended) ∷ c
  then_address (addresses.Solicits key) c = (at, Sent (detection_frame start.mac (addr_at key))) ∷ (at, Address key address_rows.Solicited) ∷ c
  then_address (addresses.Assigns key) c = (at, Address key address_rows.Assigned) ∷ c

  abbrev pub then_neighbour : neighbours.Falls → Chronicle → Chronicle
  then_neighbour (neighbours.Multicasts key) c =
      (at, Sent (resolution_frame start.mac (link_local start) (addr_at key))) ∷ (at, Neighbour key neighbour_rows.Solicited) ∷ c
  then_neighbour (neighbours.Unicasts key mac) c =
      (at, Sent (probe_frame start.mac (link_local start) (mac_at mac) (addr_at key))) ∷ (at, Neighbour key neighbour_rows.Probed) ∷ c
  then_neighbour (neighbours.Fails key packets) c = failing at key packets c
  then_neighbour (neighbours.Ages key) c = (at, Neighbour key (neighbour_rows.Forgot neighbour_rows.Aged)) ∷ c

  -- its row, and what is sent, lost or drawn with it
  abbrev pub comes : What → Chronicle → Chronicle
  comes (RouterEnds key) c = (at, LeftRouter key) ∷ c
  comes (AddressFalls falls) c = then_address falls c
  comes (NeighbourFalls falls) c = then_neighbour falls c
  comes RoutersSolicited c = (at, Sent (router_solicitation_frame start.mac (link_local start))) ∷ (at, SolicitedRouters) ∷ c
  comes RouterAdvertises c = then_advertising start at c
  comes Redraws c = (at, Drew ForReachableTime (reachable_drawn (base_reachable_time c) (stream_left start c))) ∷ c
