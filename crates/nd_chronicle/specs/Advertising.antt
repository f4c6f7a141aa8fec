-- What a router does where it advertises (RFC 4861, section 6.2), and what its commands add.
use Rattle.std.specs.Prelude.{ℕ, Bool, true, false, ◌&&◌, if◌then◌else◌, ◌∷◌, Option, Some, None}
use Rattle.nd_addr.specs.Prefix.{PrefixValue}
use Rattle.nd_decode.specs.Message.{Parts}
use Rattle.nd_compose.specs.Frames.{router_advertisement_frame}
use Rattle.nd_advertiser.specs.Advertising.{advertised_by, tells_its_end, wants_draw_of}
use Rattle.nd_advertiser.specs.Config.{Settings}
use Rattle.nd_advertiser.specs.Contents.{contents, last_contents_of}
use Rattle.nd_advertiser.specs.Offers.{is_one_too_many, offers_of, prefixes}
use Rattle.nd_forwarding.specs.Routes.{fits, routes}
use Rattle.nd_chronicle.specs.Start.{Start, link_local}
use Rattle.nd_chronicle.specs.Happening.{Chronicle, Drew, ForInterval, ForAnswer, Advertised, Planned, Ceased, Sent, Limit, Offers, StaticRoutes}
use Rattle.nd_chronicle.specs.Histories.{advertising_history, route_history}
use Rattle.nd_chronicle.specs.Generator.{stream_left, interval_drawn, answer_delay_drawn}
use Rattle.nd_chronicle.specs.NeighborSolicitation.{is_router}

module _ (start : Start) (at : ℕ) where
  -- ---- one that is due

  -- "Whenever a multicast advertisement is sent from an interface, the timer is reset to a uniformly distributed random value" (section
  -- 6.2.4)
  abbrev pub with_interval : ℕ → Parts → Chronicle → Chronicle
  with_interval interval message c =
      (at, Sent (router_advertisement_frame start.mac (link_local start) message)) ∷ (at, Advertised interval) ∷ (at, Drew ForInterval interval) ∷ c

  abbrev pub advertising_by : Option Settings → Chronicle → Chronicle
  advertising_by None c = c
  advertising_by (Some settings) c =
      with_interval (interval_drawn settings (stream_left start c)) (contents start.mac (offers_of (advertising_history start c)) settings) c

  abbrev pub then_advertising : Chronicle → Chronicle
  then_advertising c = advertising_by (advertised_by (advertising_history start c)) c

  -- ---- one that answers

  -- "compute a random delay within the range 0 through MAX_RA_DELAY_TIME" (section 6.2.6): once for all solicitations since the last one
  abbrev pub with_delay : ℕ → Chronicle → Chronicle
  with_delay delay c = (at, Planned delay) ∷ (at, Drew ForAnswer delay) ∷ c

  abbrev pub planning : Bool → Chronicle → Chronicle
  planning true c = with_delay (answer_delay_drawn (stream_left start c)) c
  planning false c = c

  -- ---- commands

  -- "the router SHOULD transmit one or more (but not more than MAX_FINAL_RTR_ADVERTISEMENTS) final multicast Router Advertisements on the
  -- interface with a Router Lifetime field of zero" (section 6.2.5): one, if one was sent since it became an advertising interface
  abbrev pub telling_end : Bool → Option Parts → Chronicle → Chronicle
  telling_end true (Some message) c = (at, Sent (router_advertisement_frame start.mac (link_local start) message)) ∷ c
  telling_end _ _ c = c

  abbrev pub ceasing : Chronicle → Chronicle
  ceasing c = telling_end (tells_its_end (advertising_history start c)) (last_contents_of start.mac (advertising_history start c)) ((at, Ceased) ∷ c)

-- a solicitation has to be planned for: at a router, which answers it
abbrev pub wants_answer : Start → Chronicle → Bool
wants_answer start c = is_router start.role && wants_draw_of (advertising_history start c)

-- the table that an offer, or a route, of this prefix would fill, if it would one
abbrev pub full_of_offers : Start → PrefixValue → Chronicle → Option Limit
full_of_offers start prefix c = if is_one_too_many start.limits.offers prefix (prefixes (advertising_history start c)) then Some Offers else None

abbrev pub full_of_routes : Start → PrefixValue → Chronicle → Option Limit
full_of_routes start prefix c = if fits start.limits.routes prefix (routes (route_history c)) then None else Some StaticRoutes
