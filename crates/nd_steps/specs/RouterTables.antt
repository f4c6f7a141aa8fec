-- What only a router has: what it advertises, and its static routes.
use Rattle.std.specs.Prelude.{◌≡◌, ◌<◌, ◌≤◌, ◌+◌, ℕ, Bool, ◌&&◌, MatchBool, List, map, Option, Some, None, if◌then◌else◌}
use Rattle.std.specs.Option.{option_map, option_to_list}
use Rattle.rand_core.specs.Stream.{Stream, next_u32}
use Rattle.nd_addr.specs.declared.role.Role.{Role}
use Rattle.nd_slaac.specs.Due.{Falls, key_in, happens}
use Rattle.nd_advertiser.specs.Calls.{next, settings_in, wants_draw}
use Rattle.nd_advertiser.specs.Config.{Settings}
use Rattle.nd_advertiser.specs.Contents.{contents_of}
use Rattle.nd_advertiser.specs.Overdue.{IsSpaced}
use Rattle.nd_decode.specs.Message.{Parts}
use Rattle.nd_compose.specs.Frames.{router_advertisement_frame}
use Rattle.nd_chronicle.specs.Start.{Start, link_local, is_host}
use Rattle.nd_chronicle.specs.Happening.{Chronicle, Happening, Sent}
use Rattle.nd_chronicle.specs.Histories.{advertising_history, route_history, then_assigned}
use Rattle.nd_chronicle.specs.Generator.{answer_delay_drawn, interval_drawn}
use Rattle.nd_chronicle.specs.NeighborSolicitation.{is_router}
use Rattle.nd_steps.specs.declared.router_tables.RouterTables.{RouterTables}
use Rattle.nd_advertiser.specs.History as advertising_rows
use Rattle.nd_advertiser.specs.Table as advertising
use Rattle.nd_forwarding.specs.History as route_rows
use Rattle.nd_forwarding.specs.Table as routes

-- the histories of both
abbrev pub router_side : Start → Chronicle → List advertising_rows.Row × List route_rows.Row
router_side start c = (advertising_history start c, route_history c)

-- when the next advertisement is due, by what is kept: a host sends none
abbrev pub next_advertisement : {A : Type 0} → Role → RouterTables A → Option ℕ
next_advertisement role tables =
    if is_host role then None else next tables.advertiser.assigned tables.advertiser.last tables.advertiser.advertising

-- They stand for what the chronicle says of them, with room for as many offers and routes as the limits, and the next advertisement is due after the last
-- one.
pub record Stands {A : Type 0} (start : Start) (tables : RouterTables A) (c : Chronicle) : Type 0 where
  pub advertiser : advertising.Stands tables.advertiser (advertising_history start c)
  pub routes : routes.Stands tables.routes (route_history c)
  pub offer_limit : tables.advertiser.limit ≡ start.limits.offers
  pub route_limit : tables.routes.limit ≡ start.limits.routes
  pub spaced : IsSpaced (advertising_history start c)

-- the earliest moment of another advertisement: behind the last one, if there was one
abbrev pub after_last : Option ℕ → ℕ
after_last None = 0
after_last (Some last) = last + 1

-- An advertisement is sent, and the time until the next one is drawn by the next word of a generator.
pub record Advertises {A : Type 0} (now : ℕ) (words left : Stream) (old new : RouterTables A) : Type 0 where
  pub settings : Settings
  pub in_force : settings_in old.advertiser.advertising ≡ Some settings
  pub gains : advertising.GainsRow old.advertiser new.advertiser (advertising_rows.Sent now (interval_drawn settings words))
  pub positive : 0 < interval_drawn settings words
  pub after_last : after_last old.advertiser.last ≤ now
  pub last : new.advertiser.last ≡ Some now
  pub limit : new.advertiser.limit ≡ old.advertiser.limit
  pub routes : new.routes ≡ old.routes
  pub drawn : left ≡ (next_u32 words).1

-- a solicitation has to be planned for: at a router, which answers it
abbrev pub plans : {A : Type 0} → Role → RouterTables A → Bool
plans role tables = is_router role && wants_draw tables.advertiser.advertising

-- The delay of an answer is drawn by the next word of a generator, where one has to be planned.
pub record Plans {A : Type 0} (now : ℕ) (wants : Bool) (words left : Stream) (old new : RouterTables A) : Type 0 where
  pub advertiser : MatchBool wants (advertising.GainsRow old.advertiser new.advertiser (advertising_rows.Solicited now (answer_delay_drawn words))) (new.advertiser ≡ old.advertiser)
  pub drawn : left ≡ (if wants then (next_u32 words).1 else words)
  pub limit : new.advertiser.limit ≡ old.advertiser.limit
  pub routes : new.routes ≡ old.routes

-- What is due for one of the node's own addresses says when the link-local one is assigned, from which advertisements are sent.
pub record NotesAddress {A : Type 0} (link_local now : ℕ) (falls : Falls) (old new : RouterTables A) : Type 0 where
  pub advertiser : (history : List advertising_rows.Row) → advertising.Stands old.advertiser history
      → advertising.Stands new.advertiser (then_assigned link_local now (key_in falls) (happens falls) history)
  pub last : new.advertiser.last ≡ old.advertiser.last
  pub limit : new.advertiser.limit ≡ old.advertiser.limit
  pub routes : new.routes ≡ old.routes

-- the frame of an advertisement that is due, where the interface advertises
abbrev pub frame_of : Start → Option Parts → Option (List ℕ)
frame_of start message = option_map (router_advertisement_frame start.mac (link_local start)) message

abbrev pub advertised : Start → Chronicle → List Happening
advertised start c = map (λ frame. Sent frame) (option_to_list (frame_of start (contents_of start.mac (advertising_history start c))))
