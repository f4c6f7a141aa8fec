-- What a command makes of the tables of a router, and the chronicle that a node stands for.
use Rattle.std.proofs.Common.{◌≡◌, ℕ, ◌<◌, Bool, true, false, List, [], ◌∷◌, ◌++◌, append-nil, Option, Some, None, Result, Ok, Err, refl, sym, ◌∙◌, ap, subst}
use Rattle.std.specs.Prelude.{is_ok, if◌then◌else◌}
use Rattle.std.specs.List.{flat_map}
use Rattle.std.specs.Option.{option_map}
use Rattle.rand_core.specs.Stream.{Stream}
use Rattle.nd_addr.specs.Prefix.{PrefixValue}
use Rattle.nd_addr.specs.declared.addr.Addr.{Addr}
use Rattle.nd_addr.specs.declared.mac.Mac.{Mac}
use Rattle.nd_addr.specs.declared.role.Role.{Role}
use Rattle.nd_addr.specs.declared.role.Role.TheVariants.{Router}
use Rattle.nd_advertiser.specs.Advertising.{tells_its_end}
use Rattle.nd_advertiser.specs.Config.{Settings}
use Rattle.nd_advertiser.specs.Contents.{last_contents_of}
use Rattle.nd_advertiser.specs.History as advertising_rows
use Rattle.nd_advertiser.specs.Offers.{answer_to, is_one_too_many, prefixes}
use Rattle.nd_advertiser.specs.Table as advertising
use Rattle.nd_advertiser.specs.declared.offers.Full.{Full}
use Rattle.nd_decode.specs.Message.{Parts}
use Rattle.nd_decode.specs.declared.prefix_info.PrefixInfo.{PrefixInfo}
use Rattle.nd_compose.specs.Frames.{router_advertisement_frame}
use Rattle.nd_forwarding.specs.declared.route.Route.{Route}
use Rattle.nd_forwarding.specs.History as route_rows
use Rattle.nd_forwarding.specs.Routes.{fits, routes}
use Rattle.nd_forwarding.specs.Table as routing
use Rattle.nd_chronicle.specs.Start.{Start, link_local}
use Rattle.nd_chronicle.specs.Happening as happening
use Rattle.nd_chronicle.specs.Happening.{Chronicle, Happening, Ceased, Configured, Offered, Passed, RoutePut, Sent, last_moment}
use Rattle.nd_chronicle.specs.Histories.{advertising_history, route_history}
use Rattle.nd_chronicle.specs.Advertising.{telling_end}
use Rattle.nd_chronicle.specs.Refused.{AtRouter, UnlessFull}
use Rattle.nd_chronicle.specs.Event as events
use Rattle.nd_chronicle.specs.Told.{Told, items_at, items}
use Rattle.nd_out.specs.declared.out.Out.{Out}
use Rattle.nd_steps.specs.DueRows.{advertised_by}
use Rattle.nd_steps.specs.Outputs.{at_moment, happenings}
use Rattle.nd_steps.specs.declared.router_tables.RouterTables.{RouterTables}
use Rattle.nd_steps.proofs.Quiet.{Quiet, quiet_same, sent_is_quiet}
use Rattle.nd_steps.proofs.Telling.{one}
use Rattle.nd_chronicle.specs.Answer.{Done, answer_after}
use Rattle.nd_node.specs.declared.node.Node.{Node}
use Rattle.nd_node.specs.EventKept.{AddsEvent}
use Rattle.nd_node.specs.NodeKept.{next_of}
use Rattle.nd_node.proofs.Quiet.{stands_quiet}
use Rattle.nd_node.proofs.RouterRows.{Ceases, Configures, Offers, PutsRoute, aside, stands_advertising, stands_routes}
use Rattle.nd_node.proofs.Steps.{passed}

-- a router does it
at_router : (now : ℕ) (role : Role) (Adds : Chronicle → Type 0) (c d : Chronicle) → role ≡ Router → Adds d → AtRouter now role Adds c d
at_router now role Adds c d router adds = subst (λ (r : Role). AtRouter now r Adds c d) (sym router) adds

-- what an answer says of the room that is left
one_more_fits : (b : Bool) (answer : Result (Unit {0}) Full) → answer ≡ (if b then Err (record {}) else Ok tt) → is_ok answer ≡ true → b ≡ false
one_more_fits false answer is ok = refl
one_more_fits true answer is ok = absurd (let no : false ≡ true = sym (ap is_ok is) ∙ ok in let never : ⊥ = cc in never)

module _ {R A : Type 0} (stream : R → Stream) (old new : Node R A) (now : ℕ) (settled : now < next_of old) (role : old.role ≡ Router) where
  -- ---- a table changes, and nothing is reported

  module _ (r : RouterTables A) (is : new ≡ record old { last = now; router = r }) (outs : List (ℕ × Out A)) where
    abbrev base : Node R A
    base = record old { last = now }

    -- it is to advertise
    pub configures : (settings : Settings) → advertising.GainsRow old.router.advertiser r.advertiser (advertising_rows.Advertises now settings) → r.advertiser.limit ≡ old.router.advertiser.limit → r.routes ≡ old.router.routes
        → AddsEvent stream old new outs outs now (events.Advertises settings) Done
    configures settings gains limit same = record {
      each = λ start c s le.
          let later : Chronicle = (now, Passed) ∷ c in
          let d : Chronicle = (now, Configured settings) ∷ later in
          let p = passed stream start old base c now s le settled refl in (
            d,
            at_router now start.role (λ (e : Chronicle). e ≡ d) later d (sym s.role ∙ role) refl,
            rw is (stands_advertising stream start base later d (aside (Configures settings) now start.at later refl) p r old.generator (advertising_rows.Advertises now settings) refl gains limit same refl refl p.generator),
            record { newer = []; told = append-nil (items later); outs = sym (append-nil (happenings outs)) },
            refl,
          );
    }

    -- a prefix is to be advertised, and is not one too many
    pub offers : (info : PrefixInfo) (answer : Result (Unit {0}) Full)
        → ((history : List advertising_rows.Row) → advertising.Stands old.router.advertiser history → answer ≡ answer_to old.router.advertiser.limit info.prefix (prefixes history)) → is_ok answer ≡ true
        → advertising.GainsRow old.router.advertiser r.advertiser (advertising_rows.Offered info) → r.advertiser.limit ≡ old.router.advertiser.limit → r.routes ≡ old.router.routes → AddsEvent stream old new outs outs now (events.Offers info) Done
    offers info answer by_history ok gains limit same = record {
      each = λ start c s le.
          let later : Chronicle = (now, Passed) ∷ c in
          let d : Chronicle = (now, Offered info) ∷ later in
          let p = passed stream start old base c now s le settled refl in
          let many : Bool = is_one_too_many start.limits.offers info.prefix (prefixes (advertising_history start c)) in
          let fits' : many ≡ false = one_more_fits many answer (by_history (advertising_history start c) s.router.advertiser
          ∙ ap (λ (limit : ℕ). answer_to limit info.prefix (prefixes (advertising_history start c))) s.router.offer_limit) ok in (
            d,
            at_router now start.role (λ (e : Chronicle). UnlessFull now (if many then Some happening.Offers else None) (λ (x : Chronicle). x ≡ d) later e) later d (sym s.role ∙ role)
                (subst (λ (b : Bool). UnlessFull now (if b then Some happening.Offers else None) (λ (x : Chronicle). x ≡ d) later d) (sym fits') refl),
            rw is (stands_advertising stream start base later d (aside (Offers info) now start.at later refl) p r old.generator (advertising_rows.Offered info) tt gains limit same refl refl p.generator),
            record { newer = []; told = append-nil (items later); outs = sym (append-nil (happenings outs)) },
            refl,
          );
    }

    -- a route is put, and is not one too many
    pub puts_route : (prefix : PrefixValue) (route : Route) → ((history : List route_rows.Row) → routing.Stands old.router.routes history → true ≡ fits old.router.routes.limit prefix (routes history))
        → r.advertiser ≡ old.router.advertiser → routing.GainsRow old.router.routes r.routes (route_rows.RoutePut prefix route) → r.routes.limit ≡ old.router.routes.limit → AddsEvent stream old new outs outs now (events.Routes prefix route) Done
    puts_route prefix route by_history same gains limit = record {
      each = λ start c s le.
          let later : Chronicle = (now, Passed) ∷ c in
          let d : Chronicle = (now, RoutePut prefix route) ∷ later in
          let p = passed stream start old base c now s le settled refl in
          let room : Bool = fits start.limits.routes prefix (routes (route_history c)) in
          let fits' : true ≡ room = by_history (route_history c) s.router.routes ∙ ap (λ (limit : ℕ). fits limit prefix (routes (route_history c))) s.router.route_limit in (
            d,
            at_router now start.role (λ (e : Chronicle). UnlessFull now (if room then None else Some happening.StaticRoutes) (λ (x : Chronicle). x ≡ d) later e) later d (sym s.role ∙ role)
                (subst (λ (b : Bool). UnlessFull now (if b then None else Some happening.StaticRoutes) (λ (x : Chronicle). x ≡ d) later d) fits' refl),
            rw is (stands_routes stream start base later d (aside (PutsRoute prefix route) now start.at later refl) p r (route_rows.RoutePut prefix route) same gains limit refl refl refl),
            record { newer = []; told = append-nil (items later); outs = sym (append-nil (happenings outs)) },
            refl,
          );
    }

-- ---- it ceases to advertise

-- what is reported of it
abbrev pub told_end : Bool → Option (List ℕ) → List Happening
told_end tells made = if tells then advertised_by made else []

end_is_quiet : (start : Start) (at : ℕ) (tells : Bool) (message : Option Parts) (c : Chronicle) → ((s : ℕ) → last_moment s c ≡ at) → Quiet c (telling_end start at tells message c)
end_is_quiet start at true (Some message) c now = sent_is_quiet at _ c now
end_is_quiet start at true None c now = quiet_same c
end_is_quiet start at false message c now = quiet_same c

items_of_end : (start : Start) (at : ℕ) (tells : Bool) (message : Option Parts) (c : Chronicle)
    → items (telling_end start at tells message c) ≡ items c ++ flat_map items_at (at_moment at (told_end tells (option_map (router_advertisement_frame start.mac (link_local start)) message)))
items_of_end start at true (Some message) c = one (items c) (items_at (at, Sent (router_advertisement_frame start.mac (link_local start) message)))
items_of_end start at true None c = sym (append-nil (items c))
items_of_end start at false message c = sym (append-nil (items c))

end_is_done : (start : Start) (at : ℕ) (tells : Bool) (message : Option Parts) (c : Chronicle) → answer_after c false ≡ Done → answer_after (telling_end start at tells message c) false ≡ Done
end_is_done start at true (Some message) c done = refl
end_is_done start at true None c done = done
end_is_done start at false message c done = done

pub ceases : {R A : Type 0} (stream : R → Stream) (old new : Node R A) (now : ℕ) → now < next_of old → old.role ≡ Router → (r : RouterTables A) → new ≡ record old { last = now; router = r } → (x y : List (ℕ × Out A))
    → (own : Addr) → ((start : Start) → old.addresses.mac ≡ start.mac → own ≡ link_local start) → (made : Option (List ℕ))
    → ((history : List advertising_rows.Row) → advertising.Stands old.router.advertiser history → made ≡ option_map (router_advertisement_frame old.mac own) (last_contents_of old.mac history))
    → (tells : Bool) → ((history : List advertising_rows.Row) → advertising.Stands old.router.advertiser history → tells ≡ tells_its_end history)
    → advertising.GainsRow old.router.advertiser r.advertiser (advertising_rows.Ceased now) → r.advertiser.limit ≡ old.router.advertiser.limit → r.routes ≡ old.router.routes
    → (newer : List Happening) → newer ≡ told_end tells made → happenings y ≡ happenings x ++ at_moment now newer → AddsEvent stream old new x y now events.Stops Done
ceases {R} {A} stream old new now settled role r is x y own own_is made made_is tells tells_is gains limit same newer newer_is told = record {
  each = λ start c s le.
      let later : Chronicle = (now, Passed) ∷ c in
      let base : Node R A = record old { last = now } in
      let row : Chronicle = (now, Ceased) ∷ later in
      let p = passed stream start old base c now s le settled refl in
      let history : List advertising_rows.Row = advertising_history start c in
      let message : Option Parts = last_contents_of start.mac history in
      let d : Chronicle = telling_end start now (tells_its_end history) message row in
      let those : newer ≡ told_end (tells_its_end history) (option_map (router_advertisement_frame start.mac (link_local start)) message) =
      newer_is ∙ (ap (λ (b : Bool). told_end b made) (tells_is history s.router.advertiser)
      ∙ ap (λ (m : Option (List ℕ)). told_end (tells_its_end history) m) (made_is history s.router.advertiser
      ∙ (ap (λ (m : Mac). option_map (router_advertisement_frame m own) (last_contents_of m history)) s.mac
      ∙ ap (λ (a : Addr). option_map (router_advertisement_frame start.mac a) message) (own_is start s.address_mac)))) in (
        d,
        at_router now start.role (λ (e : Chronicle). e ≡ d) later d (sym s.role ∙ role) refl,
        rw is (stands_quiet stream start (record old { last = now; router = r }) row d (end_is_quiet start now (tells_its_end history) message row (λ at. refl))
            (stands_advertising stream start base later row (aside Ceases now start.at later refl) p r old.generator (advertising_rows.Ceased now) refl gains limit same refl refl p.generator)),
        record {
          newer = at_moment now newer;
          told = items_of_end start now (tells_its_end history) message row
              ∙ (ap (λ (t : List (ℕ × Told)). t ++ flat_map items_at (at_moment now (told_end (tells_its_end history) (option_map (router_advertisement_frame start.mac (link_local start)) message))))
              (append-nil (items later) ∙ append-nil (items c))
              ∙ ap (λ (l : List Happening). items c ++ flat_map items_at (at_moment now l)) (sym those));
          outs = told;
        },
        sym (end_is_done start now (tells_its_end history) message row refl),
      );
}
