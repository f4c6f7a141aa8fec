-- What only a router has stands for a chronicle with more.
use Rattle.std.proofs.Common.{◌≡◌, ℕ, ◌∷◌, Bool, true, false, List, Option, Some, None, refl, ◌∙◌, ap, subst}
use Rattle.std.specs.Prelude.{◌==◌, if◌then◌else◌}
use Rattle.nd_addr.specs.declared.role.Role.{Role}
use Rattle.nd_addr.specs.declared.role.Role.TheVariants.{Host, Router}
use Rattle.nd_table.specs.DueKept.{NotBefore}
use Rattle.nd_advertiser.specs.Advertising.{advertised_by, next_of}
use Rattle.nd_advertiser.specs.Calls.{next}
use Rattle.nd_advertiser.specs.Config.{Settings}
use Rattle.nd_advertiser.specs.History as advertising_rows
use Rattle.nd_advertiser.specs.Overdue.{IsOf}
use Rattle.nd_advertiser.specs.Table as advertising
use Rattle.nd_advertiser.proofs.Dates.{due_is_on, has_settings, next_is, spaced, still}
use Rattle.nd_slaac.specs.Due.{Falls, Ends, Solicits, Assigns, key_in, happens}
use Rattle.nd_slaac.specs.History as address_rows
use Rattle.nd_chronicle.specs.Start.{Start, link_local_key, is_host}
use Rattle.nd_chronicle.specs.Happening.{Chronicle, Address}
use Rattle.nd_chronicle.specs.Histories.{advertising_history, route_history}
use Rattle.nd_chronicle.specs.Due.{router_advertisement_date}
use Rattle.nd_steps.specs.declared.router_tables.RouterTables.{RouterTables}
use Rattle.nd_steps.specs.RouterTables.{NotesAddress, Stands, next_advertisement, router_side}

-- where what happened concerns neither, they stand for the same
pub side_stands : {A : Type 0} (start : Start) (tables : RouterTables A) (c d : Chronicle) → router_side start d ≡ router_side start c → Stands start tables c → Stands start tables d
side_stands start tables c d same s =
    let advertising' : advertising_history start d ≡ advertising_history start c = ap (λ p. p.0) same in
    let routes' : route_history d ≡ route_history c = ap (λ p. p.1) same in record {
      advertiser = rw advertising' s.advertiser;
      routes = rw routes' s.routes;
      offer_limit = s.offer_limit;
      route_limit = s.route_limit;
      spaced = rw advertising' s.spaced;
    }

-- ---- the date of the next advertisement

abbrev date_by : Role → Option ℕ → Option ℕ
date_by role date = if is_host role then None else date

-- it is that of the chronicle
pub advertisement_date : {A : Type 0} (start : Start) (role : Role) (tables : RouterTables A) (c : Chronicle) → role ≡ start.role → Stands start tables c
    → next_advertisement role tables ≡ router_advertisement_date start c
advertisement_date start role tables c role_is s =
    ap (λ (r : Role). date_by r (next tables.advertiser.assigned tables.advertiser.last tables.advertiser.advertising)) role_is
    ∙ ap (λ (date : Option ℕ). date_by start.role date) (next_is tables.advertiser (advertising_history start c) s.advertiser)

-- what is due by the one history isn't before a moment where it isn't by the other
pub still_not_before : (role : Role) (now : ℕ) (history : List advertising_rows.Row) (row : advertising_rows.Row) → IsOf now row
    → NotBefore now (date_by role (next_of history)) → NotBefore now (date_by role (next_of (row ∷ history)))
still_not_before Host now history row is h = tt
still_not_before Router now history row is h = still now history row is h

-- an advertisement that is due has settings
pub due_has_settings : (start : Start) (c : Chronicle) (at : ℕ) → router_advertisement_date start c ≡ Some at → (s : Settings) × (advertised_by (advertising_history start c) ≡ Some s)
due_has_settings start c at due = has_settings (advertising_history start c) (due_is_on (advertising_history start c) at (by start.role due))
  where
    by : (role : Role) → date_by role (next_of (advertising_history start c)) ≡ Some at → next_of (advertising_history start c) ≡ Some at
    by Host e = absurd (let no : ⊥ = cc in no)
    by Router e = e

-- ---- rows

-- they stand for one more row of what is advertised
pub stands_row : {A : Type 0} (start : Start) (old new : RouterTables A) (c d : Chronicle) (now : ℕ) (row : advertising_rows.Row) → IsOf now row → advertising.GainsRow old.advertiser new.advertiser row
    → new.advertiser.limit ≡ old.advertiser.limit → new.routes ≡ old.routes → advertising_history start d ≡ row ∷ advertising_history start c → route_history d ≡ route_history c → Stands start old c → Stands start new d
stands_row start old new c d now row is gains limit routes' more same s = record {
  advertiser = rw more (gains.stands (advertising_history start c) s.advertiser);
  routes = rw (routes', same) s.routes;
  offer_limit = limit ∙ s.offer_limit;
  route_limit = rw routes' s.route_limit;
  spaced = rw more (spaced now (advertising_history start c) row is s.spaced);
}

-- and none is due in the past
pub later_row : {A : Type 0} (start : Start) (role : Role) (old new : RouterTables A) (c d : Chronicle) (now : ℕ) (row : advertising_rows.Row) → IsOf now row → role ≡ start.role
    → advertising_history start d ≡ row ∷ advertising_history start c → Stands start old c → Stands start new d
    → NotBefore now (next_advertisement role old) → NotBefore now (next_advertisement role new)
later_row start role old new c d now row is role_is more s t h =
    rw (advertisement_date start role new d role_is t, more) (still_not_before start.role now (advertising_history start c) row is
    (subst (λ (date : Option ℕ). NotBefore now date) (advertisement_date start role old c role_is s) h))

-- ---- one of the node's addresses

-- what was due for one is noted as the chronicle has it
pub stands_address : {A : Type 0} (start : Start) (role : Role) (old new : RouterTables A) (c : Chronicle) (now : ℕ) (falls : Falls) → role ≡ start.role → NotesAddress (link_local_key start) now falls old new
    → Stands start old c → NotBefore now (next_advertisement role old)
    → Stands start new ((now, Address (key_in falls) (happens falls)) ∷ c) × NotBefore now (next_advertisement role new)
stands_address start role old new c now falls role_is notes s h = by falls notes
  where
    -- nothing is noted
    same : (d : Chronicle) → advertising_history start d ≡ advertising_history start c → route_history d ≡ route_history c → advertising.Stands new.advertiser (advertising_history start c) → new.routes ≡ old.routes
        → Stands start new d × NotBefore now (next_advertisement role new)
    same d is those kept routes' =
        let t : Stands start new d = record { advertiser = rw is kept; routes = rw (routes', those) s.routes; offer_limit = notes.limit ∙ s.offer_limit; route_limit = rw routes' s.route_limit; spaced = rw is s.spaced } in
        (t, rw (advertisement_date start role new d role_is t, is) (subst (λ (date : Option ℕ). NotBefore now date) (advertisement_date start role old c role_is s) h))

    -- the link-local address is assigned
    assigned : (d : Chronicle) → advertising_history start d ≡ advertising_rows.Assigned now ∷ advertising_history start c → route_history d ≡ route_history c
        → advertising.Stands new.advertiser (advertising_rows.Assigned now ∷ advertising_history start c) → new.routes ≡ old.routes → Stands start new d × NotBefore now (next_advertisement role new)
    assigned d more those kept routes' =
        let t : Stands start new d = record {
          advertiser = rw more kept;
          routes = rw (routes', those) s.routes;
          offer_limit = notes.limit ∙ s.offer_limit;
          route_limit = rw routes' s.route_limit;
          spaced = rw more (spaced now (advertising_history start c) (advertising_rows.Assigned now) refl s.spaced);
        } in
        (t, later_row start role old new c d now (advertising_rows.Assigned now) refl role_is more s t h)

    either : (key : ℕ) (own : Bool) → key == link_local_key start ≡ own → advertising.Stands new.advertiser (if own then advertising_rows.Assigned now ∷ advertising_history start c else advertising_history start c) → new.routes ≡ old.routes
        → Stands start new ((now, Address key address_rows.Assigned) ∷ c) × NotBefore now (next_advertisement role new)
    either key true e kept routes' = assigned ((now, Address key address_rows.Assigned) ∷ c) (cc) refl kept routes'
    either key false e kept routes' = same ((now, Address key address_rows.Assigned) ∷ c) (cc) refl kept routes'

    by : (falls : Falls) → NotesAddress (link_local_key start) now falls old new → Stands start new ((now, Address (key_in falls) (happens falls)) ∷ c) × NotBefore now (next_advertisement role new)
    by (Ends key) n = same _ refl refl (n.advertiser (advertising_history start c) s.advertiser) n.routes
    by (Solicits key) n = same _ refl refl (n.advertiser (advertising_history start c) s.advertiser) n.routes
    by (Assigns key) n = either key (key == link_local_key start) refl (n.advertiser (advertising_history start c) s.advertiser) n.routes
