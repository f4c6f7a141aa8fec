-- What one more row does to the routes.
use Rattle.std.proofs.Common.{◌≡◌, ℕ, Bool, true, false, List, [], ◌∷◌, ◌++◌, Option, Some, None, refl, sym, ◌∙◌, ap, inl, inr}
use Rattle.std.specs.Prelude.{◌||◌, is_some, option_map, option_to_list}
use Rattle.std.proofs.lemmas.Bool.{cond-true, cond-false, cases_Bool, or_parts, false≢true}
use Rattle.indexmap.specs.IndexMap.{insert_entry}
use Rattle.nd_addr.specs.Prefix.{PrefixValue}
use Rattle.nd_addr.specs.Same.{same_prefix}
use Rattle.nd_addr.proofs.SamePrefix.{same_is, same_self}
use Rattle.nd_forwarding.specs.declared.route.Route.{Route}
use Rattle.nd_forwarding.specs.History.{Row, RoutePut, RedirectMade}
use Rattle.nd_forwarding.specs.Routes.{prefixes, route_of, routes, with_routes}
use Rattle.nd_forwarding.specs.Table.{GainsRow, Table}
use Rattle.nd_forwarding.proofs.Prefixes.{AreApart, apart, has, known}

-- a prefix in front of others, where it has a route
abbrev entered : PrefixValue → Option Route → List (PrefixValue × Route) → List (PrefixValue × Route)
entered p o es = option_to_list (option_map (λ (route : Route). (p, route)) o) ++ es

module _ (q : PrefixValue) (r : Route) (history : List Row) where
  abbrev now : List Row
  now = RoutePut q r ∷ history

  put_last : route_of q now ≡ Some r
  put_last = cond-true (same_prefix q q) (Some r) (route_of q history) (same_self q)

  -- the routes of other prefixes stay
  others_stay : (ps : List PrefixValue) → has q ps ≡ false → with_routes ps now ≡ with_routes ps history
  others_stay [] h = refl
  others_stay (p ∷ ps) h =
      let parts = or_parts (same_prefix q p) (has q ps) h in
      ap (λ (o : Option Route). entered p o (with_routes ps now)) (cond-false (same_prefix q p) (Some r) (route_of p history) parts.0)
      ∙ ap (entered p (route_of p history)) (others_stay ps parts.1)

  -- a new prefix goes last
  goes_last : (ps : List PrefixValue) → has q ps ≡ false → insert_entry same_prefix (with_routes ps history) q r ≡ with_routes ps history ++ (q, r) ∷ []
  goes_last [] h = refl
  goes_last (p ∷ ps) h = by (route_of p history) (or_parts (same_prefix q p) (has q ps) h).0 (goes_last ps (or_parts (same_prefix q p) (has q ps) h).1)
    where
      by : (o : Option Route) → same_prefix q p ≡ false → insert_entry same_prefix (with_routes ps history) q r ≡ with_routes ps history ++ (q, r) ∷ []
          → insert_entry same_prefix (entered p o (with_routes ps history)) q r ≡ entered p o (with_routes ps history) ++ (q, r) ∷ []
      by None differ rest = rest
      by (Some x) differ rest =
          cond-false (same_prefix q p) ((p, r) ∷ with_routes ps history) ((p, x) ∷ insert_entry same_prefix (with_routes ps history) q r) differ
          ∙ ap (λ es. (p, x) ∷ es) rest

  last_of : (ps : List PrefixValue) → with_routes (ps ++ q ∷ []) now ≡ with_routes ps now ++ (q, r) ∷ []
  last_of [] = ap (λ (o : Option Route). entered q o []) put_last
  last_of (p ∷ ps) = by (route_of p now) (last_of ps)
    where
      by : (o : Option Route) → with_routes (ps ++ q ∷ []) now ≡ with_routes ps now ++ (q, r) ∷ [] → entered p o (with_routes (ps ++ q ∷ []) now) ≡ entered p o (with_routes ps now) ++ (q, r) ∷ []
      by None rest = rest
      by (Some x) rest = ap (λ es. (p, x) ∷ es) rest

  -- one that has a route keeps its place
  keeps_place : (ps : List PrefixValue) → has q ps ≡ true → AreApart ps → is_some (route_of q history) ≡ true → with_routes ps now ≡ insert_entry same_prefix (with_routes ps history) q r
  keeps_place [] h a there = absurd (false≢true h)
  keeps_place (p ∷ ps) h a there = elim (cases_Bool (same_prefix q p)) [
    | inl same ↦
        let here : is_some (route_of p history) ≡ true = ap (λ x. is_some (route_of x history)) (sym (same_is q p same)) ∙ there in
        let rest : has q ps ≡ false = ap (λ x. has x ps) (same_is q p same) ∙ a.0 in
        ap (λ (o : Option Route). entered p o (with_routes ps now)) (cond-true (same_prefix q p) (Some r) (route_of p history) same)
        ∙ (ap (λ es. (p, r) ∷ es) (others_stay ps rest) ∙ replaced (route_of p history) here same)
    | inr differ ↦
        let rest : has q ps ≡ true = sym (ap (λ (t : Bool). t || has q ps) differ) ∙ h in
        ap (λ (o : Option Route). entered p o (with_routes ps now)) (cond-false (same_prefix q p) (Some r) (route_of p history) differ)
        ∙ (ap (entered p (route_of p history)) (keeps_place ps rest a.1 there) ∙ passed (route_of p history) differ)
  ]
    where
      replaced : (o : Option Route) → is_some o ≡ true → same_prefix q p ≡ true → (p, r) ∷ with_routes ps history ≡ insert_entry same_prefix (entered p o (with_routes ps history)) q r
      replaced None here same = absurd (false≢true here)
      replaced (Some x) here same = sym (cond-true (same_prefix q p) ((p, r) ∷ with_routes ps history) ((p, x) ∷ insert_entry same_prefix (with_routes ps history) q r) same)

      passed : (o : Option Route) → same_prefix q p ≡ false → entered p o (insert_entry same_prefix (with_routes ps history) q r) ≡ insert_entry same_prefix (entered p o (with_routes ps history)) q r
      passed None differ = refl
      passed (Some x) differ = sym (cond-false (same_prefix q p) ((p, r) ∷ with_routes ps history) ((p, x) ∷ insert_entry same_prefix (with_routes ps history) q r) differ)

  pub routes_put : routes now ≡ insert_entry same_prefix (routes history) q r
  routes_put = elim (cases_Bool (is_some (route_of q history))) [
    | inl there ↦
        ap (λ ps. with_routes ps now) (cond-true (is_some (route_of q history)) (prefixes history) (prefixes history ++ q ∷ []) there)
        ∙ keeps_place (prefixes history) (known q history ∙ there) (apart history) there
    | inr absent ↦
        let lacks : has q (prefixes history) ≡ false = known q history ∙ absent in
        ap (λ ps. with_routes ps now) (cond-false (is_some (route_of q history)) (prefixes history) (prefixes history ++ q ∷ []) absent)
        ∙ (last_of (prefixes history) ∙ (ap (λ es. es ++ (q, r) ∷ []) (others_stay (prefixes history) lacks) ∙ sym (goes_last (prefixes history) lacks)))
  ]

pub gains_put : (old new : Table) (q : PrefixValue) (r : Route) → new.entries ≡ insert_entry same_prefix old.entries q r → new.redirected ≡ old.redirected → GainsRow old new (RoutePut q r)
gains_put old new q r entries redirected = record {
  stands = λ history s. record {
    entries_are = entries ∙ (ap (λ es. insert_entry same_prefix es q r) s.entries_are ∙ sym (routes_put q r history));
    redirected_is = redirected ∙ s.redirected_is;
  };
}

-- a Redirect leaves the routes
with_routes_stay : (at : ℕ) (history : List Row) (ps : List PrefixValue) → with_routes ps (RedirectMade at ∷ history) ≡ with_routes ps history
with_routes_stay at history [] = refl
with_routes_stay at history (p ∷ ps) = ap (entered p (route_of p history)) (with_routes_stay at history ps)

pub gains_made : (old new : Table) (at : ℕ) → new.entries ≡ old.entries → new.redirected ≡ Some at → GainsRow old new (RedirectMade at)
gains_made old new at entries redirected = record {
  stands = λ history s. record {
    entries_are = entries ∙ (s.entries_are ∙ sym (with_routes_stay at history (prefixes history)));
    redirected_is = redirected;
  };
}
