-- What one more row does to what is remembered.
use Rattle.std.proofs.Common.{◌≡◌, ◌≤◌, ℕ, zero, suc, ◌-◌, Bool, true, false, cond, eqb, List, [], ◌∷◌, map, take, Option, Some, None, refl, sym, ◌∙◌, ap, subst, arith, inl, inr, nat_eq}
use Rattle.std.specs.Prelude.{not, ◌||◌}
use Rattle.std.specs.Option.{option_map_or}
use Rattle.std.specs.Map.{lookup_entry, remove_entry}
use Rattle.std.proofs.lemmas.Bool.{cond-true, cond-false, cases_Bool, eqb-true, eq-eqb, or_parts}
use Rattle.std.proofs.lemmas.Bool.Decides.{nat_tests}
use Rattle.lru.specs.LruCache.{LruCache, lru_cache, put_entries}
use Rattle.nd_nexthop.specs.History.{RedirectRow, Redirected, TargetGone, Cleared, others, destinations, since, ends, target_of, target_left, unless_ended, remembered}
use Rattle.nd_nexthop.specs.Choice.{GainsRow, Table, left_of, ended}
use Rattle.nd_nexthop.proofs.Keys.{has, AreApart, each_once}
use Rattle.nd_nexthop.proofs.Places.{paired}

turn_round : (a b : ℕ) → eqb a b ≡ false → eqb b a ≡ false
turn_round a b h = grind (arith, nat_tests, h)

module _ (f g : ℕ → Option ℕ) (key : ℕ) (agree : (d : ℕ) → eqb d key ≡ false → f d ≡ g d) where
  -- a key stays
  kept_head : (d : ℕ) (ds : List ℕ) → eqb d key ≡ false → others key (d ∷ ds) ≡ d ∷ others key ds
  kept_head d ds differ = ap (λ (b : Bool). cond (not b) (d ∷ others key ds) (others key ds)) differ

  -- where the key isn't, no other changes
  without_key : (n : ℕ) (ds : List ℕ) → has key ds ≡ false → paired f (take n ds) ≡ paired g (take n (others key ds))
  without_key zero ds h = refl
  without_key (suc n) [] h = refl
  without_key (suc n) (d ∷ ds) h =
      let parts = or_parts (eqb d key) (has key ds) h in
      ap (λ (o : Option ℕ). (d, o) ∷ paired f (take n ds)) (agree d parts.0)
      ∙ (ap (λ es. (d, g d) ∷ es) (without_key n ds parts.1)
      ∙ sym (ap (λ ks. paired g (take (suc n) ks)) (kept_head d ds parts.0)))

  -- a new key in front: the last one goes
  enters : (n : ℕ) (ds : List ℕ) → lookup_entry (nat_eq key) (paired f (take (suc n) ds)) ≡ None → take n (paired f (take (suc n) ds)) ≡ paired g (take n (others key ds))
  enters zero ds h = refl
  enters (suc n) [] h = refl
  enters (suc n) (d ∷ ds) h = elim (cases_Bool (eqb key d)) [
    | inl same ↦ absurd (let found : Some (d, f d) ≡ None = sym (cond-true (eqb key d) (Some (d, f d)) (lookup_entry (nat_eq key) (paired f (take (suc n) ds))) same) ∙ h in cc)
    | inr differ ↦
        let rest = sym (cond-false (eqb key d) (Some (d, f d)) (lookup_entry (nat_eq key) (paired f (take (suc n) ds))) differ) ∙ h in
        ap (λ (o : Option ℕ). (d, o) ∷ take n (paired f (take (suc n) ds))) (agree d (turn_round key d differ))
        ∙ (ap (λ es. (d, g d) ∷ es) (enters n ds rest)
        ∙ sym (ap (λ ks. paired g (take (suc n) ks)) (kept_head d ds (turn_round key d differ))))
  ]

  -- the key and what is left without it, where it is there
  abbrev Moved : ℕ → List ℕ → ℕ × Option ℕ → Type 0
  Moved n ds e = (e.0 ≡ key) × (remove_entry (nat_eq key) (paired f (take (suc n) ds)) ≡ paired g (take n (others key ds)))

  moves_first : (n d : ℕ) (ds : List ℕ) (e : ℕ × Option ℕ) → AreApart (d ∷ ds) → eqb key d ≡ true → lookup_entry (nat_eq key) (paired f (take (suc n) (d ∷ ds))) ≡ Some e → Moved n (d ∷ ds) e
  moves_first n d ds e a same h =
      let found : Some (d, f d) ≡ Some e = sym (cond-true (eqb key d) (Some (d, f d)) (lookup_entry (nat_eq key) (paired f (take n ds))) same) ∙ h in
      let at : key ≡ d = eqb-true key d same in
      let entry : (d, f d) ≡ e = cc in
      let gone : others key (d ∷ ds) ≡ others key ds = ap (λ (b : Bool). cond (not b) (d ∷ others key ds) (others key ds)) (eq-eqb d key (sym at)) in (
        sym (ap (λ p. p.0) entry) ∙ sym at,
        cond-true (eqb key d) (paired f (take n ds)) ((d, f d) ∷ remove_entry (nat_eq key) (paired f (take n ds))) same
            ∙ (without_key n ds (subst (λ (k : ℕ). has k ds ≡ false) (sym at) a.0) ∙ sym (ap (λ ks. paired g (take n ks)) gone)),
      )

  moves_behind : (n d : ℕ) (ds : List ℕ) (e : ℕ × Option ℕ) → eqb key d ≡ false → Moved n ds e → Moved (suc n) (d ∷ ds) e
  moves_behind n d ds e differ rest = (
    rest.0,
    cond-false (eqb key d) (paired f (take (suc n) ds)) ((d, f d) ∷ remove_entry (nat_eq key) (paired f (take (suc n) ds))) differ
        ∙ (ap (λ (o : Option ℕ). (d, o) ∷ remove_entry (nat_eq key) (paired f (take (suc n) ds))) (agree d (turn_round key d differ))
        ∙ (ap (λ es. (d, g d) ∷ es) rest.1
        ∙ sym (ap (λ ks. paired g (take (suc n) ks)) (kept_head d ds (turn_round key d differ))))),
  )

  -- it isn't the first
  look_on : (n d : ℕ) (ds : List ℕ) (e : ℕ × Option ℕ) → eqb key d ≡ false → lookup_entry (nat_eq key) (paired f (take (suc n) (d ∷ ds))) ≡ Some e → lookup_entry (nat_eq key) (paired f (take n ds)) ≡ Some e
  look_on n d ds e differ h = sym (cond-false (eqb key d) (Some (d, f d)) (lookup_entry (nat_eq key) (paired f (take n ds))) differ) ∙ h

  -- a key that is there comes to the front
  moves : (n : ℕ) (ds : List ℕ) (e : ℕ × Option ℕ) → AreApart ds → lookup_entry (nat_eq key) (paired f (take (suc n) ds)) ≡ Some e → Moved n ds e
  moves n [] e a h = absurd (cc)
  moves zero (d ∷ ds) e a h = elim (cases_Bool (eqb key d)) [
    | inl same ↦ moves_first zero d ds e a same h
    | inr differ ↦ absurd (let none : None ≡ Some e = look_on zero d ds e differ h in cc)
  ]
  moves (suc n) (d ∷ ds) e a h = elim (cases_Bool (eqb key d)) [
    | inl same ↦ moves_first (suc n) d ds e a same h
    | inr differ ↦ moves_behind n d ds e differ (moves n ds e a.1 (look_on (suc n) d ds e differ h))
  ]

  -- either way
  put : (n : ℕ) (ds : List ℕ) (w : Option ℕ) → AreApart ds → g key ≡ w
      → put_entries nat_eq (lru_cache (paired f (take (suc n) ds)) (suc n)) key w ≡ paired g (take (suc n) (key ∷ others key ds))
  put n ds w a is = by (lookup_entry (nat_eq key) (paired f (take (suc n) ds))) refl
    where
      by : (o : Option (ℕ × Option ℕ)) → lookup_entry (nat_eq key) (paired f (take (suc n) ds)) ≡ o
          → option_map_or (λ e. (e.0, w) ∷ remove_entry (nat_eq key) (paired f (take (suc n) ds))) o ((key, w) ∷ take (suc n - 1) (paired f (take (suc n) ds))) ≡ paired g (take (suc n) (key ∷ others key ds))
      by None h =
          let fewer : suc n - 1 ≡ n = omega arith in
          ap (λ (o : Option ℕ). (key, o) ∷ take (suc n - 1) (paired f (take (suc n) ds))) (sym is)
          ∙ ap (λ es. (key, g key) ∷ es) (ap (λ (m : ℕ). take m (paired f (take (suc n) ds))) fewer ∙ enters n ds h)
      by (Some e) h =
          let m = moves n ds e a h in
          ap (λ (k : ℕ). (k, w) ∷ remove_entry (nat_eq key) (paired f (take (suc n) ds))) m.0
          ∙ (ap (λ (o : Option ℕ). (key, o) ∷ remove_entry (nat_eq key) (paired f (take (suc n) ds))) (sym is)
          ∙ ap (λ es. (key, g key) ∷ es) m.1)

-- a Redirect of another destination changes nothing of this one
left_agrees : (at d t key : ℕ) (history : List RedirectRow) → eqb key d ≡ false → target_left key history ≡ target_left key (Redirected at d t ∷ history)
left_agrees at d t key history differ =
    let turned = turn_round key d differ in
    sym (ap (λ rows. unless_ended (target_of key (Redirected at d t ∷ history)) rows) (cond-false (eqb d key) [] (Redirected at d t ∷ since key history) turned)
    ∙ ap (λ (o : Option ℕ). unless_ended o (Redirected at d t ∷ since key history)) (cond-false (eqb d key) (Some t) (target_of key history) turned)
    ∙ same (target_of key history))
  where
    same : (o : Option ℕ) → unless_ended o (Redirected at d t ∷ since key history) ≡ unless_ended o (since key history)
    same None = refl
    same (Some x) = refl

left_new : (at d t : ℕ) (history : List RedirectRow) → target_left d (Redirected at d t ∷ history) ≡ Some t
left_new at d t history =
    let here = eq-eqb d d refl in
    ap (λ rows. unless_ended (target_of d (Redirected at d t ∷ history)) rows) (cond-true (eqb d d) [] (Redirected at d t ∷ since d history) here)
    ∙ ap (λ (o : Option ℕ). unless_ended o []) (cond-true (eqb d d) (Some t) (target_of d history) here)

-- there is room for one at least
put_limit : (limit at d t : ℕ) (history : List RedirectRow) → 1 ≤ limit → put_entries nat_eq (lru_cache (remembered limit history) limit) d (Some t) ≡ remembered limit (Redirected at d t ∷ history)
put_limit zero at d t history some = absurd (omega (arith, some))
put_limit (suc n) at d t history some =
    put (λ k. target_left k history) (λ k. target_left k (Redirected at d t ∷ history)) d (λ k differ. left_agrees at d t k history differ) n (destinations history) (Some t) (each_once history) (left_new at d t history)

pub gains_redirect : (old new : Table) (at d t : ℕ) → 1 ≤ old.redirects.limit → new.redirects.limit ≡ old.redirects.limit → new.redirects.entries ≡ put_entries nat_eq (lru_cache old.redirects.entries old.redirects.limit) d (Some t) → GainsRow old new (Redirected at d t)
gains_redirect old new at d t some same is = record {
  stands = λ history s. record {
    entries_are =
        is
        ∙ (ap (λ es. put_entries nat_eq (lru_cache es old.redirects.limit) d (Some t)) s.entries_are
        ∙ (put_limit old.redirects.limit at d t history some ∙ ap (λ (n : ℕ). remembered n (Redirected at d t ∷ history)) (sym same)));
  };
}

-- each key with what is left of it then
all_end : (f g : ℕ → Option ℕ) (lost : Option ℕ) → ((d : ℕ) → left_of lost (f d) ≡ g d) → (ds : List ℕ) → map (ended lost) (paired f ds) ≡ paired g ds
all_end f g lost agree [] = refl
all_end f g lost agree (d ∷ ds) =
    ap (λ (o : Option ℕ). (d, o) ∷ map (ended lost) (paired f ds)) (agree d) ∙ ap (λ es. (d, g d) ∷ es) (all_end f g lost agree ds)

left_gone : (at t key : ℕ) (history : List RedirectRow) → left_of (Some t) (target_left key history) ≡ target_left key (TargetGone at t ∷ history)
left_gone at t key history = by (target_of key history)
  where
    by : (o : Option ℕ) → left_of (Some t) (unless_ended o (since key history)) ≡ unless_ended o (TargetGone at t ∷ since key history)
    by None = refl
    by (Some x) = split (eqb t x) (ends x (since key history)) refl
      where
        split : (a b : Bool) → eqb t x ≡ a → left_of (Some t) (cond b None (Some x)) ≡ cond (a || b) None (Some x)
        split true true e = refl
        split true false e = ap (λ (c : Bool). cond c None (Some x)) e
        split false true e = refl
        split false false e = ap (λ (c : Bool). cond c None (Some x)) e

left_cleared : (at key : ℕ) (history : List RedirectRow) → left_of None (target_left key history) ≡ target_left key (Cleared at ∷ history)
left_cleared at key history = by (target_of key history)
  where
    by : (o : Option ℕ) → left_of None (unless_ended o (since key history)) ≡ unless_ended o (Cleared at ∷ since key history)
    by None = refl
    by (Some x) = split (ends x (since key history))
      where
        split : (b : Bool) → left_of None (cond b None (Some x)) ≡ None
        split true = refl
        split false = refl

pub gains_gone : (old new : Table) (at t : ℕ) → new.redirects.limit ≡ old.redirects.limit → new.redirects.entries ≡ map (ended (Some t)) old.redirects.entries → GainsRow old new (TargetGone at t)
gains_gone old new at t same is = record {
  stands = λ history s. record {
    entries_are =
        is ∙ (ap (λ es. map (ended (Some t)) es) s.entries_are
        ∙ all_end (λ k. target_left k history) (λ k. target_left k (TargetGone at t ∷ history)) (Some t) (λ k. left_gone at t k history) (take old.redirects.limit (destinations history))
        ∙ ap (λ (n : ℕ). remembered n (TargetGone at t ∷ history)) (sym same));
  };
}

pub gains_clear : (old new : Table) (at : ℕ) → new.redirects.limit ≡ old.redirects.limit → new.redirects.entries ≡ map (ended None) old.redirects.entries → GainsRow old new (Cleared at)
gains_clear old new at same is = record {
  stands = λ history s. record {
    entries_are =
        is ∙ (ap (λ es. map (ended None) es) s.entries_are
        ∙ all_end (λ k. target_left k history) (λ k. target_left k (Cleared at ∷ history)) None (λ k. left_cleared at k history) (take old.redirects.limit (destinations history))
        ∙ ap (λ (n : ℕ). remembered n (Cleared at ∷ history)) (sym same));
  };
}

-- the same of the cache's own words
pub gains_put : (old new : Table) (cache : LruCache ℕ (Option ℕ)) (at d t k : ℕ) (w : Option ℕ) → 1 ≤ cache.cap → new.redirects.limit ≡ cache.cap → new.redirects.entries ≡ put_entries nat_eq cache k w → cache.entries ≡ old.redirects.entries → cache.cap ≡ old.redirects.limit → k ≡ d → w ≡ Some t → GainsRow old new (Redirected at d t)
gains_put old new cache at d t k w some same is entries cap key value = gains_redirect old new at d t (omega (arith, some, cap)) (same ∙ cap) (
    is
    ∙ (ap (λ (j : ℕ). put_entries nat_eq cache j w) key
    ∙ (ap (λ (o : Option ℕ). put_entries nat_eq cache d o) value
    ∙ (ap (λ es. put_entries nat_eq (lru_cache es cache.cap) d (Some t)) entries
    ∙ ap (λ (n : ℕ). put_entries nat_eq (lru_cache old.redirects.entries n) d (Some t)) cap)))
    )
