-- The dates that are kept besides the routers, where one of these comes, goes or is refreshed.
use Rattle.std.proofs.Common.{get_or, drop, suc, ◌≡◌, ℕ, ◌<◌, ◌≤◌, true, cond, eqb, List, [], ◌∷◌, ◌++◌, length, Option, Some, None, refl, sym, ◌∙◌, ap, subst, arith, inl, inr, ◌⊎◌}
use Rattle.std.specs.Prelude.{slice_get, IfSome, IfNone, is_some, map, option_and_then, nat_le}
use Rattle.std.proofs.Math.Seq.{drop-cons}
use Rattle.std.specs.Option.{option_map}
use Rattle.nd_addr.specs.declared.addr.Addr.{Addr}
use Rattle.nd_addr.specs.Number.{number_of}
use Rattle.std.proofs.lemmas.Bool.Decides.{eqb_tells, nat_tests}
use Rattle.std.proofs.lemmas.Bool.{and_parts, cond_both, cond-true, cond-false, cases_Bool, ne_eqb, eq-eqb, eqb-true, true≢false}
use Rattle.nd_table.specs.Keyed as keyed
use Rattle.nd_table.specs.Keyed.{at_key}
use Rattle.nd_table.specs.KeyedKept.{Unique}
use Rattle.nd_table.specs.Date.{Date}
use Rattle.nd_table.specs.DueKept.{is_at}
use Rattle.nd_table.specs.Dates.{Planned, rank, AllAddresses, has, first_moment, date_at, AreDates, Redated}
use Rattle.nd_table.specs.Ends.{end_time}
use Rattle.nd_table.proofs.Keyed.{key_is}
use Rattle.nd_table.proofs.Due.{AtMost, AtMost-same, AtMost-some, AtMost-none, least_at_most, least_unique, AtMost-now}
use Rattle.nd_table.proofs.Dates.{least_unique_is, entry_of, kept, first_before, first_is_there, fewer, redated}
use Rattle.nd_table.specs.declared.lasting.Lasting.{Lasting}
use Rattle.nd_table.specs.Listing.{end_in, renewed, without, told, announced, open_at, fits}
use Rattle.nd_table.specs.ListingKept.{Distinct}
use Rattle.nd_table.proofs.Finding.{end_in-renewed, end_in-without, end_in-push, absent_of}
use Rattle.nd_table.proofs.Behind.{open_all, Distinct-filter, Distinct-announced}
use Rattle.nd_routers.specs.Routers.{same}
use Rattle.nd_routers.specs.RoutersKept.{IsSettled, NoneBefore, next_end, key_at, first_due}
use Rattle.nd_routers.specs.Planned.{key_of, date_of, IsPlanned}
use Rattle.nd_routers.proofs.Settled.{open_each}
use Rattle.nd_routers.proofs.Dues.{key_at-now, at-key}

abbrev join : Option (Option ℕ) → Option ℕ
join None = None
join (Some o) = o

-- the date of a router is its end
date_in : (k : ℕ) (es : List (Lasting ℕ)) → date_at key_of date_of k es ≡ join (end_in same k es)
date_in k [] = refl
date_in k (e ∷ es) = elim (cases_Bool (eqb e.key k)) [
  | inl here ↦ ap (option_and_then date_of) (cond-true (eqb e.key k) (Some e) (at_key key_of k es) here) ∙ sym (ap join (cond-true (eqb e.key k) (Some e.end) (end_in same k es) here))
  | inr behind ↦ ap (option_and_then date_of) (cond-false (eqb e.key k) (Some e) (at_key key_of k es) behind) ∙ (date_in k es ∙ sym (ap join (cond-false (eqb e.key k) (Some e.end) (end_in same k es) behind)))
]

none_in : (k : ℕ) (es : List (Lasting ℕ)) → end_in same k es ≡ None → at_key key_of k es ≡ None
none_in k [] h = refl
none_in k (e ∷ es) h = elim (cases_Bool (eqb e.key k)) [
  | inl here ↦ let f : Some e.end ≡ None = sym (cond-true (eqb e.key k) (Some e.end) (end_in same k es) here) ∙ h in absurd (cc)
  | inr behind ↦ cond-false (eqb e.key k) (Some e) (at_key key_of k es) behind ∙ none_in k es (sym (cond-false (eqb e.key k) (Some e.end) (end_in same k es) behind) ∙ h)
]

pub unique_of : (es : List (Lasting ℕ)) → Distinct same es → Unique key_of es
unique_of [] d = tt
unique_of (e ∷ es) d = (none_in e.key es d.0, unique_of es d.1)

module _ (es : List (Lasting ℕ)) (planned : Planned) (p : IsPlanned es planned) (r : keyed.Rises rank planned.dates) (a : AllAddresses planned.dates) where
  -- the first of the dates is the next
  pub next_planned : first_moment planned.dates ≡ next_end es
  next_planned = sym (least_unique_is key_of date_of planned.dates es r a (unique_of es p.distinct) p.dates)

-- where the first date is now, its router is the first that leaves
pub first_now : (now number : ℕ) (es : List (Lasting ℕ)) (ds : List Date) → Unique key_of es → AreDates key_of date_of ds es → keyed.Rises rank ds → AllAddresses ds → IfSome (slice_get ds 0) (λ d. (d.moment ≡ now) × (d.number ≡ number)) → first_moment ds ≡ Some now → first_due now es ≡ Some number
first_now now number es [] u are r a here first = absurd (cc)
first_now now number es (d ∷ ds) u are r a here first = by_first (first_due now es) refl
  where
    there : (n : Lasting ℕ) × (at_key key_of d.number es ≡ Some n) × (date_of n ≡ Some d.moment)
    there = entry_of key_of date_of (d ∷ ds) es are d.moment d.number (first_is_there d ds)

    at_most : AtMost (first_due now es) d.number
    at_most =
        let n = there in
        let n_key : n.0.key ≡ d.number = key_is key_of d.number es n.0 n.1 in
        least_at_most key_of (key_at now) d.number es n.0 d.number n.1 (AtMost-same (key_at now n.0) d.number (key_at-now now n.0 d.number n_key (n.2 ∙ ap Some here.0)))

    not_lower : (k : ℕ) → (d.moment < now) ⊎ ((d.moment ≡ now) × (d.number ≤ k)) → d.number ≤ k
    not_lower k (inl lt) = absurd (omega (arith, here.0))
    not_lower k (inr e) = e.1

    by_first : (o : Option ℕ) → first_due now es ≡ o → first_due now es ≡ Some number
    by_first None none = absurd (AtMost-none (first_due now es) d.number none at_most)
    by_first (Some f) is =
        let found = least_unique key_of (key_at now) es f u is in
        let at = at-key now found.0 f found.2 in
        let le : f ≤ d.number = AtMost-some (first_due now es) d.number f is at_most in
        let ge : d.number ≤ found.0.key = not_lower found.0.key (first_before d ds now found.0.key r a (kept key_of date_of (d ∷ ds) es are now found.0.key found.0 found.1 at.1)) in
        is ∙ ap Some (omega (arith, at.0, here.1))

-- where it is later, none leaves
pub none_now : (now : ℕ) (es : List (Lasting ℕ)) (ds : List Date) → Unique key_of es → AreDates key_of date_of ds es → next_end es ≡ first_moment ds → NoneBefore es now → (first_moment ds ≡ Some now → ⊥) → first_due now es ≡ None
none_now now es ds u are next h later = by_first (first_due now es) refl
  where
    by_first : (o : Option ℕ) → first_due now es ≡ o → first_due now es ≡ None
    by_first None none = none
    by_first (Some f) is =
        let found = least_unique key_of (key_at now) es f u is in
        let at = at-key now found.0 f found.2 in
        let least : AtMost (next_end es) now = least_at_most key_of date_of found.0.key es found.0 now found.1 (AtMost-same (date_of found.0) now at.1) in
        absurd (AtMost-now now (next_end es) h least (λ e. later (sym next ∙ e)))

pub first_planned : (now : ℕ) (inside es : List (Lasting ℕ)) (planned : Planned) (o : Option Addr) → inside ≡ es → IsPlanned inside planned → keyed.Rises rank planned.dates → AllAddresses planned.dates → NoneBefore es now
    → IfSome o (λ addr. IfSome (slice_get planned.dates 0) (λ d. (d.moment ≡ now) × (d.number ≡ number_of addr.0))) → IfSome o (λ _. first_moment planned.dates ≡ Some now) → IfNone o (first_moment planned.dates ≡ Some now → ⊥)
    → first_due now es ≡ option_map (λ a. number_of a.0) o
first_planned now inside es planned None e p r a h here some none =
    sym (ap (first_due now) e) ∙ none_now now inside planned.dates (unique_of inside p.distinct) p.dates (sym (next_planned inside planned p r a)) (subst (λ (l : List (Lasting ℕ)). NoneBefore l now) (sym e) h) none
first_planned now inside es planned (Some addr) e p r a h here some none =
    sym (ap (first_due now) e) ∙ first_now now (number_of addr.0) inside planned.dates (unique_of inside p.distinct) p.dates r a here some

-- a router goes
pub without_planned : (key : ℕ) (es new : List (Lasting ℕ)) (planned planned' : Planned) → IsPlanned es planned → new ≡ without same key es → Redated key None planned.dates planned'.dates → IsPlanned new planned'
without_planned key es new planned planned' p new_is change = record {
  distinct = subst (Distinct same) (sym new_is) (Distinct-filter same eqb_tells _ es p.distinct);
  dates = redated key_of date_of key None planned.dates planned'.dates es new p.dates change others gone;
}
  where
    look : (j : ℕ) → date_at key_of date_of j new ≡ join (cond (eqb key j) None (end_in same j es))
    look j = ap (date_at key_of date_of j) new_is ∙ (date_in j (without same key es) ∙ ap join (end_in-without same eqb_tells j key es))

    others : (j : ℕ) → (key ≡ j → ⊥) → date_at key_of date_of j new ≡ date_at key_of date_of j es
    others j differ = look j ∙ (ap join (cond-false (eqb key j) None (end_in same j es) (ne_eqb key j differ)) ∙ sym (date_in j es))

    gone : date_at key_of date_of key new ≡ None
    gone = look key ∙ ap join (cond-true (eqb key key) None (end_in same key es) (eq-eqb key key refl))

told_other : (j key now w : ℕ) (es : List (Lasting ℕ)) → (key ≡ j → ⊥) → end_in same j (told same now key w es) ≡ end_in same j es
told_other j key now w es differ =
    let other = ne_eqb key j differ in
    let e : Lasting ℕ = record { key = key; end = end_time now w } in
    cond_both (eqb w 0) (without same key es) (cond (is_some (end_in same key es)) (map (renewed same key (end_time now w)) es) (es ++ e ∷ [])) (λ xs. end_in same j xs ≡ end_in same j es)
    (λ _. end_in-without same eqb_tells j key es ∙ cond-false (eqb key j) None (end_in same j es) other)
    (λ _. cond_both (is_some (end_in same key es)) (map (renewed same key (end_time now w)) es) (es ++ e ∷ []) (λ xs. end_in same j xs ≡ end_in same j es)
    (λ _. end_in-renewed same eqb_tells j key (end_time now w) es ∙ cond-false (eqb key j) _ (end_in same j es) other)
    (λ h. end_in-push same eqb_tells j es e (absent_of (end_in same key es) h) ∙ cond-false (eqb key j) (Some e.end) (end_in same j es) other))

-- the date that a router has is among the dates
pub had_date : (key : ℕ) (es : List (Lasting ℕ)) (planned : Planned) (was : Option ℕ) → IsPlanned es planned → was ≡ date_at key_of date_of key es → (moment : ℕ) → has moment key planned.dates ≡ is_at moment was
had_date key es planned was p was_is moment = p.dates.each moment key ∙ sym (ap (is_at moment) was_is)

-- and that of the router that is due now is this moment
is_now : (now : ℕ) (o : Option ℕ) → is_at now o ≡ true → Some now ≡ o
is_now now None h = absurd (true≢false (sym h))
is_now now (Some t) h = ap Some (sym (eqb-true t now h))

pub due_date : (now number : ℕ) (es : List (Lasting ℕ)) (planned : Planned) → IsPlanned es planned → IfSome (slice_get planned.dates 0) (λ d. (d.moment ≡ now) × (d.number ≡ number)) → first_moment planned.dates ≡ Some now → Some now ≡ date_at key_of date_of number es
due_date now number es planned p here first = by_first planned.dates p.dates here first
  where
    by_first : (ds : List Date) → AreDates key_of date_of ds es → IfSome (slice_get ds 0) (λ d. (d.moment ≡ now) × (d.number ≡ number)) → first_moment ds ≡ Some now → Some now ≡ date_at key_of date_of number es
    by_first [] are at is = absurd (cc)
    by_first (d ∷ ds) are at is =
        is_now now (date_at key_of date_of number es) (sym (are.each now number)
        ∙ (ap (λ m. has m number (d ∷ ds)) (sym at.0) ∙ (ap (λ k. has d.moment k (d ∷ ds)) (sym at.1) ∙ first_is_there d ds)))

module _ (key now w : ℕ) (es new : List (Lasting ℕ)) (planned : Planned) (p : IsPlanned es planned) (settled : IsSettled es now) (new_is : new ≡ announced same now key w es) where
  announced_others : (j : ℕ) → (key ≡ j → ⊥) → date_at key_of date_of j new ≡ date_at key_of date_of j es
  announced_others j differ =
      ap (date_at key_of date_of j) new_is ∙ (date_in j (announced same now key w es) ∙ (ap join (told_other j key now w (open_at now es) differ
      ∙ ap (end_in same j) (open_all same eqb_tells es now (open_each es now settled))) ∙ sym (date_in j es)))

  announced_distinct : Distinct same new
  announced_distinct = subst (Distinct same) (sym new_is) (Distinct-announced same eqb_tells now key w es p.distinct)

  -- there is room for its date where it had none
  pub announced_room : (room : ℕ) (was o : Option ℕ) → was ≡ date_at key_of date_of key es → o ≡ date_at key_of date_of key new → length new ≤ room → IfNone was (IfSome o (λ _. keyed.Rises rank planned.dates → length planned.dates < room))
  announced_room room (Some x) o was_is o_is le = tt
  announced_room room None None was_is o_is le = tt
  announced_room room None (Some t) was_is o_is le = λ r. by_entry (at_key key_of key new) refl (sym o_is) r
    where
      by_entry : (n : Option (Lasting ℕ)) → at_key key_of key new ≡ n → option_and_then date_of n ≡ Some t → keyed.Rises rank planned.dates → length planned.dates < room
      by_entry None there e r = absurd (cc)
      by_entry (Some n) there e r =
          let less : suc (length planned.dates) ≤ length new = fewer key_of date_of key n new planned.dates r (unique_of new announced_distinct) (had_date key es planned None p was_is)
          (λ m k differ. p.dates.each m k ∙ sym (ap (is_at m) (announced_others k differ))) there in
          omega arith

  pub announced_planned : (planned' : Planned) (o : Option ℕ) → o ≡ date_at key_of date_of key new → Redated key o planned.dates planned'.dates → IsPlanned new planned'
  announced_planned planned' o o_is change = record {
    distinct = announced_distinct;
    dates = redated key_of date_of key o planned.dates planned'.dates es new p.dates change announced_others (sym o_is);
  }

-- where a router fits there are no more than the limit behind its announcement
pub fits_length : (limit now key w : ℕ) (es : List (Lasting ℕ)) → fits same limit now ((key, w) ∷ []) es ≡ true → length (announced same now key w es) ≤ limit
fits_length limit now key w es h = let f : nat_le (length (announced same now key w es)) limit ≡ true = (and_parts _ _ h).0 in grind (arith, nat_tests, f)

-- the entry that a search from the front has found
pub end_here : (k : ℕ) (es : List (Lasting ℕ)) (i : ℕ) (e : Lasting ℕ) → i < length es → e ≡ get_or es i e → eqb e.key k ≡ true → date_at key_of date_of k (drop i es) ≡ date_at key_of date_of k es → date_of e ≡ date_at key_of date_of k es
end_here k es i e lt is here rest =
    sym (sym rest ∙ (ap (date_at key_of date_of k) (drop-cons es i e lt)
    ∙ (ap (option_and_then date_of) (cond-true (eqb (key_of (get_or es i e)) k) (Some (get_or es i e)) (at_key key_of k (drop (suc i) es)) (ap (λ (x : Lasting ℕ). eqb x.key k) (sym is) ∙ here)) ∙ ap date_of (sym is))))
