-- The dates of the entries of a table, which are kept in their order besides the entries.
use Rattle.std.proofs.Common.{◌≡◌, ℕ, ◌+◌, ◌*◌, ◌^◌, ◌<◌, ◌≤◌, Bool, true, false, eqb, ltb, ◌||◌, List, [], ◌∷◌, length, get_or, Option, Some, None, refl, sym, ◌∙◌, ap, subst, arith, suc, zero, ◌⊎◌, inl, inr}
use Rattle.std.specs.Prelude.{slice_get, option_and_then, IfSome}
use Rattle.std.specs.List.{insert, remove}
use Rattle.std.proofs.lemmas.Bool.Decides.{nat_tests}
use Rattle.std.proofs.lemmas.Bool.{cond-true, cond-false, eqb-true, eq-eqb, ne_eqb, true≢false, cases_Bool, cases_eq, or_cases, or_left}
use Rattle.std.proofs.lemmas.Option.{slice_get-get_or}
use Rattle.std.proofs.lemmas.List.Edits.{length-insert}
use Rattle.nd_table.specs.Date.{Date}
use Rattle.nd_table.specs.Keyed.{at_key, AllAbove, Rises}
use Rattle.nd_table.specs.KeyedKept.{Unique, place_of}
use Rattle.nd_table.specs.DueKept.{is_at, least_date, first_at, NotBefore}
use Rattle.nd_table.specs.Dates.{rank, AllAddresses, is_date, has, without, put_date, first_moment, date_at, AreDates, Redated}
use Rattle.nd_table.proofs.Keyed.{key_is, above_at, Rises-unique, others, at_key-others, Unique-others, length-others, put_in, put_low, put_high, place_of-le}
use Rattle.nd_table.proofs.Due.{at_is, AtMost, AtMost-some, AtMost-none, AtMost-now, AtMost-same, due_now, due_has, due_least, none_due, least_at_most, least_unique}

pub is_parts : (m k : ℕ) (d : Date) → is_date m k d ≡ true → (d.moment ≡ m) × (d.number ≡ k)
is_parts m k d h = (grind (arith, nat_tests, h), grind (arith, nat_tests, h))

by_parts : (m k : ℕ) (d : Date) → d.moment ≡ m → d.number ≡ k → is_date m k d ≡ true
by_parts m k d e f = grind (arith, nat_tests, e, f)

-- of addresses, equal numbers are equal dates
rank_parts : (d : Date) (m k : ℕ) → d.number < 2 ^ 128 → k < 2 ^ 128 → rank d ≡ m * 2 ^ 128 + k → is_date m k d ≡ true
rank_parts d m k fit fit' e = by_parts m k d (omega arith) (omega arith)

pub rank_is : (d : Date) (m k : ℕ) → is_date m k d ≡ true → rank d ≡ m * 2 ^ 128 + k
rank_is d m k h = let e = is_parts m k d h in omega (arith, e.0, e.1)

pub swap : (a b c : Bool) → (a || (b || c)) ≡ (b || (a || c))
swap true true c = refl
swap true false c = refl
swap false true c = refl
swap false false c = refl

pub has-put : (m k : ℕ) (d : Date) (ds : List Date) → has m k (put_in rank d ds) ≡ (is_date m k d || has m k ds)
has-put m k d [] = refl
has-put m k d (e ∷ ds) = elim (cases_Bool (ltb (rank e) (rank d))) [
  | inl low ↦ rw (put_low rank d e ds low) (ap (λ b. is_date m k e || b) (has-put m k d ds) ∙ swap (is_date m k e) (is_date m k d) (has m k ds))
  | inr high ↦ rw (put_high rank d e ds high) refl
]

pub none_behind : (m k r : ℕ) (ds : List Date) → r ≡ m * 2 ^ 128 + k → AllAbove rank r ds → has m k ds ≡ false
none_behind m k r [] e h = refl
none_behind m k r (d ∷ ds) e h = elim (cases_Bool (is_date m k d)) [
  | inl here ↦ absurd (omega (arith, h.0, rank_is d m k here, e))
  | inr differ ↦ rw differ (none_behind m k r ds e h.1)
]

pub has-without : (m k : ℕ) (ds : List Date) → Rises rank ds → has m k (without m k ds) ≡ false
has-without m k [] r = refl
has-without m k (d ∷ ds) r = elim (cases_Bool (is_date m k d)) [
  | inl here ↦ rw here (none_behind m k (rank d) ds (rank_is d m k here) r.0)
  | inr differ ↦ rw (differ, differ) (has-without m k ds r.1)
]

pub has-without_other : (m k m' k' : ℕ) (ds : List Date) → (m ≡ m' → k ≡ k' → ⊥) → has m' k' (without m k ds) ≡ has m' k' ds
has-without_other m k m' k' [] other = refl
has-without_other m k m' k' (d ∷ ds) other = elim (cases_Bool (is_date m k d)) [
  | inl here ↦
      let e = is_parts m k d here in
      elim (cases_Bool (is_date m' k' d)) [
        | inl too ↦ let f = is_parts m' k' d too in absurd (other (sym e.0 ∙ f.0) (sym e.1 ∙ f.1))
        | inr differ ↦ rw (here, differ) refl
      ]
  | inr differ ↦ rw differ (ap (λ b. is_date m' k' d || b) (has-without_other m k m' k' ds other))
]

pub length-without : (m k : ℕ) (ds : List Date) → length ds ≤ suc (length (without m k ds))
length-without m k [] = omega arith
length-without m k (d ∷ ds) = elim (cases_Bool (is_date m k d)) [
  | inl here ↦ rw here (omega arith)
  | inr differ ↦ let rest : length ds ≤ suc (length (without m k ds)) = length-without m k ds in rw differ (omega arith)
]

pub no_longer : (m k : ℕ) (ds : List Date) → length (without m k ds) ≤ length ds
no_longer m k [] = omega arith
no_longer m k (d ∷ ds) = elim (cases_Bool (is_date m k d)) [
  | inl here ↦ rw here (omega arith)
  | inr differ ↦ let rest : length (without m k ds) ≤ length ds = no_longer m k ds in rw differ (omega arith)
]

pub shorter : (m k : ℕ) (ds : List Date) → has m k ds ≡ true → suc (length (without m k ds)) ≤ length ds
shorter m k [] there = absurd (true≢false (sym there))
shorter m k (d ∷ ds) there = elim (cases_Bool (is_date m k d)) [
  | inl here ↦ rw here (omega arith)
  | inr differ ↦
      let behind : has m k ds ≡ true = rw differ at there in
      let rest : suc (length (without m k ds)) ≤ length ds = shorter m k ds behind in
      rw differ (omega arith)
]

pub length-put : (d : Date) (ds : List Date) → length (put_date d ds) ≡ length ds + 1
length-put d ds = length-insert ds (place_of rank (rank d) ds) d (place_of-le rank (rank d) ds)

-- a date that is changed leaves as many
pub length-changed : (m k : ℕ) (d : Date) (ds : List Date) → has m k ds ≡ true → length (put_date d (without m k ds)) ≡ length ds
length-changed m k d ds there = omega (arith, length-put d (without m k ds), shorter m k ds there, length-without m k ds)

AllAbove-without : (low m k : ℕ) (ds : List Date) → AllAbove rank low ds → AllAbove rank low (without m k ds)
AllAbove-without low m k [] h = tt
AllAbove-without low m k (d ∷ ds) h = elim (cases_Bool (is_date m k d)) [
  | inl here ↦ rw here h.1
  | inr differ ↦ rw differ (h.0, AllAbove-without low m k ds h.1)
]

pub Rises-without : (m k : ℕ) (ds : List Date) → Rises rank ds → Rises rank (without m k ds)
Rises-without m k [] r = tt
Rises-without m k (d ∷ ds) r = elim (cases_Bool (is_date m k d)) [
  | inl here ↦ rw here r.1
  | inr differ ↦ rw differ (AllAbove-without (rank d) m k ds r.0, Rises-without m k ds r.1)
]

pub AllAddresses-without : (m k : ℕ) (ds : List Date) → AllAddresses ds → AllAddresses (without m k ds)
AllAddresses-without m k [] h = tt
AllAddresses-without m k (d ∷ ds) h = elim (cases_Bool (is_date m k d)) [
  | inl here ↦ rw here h.1
  | inr differ ↦ rw differ (h.0, AllAddresses-without m k ds h.1)
]

pub AllAddresses-insert : (ds : List Date) (i : ℕ) (d : Date) → AllAddresses ds → d.number < 2 ^ 128 → AllAddresses (insert ds i d)
AllAddresses-insert [] zero d h fit = (fit, tt)
AllAddresses-insert [] (suc i) d h fit = (fit, tt)
AllAddresses-insert (e ∷ ds) zero d h fit = (fit, h)
AllAddresses-insert (e ∷ ds) (suc i) d h fit = (h.0, AllAddresses-insert ds i d h.1 fit)

-- the date that is found is the one that goes
pub remove_is : (m k : ℕ) (ds : List Date) (i : ℕ) (e : Date) → Rises rank ds → AllAddresses ds → k < 2 ^ 128 → i < length ds → rank (get_or ds i e) ≡ m * 2 ^ 128 + k → remove ds i ≡ without m k ds
remove_is m k [] i e r a fit lt is = absurd (omega arith)
remove_is m k (d ∷ ds) zero e r a fit lt is = rw (rank_parts d m k a.0 fit is) refl
remove_is m k (d ∷ ds) (suc i) e r a fit lt is =
    let above : rank d < rank (get_or ds i e) = above_at rank (rank d) ds i e r.0 (omega arith) in
    elim (cases_Bool (is_date m k d)) [
      | inl here ↦ absurd (omega (arith, above, is, rank_is d m k here))
      | inr differ ↦ rw differ (ap (λ (l : List Date). d ∷ l) (remove_is m k ds i e r.1 a.1 fit (omega arith) is))
    ]

pub remove_found : (d : Date) (ds : List Date) (i : ℕ) → Rises rank ds → AllAddresses ds → d.number < 2 ^ 128 → i < length ds → at_key rank (rank d) ds ≡ slice_get ds i → remove ds i ≡ without d.moment d.number ds
remove_found d ds i r a fit lt found =
    remove_is d.moment d.number ds i d r a fit lt (key_is rank (rank d) ds (get_or ds i d) (found ∙ slice_get-get_or ds i d lt))

pub without_none : (m k : ℕ) (ds : List Date) → at_key rank (m * 2 ^ 128 + k) ds ≡ None → without m k ds ≡ ds
without_none m k [] none = refl
without_none m k (d ∷ ds) none = elim (cases_Bool (is_date m k d)) [
  | inl here ↦ let e : Some d ≡ None = sym (cond-true (eqb (rank d) (m * 2 ^ 128 + k)) (Some d) (at_key rank (m * 2 ^ 128 + k) ds) (eq-eqb (rank d) (m * 2 ^ 128 + k) (rank_is d m k here))) ∙ none in absurd (cc)
  | inr differ ↦ elim (cases_Bool (eqb (rank d) (m * 2 ^ 128 + k))) [
    | inl here ↦ let e : Some d ≡ None = sym (cond-true (eqb (rank d) (m * 2 ^ 128 + k)) (Some d) (at_key rank (m * 2 ^ 128 + k) ds) here) ∙ none in absurd (cc)
    | inr behind ↦ rw differ (ap (λ (l : List Date). d ∷ l) (without_none m k ds (sym (cond-false (eqb (rank d) (m * 2 ^ 128 + k)) (Some d) (at_key rank (m * 2 ^ 128 + k) ds) behind) ∙ none)))
  ]
]

-- what is among the dates is found
pub some_found : (m k : ℕ) (ds : List Date) → has m k ds ≡ true → at_key rank (m * 2 ^ 128 + k) ds ≡ None → ⊥
some_found m k ds there none = let shorter_is = shorter m k ds there in let e = ap (length {A = Date}) (without_none m k ds none) in omega (arith, shorter_is, e)

-- and what isn't among them isn't found once one has gone
pub absent_without : (r m k : ℕ) (ds : List Date) → at_key rank r ds ≡ None → at_key rank r (without m k ds) ≡ None
absent_without r m k [] none = refl
absent_without r m k (d ∷ ds) none = elim (cases_Bool (eqb (rank d) r)) [
  | inl here ↦ let e : Some d ≡ None = sym (cond-true (eqb (rank d) r) (Some d) (at_key rank r ds) here) ∙ none in absurd (cc)
  | inr other ↦
      let rest : at_key rank r ds ≡ None = sym (cond-false (eqb (rank d) r) (Some d) (at_key rank r ds) other) ∙ none in
      elim (cases_Bool (is_date m k d)) [
        | inl gone ↦ rw gone rest
        | inr stays ↦ rw stays (cond-false (eqb (rank d) r) (Some d) (at_key rank r (without m k ds)) other ∙ absent_without r m k ds rest)
      ]
]

-- what isn't among the dates isn't found
pub none_found : (m k : ℕ) (ds : List Date) → AllAddresses ds → k < 2 ^ 128 → has m k ds ≡ false → at_key rank (m * 2 ^ 128 + k) ds ≡ None
none_found m k [] a fit none = refl
none_found m k (d ∷ ds) a fit none = elim (cases_Bool (eqb (rank d) (m * 2 ^ 128 + k))) [
  | inl here ↦ absurd (true≢false (sym (or_left (is_date m k d) (has m k ds) (rank_parts d m k a.0 fit (eqb-true (rank d) (m * 2 ^ 128 + k) here))) ∙ none))
  | inr behind ↦ elim (cases_Bool (is_date m k d)) [
    | inl here ↦ absurd (true≢false (sym (or_left (is_date m k d) (has m k ds) here) ∙ none))
    | inr differ ↦ cond-false (eqb (rank d) (m * 2 ^ 128 + k)) (Some d) (at_key rank (m * 2 ^ 128 + k) ds) behind ∙ none_found m k ds a.1 fit (rw differ at none)
  ]
]

-- a date behind others is of an address, and greater
behind : (m k r : ℕ) (ds : List Date) → AllAbove rank r ds → AllAddresses ds → has m k ds ≡ true → (r < m * 2 ^ 128 + k) × (k < 2 ^ 128)
behind m k r [] h a is = absurd (true≢false (sym is))
behind m k r (d ∷ ds) h a is = elim (or_cases (is_date m k d) (has m k ds) is) [
  | inl here ↦ let e = is_parts m k d here in let f = rank_is d m k here in let lt : r < rank d = h.0 in (omega (arith, lt, f), omega (arith, a.0, e.1))
  | inr rest ↦ behind m k r ds h.1 a.1 rest
]

-- none comes before the first
pub first_before : (d : Date) (ds : List Date) (m k : ℕ) → Rises rank (d ∷ ds) → AllAddresses (d ∷ ds) → has m k (d ∷ ds) ≡ true → (d.moment < m) ⊎ ((d.moment ≡ m) × (d.number ≤ k))
first_before d ds m k r a is = elim (or_cases (is_date m k d) (has m k ds) is) [
  | inl here ↦ let e = is_parts m k d here in inr (e.0, omega (arith, e.1))
  | inr rest ↦
      let b = behind m k (rank d) ds r.0 a.1 rest in
      let fit : d.number < 2 ^ 128 = a.0 in
      later (b.0) (b.1) fit
]
  where
    later : d.moment * 2 ^ 128 + d.number < m * 2 ^ 128 + k → k < 2 ^ 128 → d.number < 2 ^ 128 → (d.moment < m) ⊎ ((d.moment ≡ m) × (d.number ≤ k))
    later lt fit fit' = elim (cases_Bool (ltb d.moment m)) [
      | inl before ↦ inl (grind (arith, nat_tests, before))
      | inr not_before ↦ let le : m ≤ d.moment = grind (arith, nat_tests, not_before) in inr (omega arith, omega arith)
    ]

pub first_is_there : (d : Date) (ds : List Date) → has d.moment d.number (d ∷ ds) ≡ true
first_is_there d ds = or_left (is_date d.moment d.number d) (has d.moment d.number ds) (by_parts d.moment d.number d refl refl)

now_is : (m : ℕ) → is_at m (Some m) ≡ true
now_is m = eq-eqb m m refl

module _ {N : Type 0} (key : N → ℕ) (date : N → Option ℕ) where
  by_entry : (m : ℕ) (o : Option N) (b : Bool) → b ≡ is_at m (option_and_then date o) → b ≡ true → (n : N) × (o ≡ Some n) × (date n ≡ Some m)
  by_entry m None b e h = absurd (true≢false (sym h ∙ e))
  by_entry m (Some n) b e h = (n, refl, at_is m (date n) (sym e ∙ h))

  module _ (ds : List Date) (ns : List N) (are : AreDates key date ds ns) where
    -- each date that is kept is that of an entry
    pub entry_of : (m k : ℕ) → has m k ds ≡ true → (n : N) × (at_key key k ns ≡ Some n) × (date n ≡ Some m)
    entry_of m k h = by_entry m (at_key key k ns) (has m k ds) (are.each m k) h

    -- and the date of each entry is kept
    pub kept : (m k : ℕ) (n : N) → at_key key k ns ≡ Some n → date n ≡ Some m → has m k ds ≡ true
    kept m k n there at = are.each m k ∙ (ap (λ o. is_at m (option_and_then date o)) there ∙ (ap (is_at m) at ∙ now_is m))

  -- the first date is the least of the entries
  pub least_unique_is : (ds : List Date) (ns : List N) → Rises rank ds → AllAddresses ds → Unique key ns → AreDates key date ds ns → least_date date ns ≡ first_moment ds
  least_unique_is ds ns r a s are = by_least ds r a are (least_date date ns) refl
    where
      by_least : (ds : List Date) → Rises rank ds → AllAddresses ds → AreDates key date ds ns → (o : Option ℕ) → least_date date ns ≡ o → least_date date ns ≡ first_moment ds
      by_least [] r a are None is = is
      by_least [] r a are (Some n) is =
          let f = least_unique key date ns n s is in
          absurd (true≢false (sym (kept [] ns are n (key f.0) f.0 f.1 f.2)))
      by_least (d ∷ ds) r a are None is =
          let e = entry_of (d ∷ ds) ns are d.moment d.number (or_left (is_date d.moment d.number d) (has d.moment d.number ds) (by_parts d.moment d.number d refl refl)) in
          absurd (AtMost-none (least_date date ns) d.moment is (least_at_most key date d.number ns e.0 d.moment e.1 (AtMost-same (date e.0) d.moment e.2)))
      by_least (d ∷ ds) r a are (Some n) is =
          let e = entry_of (d ∷ ds) ns are d.moment d.number (or_left (is_date d.moment d.number d) (has d.moment d.number ds) (by_parts d.moment d.number d refl refl)) in
          let le : n ≤ d.moment = AtMost-some (least_date date ns) d.moment n is (least_at_most key date d.number ns e.0 d.moment e.1 (AtMost-same (date e.0) d.moment e.2)) in
          let f = least_unique key date ns n s is in
          let ge : d.moment ≤ n = not_after (first_before d ds n (key f.0) r a (kept (d ∷ ds) ns are n (key f.0) f.0 f.1 f.2)) in
          is ∙ ap Some (omega arith)
        where
          not_after : (d.moment < n) ⊎ ((d.moment ≡ n) × (d.number ≤ key (least_unique key date ns n s is).0)) → d.moment ≤ n
          not_after (inl lt) = omega arith
          not_after (inr e) = omega (arith, e.0)

  pub least_is : (ds : List Date) (ns : List N) → Rises rank ds → AllAddresses ds → Rises key ns → AreDates key date ds ns → least_date date ns ≡ first_moment ds
  least_is ds ns r a s are = least_unique_is ds ns r a (Rises-unique key ns s) are

  module _ (now : ℕ) (ns : List N) (s : Rises key ns) where
    -- where the first date is now, its entry is the first that is due
    pub first_here : (d : Date) (ds : List Date) → Rises rank (d ∷ ds) → AllAddresses (d ∷ ds) → AreDates key date (d ∷ ds) ns → d.moment ≡ now → first_at date now ns ≡ at_key key d.number ns
    first_here d ds r a are is_now = by_first (first_at date now ns) refl
      where
        head : has d.moment d.number (d ∷ ds) ≡ true
        head = or_left (is_date d.moment d.number d) (has d.moment d.number ds) (by_parts d.moment d.number d refl refl)

        not_lower : (k : ℕ) → (d.moment < now) ⊎ ((d.moment ≡ now) × (d.number ≤ k)) → d.number ≤ k
        not_lower k (inl lt) = absurd (omega arith)
        not_lower k (inr e) = e.1

        by_first : (o : Option N) → first_at date now ns ≡ o → first_at date now ns ≡ at_key key d.number ns
        by_first None none =
            let e = entry_of (d ∷ ds) ns are d.moment d.number head in
            absurd (none_due key date now d.number ns e.0 none e.1 (e.2 ∙ ap Some is_now))
        by_first (Some n) first =
            let e = entry_of (d ∷ ds) ns are d.moment d.number head in
            let there : at_key key (key n) ns ≡ Some n = due_has key date now ns n s first in
            let le : key n ≤ d.number = due_least key date now d.number ns n e.0 s first e.1 (e.2 ∙ ap Some is_now) in
            let ge : d.number ≤ key n = not_lower (key n) (first_before d ds now (key n) r a (kept (d ∷ ds) ns are now (key n) n there (due_now date now ns n first))) in
            let same : key n ≡ d.number = omega arith in
            first ∙ (sym there ∙ ap (λ k. at_key key k ns) same)

    -- where the least date is later, nothing is due
    pub none_here : (o : Option ℕ) → least_date date ns ≡ o → NotBefore now o → (o ≡ Some now → ⊥) → first_at date now ns ≡ None
    none_here o is h later = by_first (first_at date now ns) refl
      where
        by_first : (f : Option N) → first_at date now ns ≡ f → first_at date now ns ≡ None
        by_first None first = first
        by_first (Some n) first =
            let least : AtMost (least_date date ns) now = least_at_most key date (key n) ns n now (due_has key date now ns n s first) (AtMost-same (date n) now (due_now date now ns n first)) in
            absurd (AtMost-now now o h (subst (λ (l : Option ℕ). AtMost l now) is least) later)

  date_behind : (n : N) (ns : List N) (k : ℕ) → (key n ≡ k → ⊥) → date_at key date k (n ∷ ns) ≡ date_at key date k ns
  date_behind n ns k differ = ap (option_and_then date) (cond-false (eqb (key n) k) (Some n) (at_key key k ns) (ne_eqb (key n) k differ))

  date_head : (n : N) (ns : List N) → date_at key date (key n) (n ∷ ns) ≡ date n
  date_head n ns = ap (option_and_then date) (cond-true (eqb (key n) (key n)) (Some n) (at_key key (key n) ns) (eq-eqb (key n) (key n) refl))

  date_none : (n : N) (ns : List N) → at_key key (key n) ns ≡ None → date_at key date (key n) ns ≡ None
  date_none n ns h = ap (option_and_then date) h

  -- there are no more dates than entries
  pub no_more : (ns : List N) (ds : List Date) → Rises rank ds → Unique key ns → AreDates key date ds ns → length ds ≤ length ns
  no_more [] [] r s are = omega arith
  no_more [] (d ∷ ds) r s are = absurd (true≢false (sym (or_left (is_date d.moment d.number d) (has d.moment d.number ds) (by_parts d.moment d.number d refl refl)) ∙ are.each d.moment d.number))
  no_more (n ∷ ns) ds r s are = by_date (λ es q a. no_more ns es q s.1 a) (date n) refl
    where
      behind_none : date n ≡ None → AreDates key date ds ns
      behind_none e = record {
        each = λ m k. elim (cases_eq (key n) k) [
          | inl same ↦ subst (λ (j : ℕ). has m j ds ≡ is_at m (date_at key date j ns)) same
              (are.each m (key n) ∙ (ap (is_at m) (date_head n ns ∙ e) ∙ sym (ap (is_at m) (date_none n ns s.0))))
          | inr differ ↦ are.each m k ∙ ap (is_at m) (date_behind n ns k differ)
        ];
      }

      behind_some : (t : ℕ) → date n ≡ Some t → AreDates key date (without t (key n) ds) ns
      behind_some t e = record {
        each = λ m k. elim (cases_eq (key n) k) [
          | inl same ↦ subst (λ (j : ℕ). has m j (without t (key n) ds) ≡ is_at m (date_at key date j ns)) same
              (elim (cases_eq t m) [
                | inl now ↦ subst (λ (x : ℕ). has x (key n) (without t (key n) ds) ≡ false) now (has-without t (key n) ds r) ∙ sym (ap (is_at m) (date_none n ns s.0))
                | inr other ↦ has-without_other t (key n) m (key n) ds (λ x _. other x)
                    ∙ (are.each m (key n) ∙ (ap (is_at m) (date_head n ns ∙ e) ∙ (ne_eqb t m other ∙ sym (ap (is_at m) (date_none n ns s.0)))))
              ])
          | inr differ ↦ has-without_other t (key n) m k ds (λ _ x. differ x) ∙ (are.each m k ∙ ap (is_at m) (date_behind n ns k differ))
        ];
      }

      by_date : ((es : List Date) → Rises rank es → AreDates key date es ns → length es ≤ length ns) → (o : Option ℕ) → date n ≡ o → length ds ≤ length (n ∷ ns)
      by_date below None e = let rest : length ds ≤ length ns = below ds r (behind_none e) in omega arith
      by_date below (Some t) e =
          let rest : length (without t (key n) ds) ≤ length ns = below (without t (key n) ds) (Rises-without t (key n) ds r) (behind_some t e) in
          let most : length ds ≤ suc (length (without t (key n) ds)) = length-without t (key n) ds in
          omega arith

  -- and fewer where the date of one isn't among them
  pub fewer : (number : ℕ) (n : N) (ns : List N) (ds : List Date) → Rises rank ds → Unique key ns → ((moment : ℕ) → has moment number ds ≡ false)
      → ((moment k : ℕ) → (number ≡ k → ⊥) → has moment k ds ≡ is_at moment (date_at key date k ns)) → at_key key number ns ≡ Some n → suc (length ds) ≤ length ns
  fewer number n ns ds r s none stay there =
      let le : length ds ≤ length (others key number ns) = no_more (others key number ns) ds r (Unique-others key number ns s) (record { each = λ m k. goes m k }) in
      omega (arith, length-others key number n ns there)
    where
      goes : (m k : ℕ) → has m k ds ≡ is_at m (date_at key date k (others key number ns))
      goes m k = elim (cases_eq number k) [
        | inl same ↦ subst (λ (j : ℕ). has m j ds ≡ is_at m (date_at key date j (others key number ns))) same
            (none m ∙ sym (ap (λ o. is_at m (option_and_then date o)) (at_key-others key number number ns
            ∙ cond-true (eqb number number) None (at_key key number ns) (eq-eqb number number refl))))
        | inr differ ↦ stay m k differ ∙ sym (ap (λ o. is_at m (option_and_then date o)) (at_key-others key k number ns
            ∙ cond-false (eqb number k) None (at_key key k ns) (ne_eqb number k differ)))
      ]

  -- the dates are those of the entries still where no other entry's date has changed, and that of one number is the one that its entry has now
  pub redated : (number : ℕ) (is : Option ℕ) (ds ds' : List Date) (old new : List N) → AreDates key date ds old → Redated number is ds ds' → ((k : ℕ) → (number ≡ k → ⊥) → date_at key date k new ≡ date_at key date k old) → date_at key date number new ≡ is → AreDates key date ds' new
  redated number is ds ds' old new are change same now = record {
    each = λ m k. elim (cases_eq number k) [
      | inl here ↦ subst (λ (j : ℕ). has m j ds' ≡ is_at m (date_at key date j new)) here (change.own m ∙ sym (ap (is_at m) now))
      | inr differ ↦ change.others m k differ ∙ (are.each m k ∙ sym (ap (is_at m) (same k differ)))
    ];
  }

  -- the first entry of this moment is that of the first date, if it is of this moment
  pub first_found : (now : ℕ) (ds : List Date) (ns : List N) (number : ℕ) → Rises rank ds → AllAddresses ds → Rises key ns → AreDates key date ds ns → IfSome (slice_get ds 0) (λ d. (d.moment ≡ now) × (d.number ≡ number)) → first_moment ds ≡ Some now → first_at date now ns ≡ at_key key number ns
  first_found now [] ns number r a s are here first = absurd (cc)
  first_found now (d ∷ ds) ns number r a s are here first = first_here now ns s d ds r a are here.0 ∙ ap (λ k. at_key key k ns) here.1

  pub none_found_now : (now : ℕ) (ds : List Date) (ns : List N) → Rises rank ds → AllAddresses ds → Rises key ns → AreDates key date ds ns → NotBefore now (least_date date ns) → (first_moment ds ≡ Some now → ⊥) → first_at date now ns ≡ None
  none_found_now now ds ns r a s are h later =
      let is = least_is ds ns r a s are in
      none_here now ns s (least_date date ns) refl h (λ at. later (sym is ∙ at))

  -- where no date differs the dates stay
  pub same_dates : (ds : List Date) (old new : List N) → ((k : ℕ) → date_at key date k new ≡ date_at key date k old) → AreDates key date ds old → AreDates key date ds new
  same_dates ds old new same are = record { each = λ m k. are.each m k ∙ sym (ap (is_at m) (same k)) }
