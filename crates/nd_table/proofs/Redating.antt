-- What becomes of the dates where that of one number comes, goes or changes.
use Rattle.std.proofs.Common.{◌≡◌, ℕ, ◌^◌, ◌<◌, Bool, true, false, eqb, ◌&&◌, ◌||◌, List, length, Option, Some, None, refl, sym, ◌∙◌, ap, subst, inl, inr}
use Rattle.std.specs.Prelude.{IfNone, IfSome}
use Rattle.std.proofs.lemmas.Bool.{eq-eqb, ne_eqb, cases_Bool, cases_eq}
use Rattle.nd_table.specs.Date.{Date}
use Rattle.nd_table.specs.Keyed.{at_key, Rises}
use Rattle.nd_table.specs.KeyedKept.{place_of}
use Rattle.nd_table.specs.DueKept.{is_at}
use Rattle.nd_table.specs.Dates.{rank, AllAddresses, is_date, has, without, put_date, Redated}
use Rattle.nd_table.proofs.Keyed.{Rises-put}
use Rattle.nd_table.proofs.Dates.{is_parts, has-put, has-without, has-without_other, Rises-without, AllAddresses-without, AllAddresses-insert, length-changed, none_found}

-- one number's date comes or goes
pub date_taken : (number t : ℕ) (ds : List Date) → Rises rank ds → ((moment : ℕ) → has moment number ds ≡ is_at moment (Some t)) → Redated number None ds (without t number ds)
date_taken number t ds r own = record {
  own = λ m. elim (cases_eq t m) [
    | inl now ↦ subst (λ (x : ℕ). has x number (without t number ds) ≡ false) now (has-without t number ds r)
    | inr other ↦ has-without_other t number m number ds (λ x _. other x) ∙ (own m ∙ ne_eqb t m other)
  ];
  others = λ m k differ. has-without_other t number m k ds (λ _ x. differ x);
}

pub date_put : (d : Date) (ds : List Date) → ((moment : ℕ) → has moment d.number ds ≡ false) → Redated d.number (Some d.moment) ds (put_date d ds)
date_put d ds none = record {
  own = λ m. has-put m d.number d ds ∙ (ap (λ b. is_date m d.number d || b) (none m) ∙ alike m (eq-eqb d.number d.number refl));
  others = λ m k differ. has-put m k d ds ∙ ap (λ b. b || has m k ds) (no_part m k differ);
}
  where
    no_part : (m k : ℕ) → (d.number ≡ k → ⊥) → is_date m k d ≡ false
    no_part m k differ = elim (cases_Bool (is_date m k d)) [
      | inl here ↦ absurd (differ (is_parts m k d here).1)
      | inr other ↦ other
    ]

    both : (b : Bool) → ((b && true) || false) ≡ b
    both true = refl
    both false = refl

    alike : (m : ℕ) → eqb d.number d.number ≡ true → (is_date m d.number d || false) ≡ eqb d.moment m
    alike m e = rw e (both (eqb d.moment m))

pub date_moved : (number : ℕ) (date : Option ℕ) (ds mid new : List Date) → Redated number None ds mid → Redated number date mid new → Redated number date ds new
date_moved number date ds mid new gone come = record { own = come.own; others = λ m k differ. come.others m k differ ∙ gone.others m k differ }

-- what a schedule says, seen by its fields, of the date of a number
pub own_inside : (inside ds : List Date) (was : Option ℕ) (k number : ℕ) → inside ≡ ds → k ≡ number → ((moment : ℕ) → has moment number ds ≡ is_at moment was) → (moment : ℕ) → has moment k inside ≡ is_at moment was
own_inside inside ds was k number e f own moment = ap (λ (l : List Date). has moment k l) e ∙ (ap (λ (j : ℕ). has moment j ds) f ∙ own moment)

pub redated_inside : (inside ds new : List Date) (date date' : Option ℕ) (k number : ℕ) → inside ≡ ds → k ≡ number → date ≡ date' → Redated k date inside new → Redated number date' ds new
redated_inside inside ds new date date' k number e f d change = subst (λ (l : List Date). Redated number date' l new) e (subst (λ (j : ℕ). Redated j date' inside new) f (subst (λ (o : Option ℕ). Redated k o inside new) d change))

-- the dates of a schedule, seen by its fields, of which one number has this one
module _ (inside ds : List Date) (number : ℕ) (was date : Option ℕ) (e : inside ≡ ds) (own : (moment : ℕ) → has moment number ds ≡ is_at moment was) (r : Rises rank inside) (a : AllAddresses inside) where
  own_of : (d : Date) → d.number ≡ number → (moment : ℕ) → has moment d.number inside ≡ is_at moment was
  own_of d is moment = own_inside inside ds was d.number number e is own moment

  module _ (d : Date) (m : ℕ) (is : d.number ≡ number) (fit : d.number < 2 ^ 128) (new : List Date) where
    -- one comes
    pub put_absent : was ≡ None → at_key rank (rank d) inside ≡ None
    put_absent none = none_found d.moment d.number inside a fit (own_of d is d.moment ∙ ap (is_at d.moment) none)

    pub put_rises : was ≡ None → new ≡ put_date d inside → Rises rank new
    put_rises none new_is = subst (Rises rank) (sym new_is) (Rises-put rank d inside r (put_absent none))

    pub put_redated : was ≡ None → date ≡ Some m → d.moment ≡ m → new ≡ put_date d inside → Redated number date ds new
    put_redated none some moment_is new_is =
        redated_inside inside ds new (Some d.moment) date d.number number e is (ap Some moment_is ∙ sym some)
        (subst (λ (l : List Date). Redated d.number (Some d.moment) inside l) (sym new_is) (date_put d inside (λ moment. own_of d is moment ∙ ap (is_at moment) none)))

    -- one goes
    pub has_it : was ≡ Some m → d.moment ≡ m → (moment : ℕ) → has moment d.number inside ≡ is_at moment (Some d.moment)
    has_it some moment_is moment = own_of d is moment ∙ ap (is_at moment) (some ∙ ap Some (sym moment_is))

    pub take_redated : was ≡ Some m → date ≡ None → d.moment ≡ m → new ≡ without d.moment d.number inside → Redated number date ds new
    take_redated some none moment_is new_is =
        redated_inside inside ds new None date d.number number e is (sym none)
        (subst (λ (l : List Date). Redated d.number None inside l) (sym new_is) (date_taken d.number d.moment inside r (has_it some moment_is)))

  -- one goes, and another comes
  module _ (old new : Date) (n m : ℕ) (old_is : old.number ≡ number) (new_is : new.number ≡ number) (old_fit : old.number < 2 ^ 128) (new_fit : new.number < 2 ^ 128) (was_is : was ≡ Some n) (date_is : date ≡ Some m) (old_moment : old.moment ≡ n) (new_moment : new.moment ≡ m) where
    abbrev mid : List Date
    mid = without old.moment old.number inside

    gone : Redated old.number None inside mid
    gone = date_taken old.number old.moment inside r (has_it old n old_is old_fit inside was_is old_moment)

    none_left : (moment : ℕ) → has moment new.number mid ≡ false
    none_left moment = ap (λ k. has moment k mid) (new_is ∙ sym old_is) ∙ gone.own moment

    pub moved_there : has old.moment old.number inside ≡ true
    moved_there = has_it old n old_is old_fit inside was_is old_moment old.moment ∙ eq-eqb old.moment old.moment refl

    pub moved_absent : (n ≡ m → ⊥) → at_key rank (rank new) inside ≡ None
    moved_absent differ = none_found new.moment new.number inside a new_fit (own_of new new_is new.moment ∙ (ap (is_at new.moment) was_is ∙ ne_eqb n new.moment (λ same. differ (same ∙ new_moment))))

    mid_addresses : AllAddresses mid
    mid_addresses = AllAddresses-without old.moment old.number inside a

    module _ (items : List Date) (is : items ≡ put_date new mid) where
      pub moved_rises : Rises rank items
      moved_rises = subst (Rises rank) (sym is) (Rises-put rank new mid (Rises-without old.moment old.number inside r) (none_found new.moment new.number mid mid_addresses new_fit (none_left new.moment)))

      pub moved_addresses : AllAddresses items
      moved_addresses = subst AllAddresses (sym is) (AllAddresses-insert mid (place_of rank (rank new) mid) new mid_addresses new_fit)

      pub moved_length : length items ≡ length inside
      moved_length = ap (length {A = Date}) is ∙ length-changed old.moment old.number new inside moved_there

      pub moved_redated : Redated number date ds items
      moved_redated =
          date_moved number date ds mid items
          (redated_inside inside ds mid None None old.number number e old_is refl gone)
          (redated_inside mid mid items (Some new.moment) date new.number number refl new_is (ap Some new_moment ∙ sym date_is)
          (subst (λ (l : List Date). Redated new.number (Some new.moment) mid l) (sym is) (date_put new mid none_left)))

-- all dates are of addresses still
pub put_addresses : (d : Date) (ds new : List Date) → d.number < 2 ^ 128 → AllAddresses ds → new ≡ put_date d ds → AllAddresses new
put_addresses d ds new fit a is = subst AllAddresses (sym is) (AllAddresses-insert ds (place_of rank (rank d) ds) d a fit)

pub taken_addresses : (m k : ℕ) (ds new : List Date) → AllAddresses ds → new ≡ without m k ds → AllAddresses new
taken_addresses m k ds new a is = subst AllAddresses (sym is) (AllAddresses-without m k ds a)

-- there is room for a date that comes
pub has_room : (was date : Option ℕ) (m : ℕ) (P : Type 0) → was ≡ None → date ≡ Some m → IfNone was (IfSome date (λ _. P)) → P
has_room None (Some x) m P none some h = h
has_room None None m P none some h = absurd (cc)
has_room (Some x) date m P none some h = absurd (cc)
