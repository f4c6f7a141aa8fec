-- Where one entry of a list in the order of its numbers changes, comes or goes, all others stay, and so do their dates.
use Rattle.std.proofs.Common.{◌≡◌, ℕ, ◌<◌, cond, eqb, List, length, get_or, set, Option, Some, None, sym, ◌∙◌, ap, subst, inl, inr}
use Rattle.std.specs.Prelude.{option_and_then}
use Rattle.std.specs.List.{remove}
use Rattle.std.proofs.lemmas.Bool.{cond-true, cond-false, ne_eqb, eq-eqb, cases_eq}
use Rattle.nd_table.specs.Date.{Date}
use Rattle.nd_table.specs.Keyed.{at_key, Rises}
use Rattle.nd_table.specs.DueKept.{is_at}
use Rattle.nd_table.specs.Dates.{has, date_at, AreDates, Redated}
use Rattle.nd_table.proofs.Keyed.{at_place, put_in, at_key-set, Rises-set, at_key-put, at_key-remove, Rises-remove}
use Rattle.nd_table.proofs.Dates.{redated, same_dates}

module _ {N : Type 0} (key : N → ℕ) where
  abbrev pub OthersStay : ℕ → List N → List N → Type 0
  OthersStay k old new = (j : ℕ) → (k ≡ j → ⊥) → at_key key j new ≡ at_key key j old

  module _ (k : ℕ) (old new : List N) (i : ℕ) (n : N) (r : Rises key old) (lt : i < length old) (is : n ≡ get_or old i n) (n_key : key n ≡ k) where
    here : key (get_or old i n) ≡ k
    here = ap key (sym is) ∙ n_key

    pub set_others : (m : N) → key m ≡ k → new ≡ set old i m → OthersStay k old new
    set_others m m_key new_is j differ =
        ap (at_key key j) new_is ∙ (at_key-set key j old i m n r lt (here ∙ sym m_key)
        ∙ cond-false (eqb (key m) j) (Some m) (at_key key j old) (ne_eqb (key m) j (λ e. differ (sym m_key ∙ e))))

    pub set_rises : (m : N) → key m ≡ k → new ≡ set old i m → Rises key new
    set_rises m m_key new_is = subst (Rises key) (sym new_is) (Rises-set key old i m n r (here ∙ sym m_key))

    look : (j : ℕ) → new ≡ remove old i → at_key key j new ≡ cond (eqb (key (get_or old i n)) j) None (at_key key j old)
    look j new_is = ap (at_key key j) new_is ∙ at_key-remove key j old i n r lt

    pub remove_others : new ≡ remove old i → OthersStay k old new
    remove_others new_is j differ = look j new_is ∙ cond-false (eqb (key (get_or old i n)) j) None (at_key key j old) (ne_eqb (key (get_or old i n)) j (λ e. differ (sym here ∙ e)))

    pub remove_rises : new ≡ remove old i → Rises key new
    remove_rises new_is = subst (Rises key) (sym new_is) (Rises-remove key old i r)

    pub removed : new ≡ remove old i → at_key key k new ≡ None
    removed new_is = look k new_is ∙ cond-true (eqb (key (get_or old i n)) k) None (at_key key k old) (eq-eqb (key (get_or old i n)) k here)

    there : at_key key k old ≡ Some n
    there = ap (λ j. at_key key j old) (sym n_key) ∙ at_place key old i n r lt is

    module _ (date : N → Option ℕ) (ds ds' : List Date) (are : AreDates key date ds old) where
      -- the dates have that of the entry at the place
      pub own_date : (moment : ℕ) → has moment k ds ≡ is_at moment (date n)
      own_date moment = are.each moment k ∙ ap (λ (o : Option N). is_at moment (option_and_then date o)) there

      -- the dates are those of the entries after the entry has changed, and its date with it
      pub set_dates : (m : N) → key m ≡ k → new ≡ set old i m → Redated k (date m) ds ds' → AreDates key date ds' new
      set_dates m m_key new_is change = redated key date k (date m) ds ds' old new are change
          (λ j differ. ap (option_and_then date) (set_others m m_key new_is j differ))
          (ap (option_and_then date) (ap (at_key key k) new_is ∙ (at_key-set key k old i m n r lt (here ∙ sym m_key) ∙ cond-true (eqb (key m) k) (Some m) (at_key key k old) (eq-eqb (key m) k m_key))))

      -- and after it has gone
      pub gone_dates : new ≡ remove old i → Redated k None ds ds' → AreDates key date ds' new
      gone_dates new_is change = redated key date k None ds ds' old new are change
          (λ j differ. ap (option_and_then date) (remove_others new_is j differ)) (ap (option_and_then date) (removed new_is))

  pub put_others : (k : ℕ) (old new : List N) (m : N) → key m ≡ k → new ≡ put_in key m old → OthersStay k old new
  put_others k old new m m_key new_is j differ =
      ap (at_key key j) new_is ∙ (at_key-put key j m old ∙ cond-false (eqb (key m) j) (Some m) (at_key key j old) (ne_eqb (key m) j (λ e. differ (sym m_key ∙ e))))

  -- no date is there of an entry that isn't
  pub no_date : (k : ℕ) (old : List N) (date : N → Option ℕ) (ds : List Date) → at_key key k old ≡ None → AreDates key date ds old → (moment : ℕ) → has moment k ds ≡ is_at moment None
  no_date k old date ds absent are moment = are.each moment k ∙ ap (λ (o : Option N). is_at moment (option_and_then date o)) absent

  -- the dates are those of the entries after one has come, and its date with it
  pub came_dates : (k : ℕ) (old new : List N) (m : N) (date : N → Option ℕ) (ds ds' : List Date) → key m ≡ k → new ≡ put_in key m old → AreDates key date ds old → Redated k (date m) ds ds' → AreDates key date ds' new
  came_dates k old new m date ds ds' m_key new_is are change = redated key date k (date m) ds ds' old new are change
      (λ j differ. ap (option_and_then date) (put_others k old new m m_key new_is j differ))
      (ap (option_and_then date) (ap (at_key key k) new_is ∙ (at_key-put key k m old ∙ cond-true (eqb (key m) k) (Some m) (at_key key k old) (eq-eqb (key m) k m_key))))

  -- where an entry that changes keeps its date, the dates stay
  pub kept_dates : (k : ℕ) (old new : List N) (i : ℕ) (n m : N) (date : N → Option ℕ) (ds : List Date) → Rises key old → i < length old → n ≡ get_or old i n → key n ≡ k → key m ≡ k → date m ≡ date n → new ≡ set old i m → AreDates key date ds old → AreDates key date ds new
  kept_dates k old new i n m date ds r lt is n_key m_key m_date new_is are = same_dates key date ds old new same are
    where
      there : at_key key k old ≡ Some n
      there = ap (λ j. at_key key j old) (sym n_key) ∙ at_place key old i n r lt is

      there_then : at_key key k new ≡ Some m
      there_then = ap (at_key key k) new_is ∙ (at_key-set key k old i m n r lt (ap key (sym is) ∙ (n_key ∙ sym m_key)) ∙ cond-true (eqb (key m) k) (Some m) (at_key key k old) (eq-eqb (key m) k m_key))

      same : (j : ℕ) → date_at key date j new ≡ date_at key date j old
      same j = elim (cases_eq k j) [
        | inl here' ↦ subst (λ (x : ℕ). date_at key date x new ≡ date_at key date x old) here'
            (ap (option_and_then date) there_then ∙ (m_date ∙ sym (ap (option_and_then date) there)))
        | inr differ ↦ ap (option_and_then date) (set_others k old new i n r lt is n_key m m_key new_is j differ)
      ]
