-- The dates that are kept besides the addresses, where one of these changes.
use Rattle.std.proofs.Common.{◌≡◌, ℕ, ◌<◌, ◌≤◌, Bool, true, false, List, [], ◌∷◌, length, get_or, set, Option, Some, None, refl, sym, ◌∙◌, ap, subst, arith, suc}
use Rattle.std.specs.Prelude.{IfSome, IfNone}
use Rattle.std.specs.List.{remove}
use Rattle.nd_table.specs.Keyed.{Rises, at_key}
use Rattle.nd_table.specs.Date.{Date}
use Rattle.nd_table.specs.Due.{lesser}
use Rattle.nd_table.specs.DueKept.{least_date, is_at, NotBefore}
use Rattle.nd_table.specs.Dates.{Planned, rank, AllAddresses, has, first_moment, AreDates, Redated}
use Rattle.nd_table.proofs.Keyed.{key_is, at_place, put_in, Rises-put, Rises-unique}
use Rattle.nd_table.proofs.Due.{least_both, NotBefore-left, NotBefore-right}
use Rattle.nd_table.proofs.Dates.{least_is, no_more, fewer}
use Rattle.nd_table.proofs.Stays.{set_rises, set_dates, own_date, remove_rises, gone_dates, kept_dates, came_dates}
use Rattle.nd_slaac.specs.AddressKept.{Address}
use Rattle.nd_slaac.specs.TableKept.{key_of, address_in}
use Rattle.nd_slaac.specs.Dates.{end_date, next_step, next_in, NoneBefore}
use Rattle.nd_slaac.specs.Calls.{failed, Alters}
use Rattle.nd_slaac.specs.Planned.{IsPlanned}

-- the first of the dates of either kind is the next
pub next_planned : (xs : List Address) (ends steps : Planned) → IsPlanned xs ends steps → Rises rank ends.dates → AllAddresses ends.dates → Rises rank steps.dates → AllAddresses steps.dates → lesser (first_moment ends.dates) (first_moment steps.dates) ≡ next_in xs
next_planned xs ends steps p r a s b =
    sym (least_both end_date next_step xs
    ∙ (ap (λ o. lesser o (least_date next_step xs)) (least_is key_of end_date ends.dates xs r a p.order p.end_dates)
    ∙ ap (lesser (first_moment ends.dates)) (least_is key_of next_step steps.dates xs s b p.order p.step_dates)))

module _ (key : ℕ) (old new : List Address) (r : Rises key_of old) where
  module _ (change : Address → Address) (keeps : (a : Address) → (change a).key ≡ a.key) (alters : Alters key change old new) where
    altered_key : alters.address.key ≡ key
    altered_key = key_is key_of key old alters.address alters.found

    altered_rises : Rises key_of new
    altered_rises = set_rises key_of key old new alters.at alters.address r alters.within alters.is altered_key (change alters.address) (keeps alters.address ∙ altered_key) alters.new_is

    altered_dates : (date : Address → Option ℕ) (ds : List Date) → ((a : Address) → date (change a) ≡ date a) → AreDates key_of date ds old → AreDates key_of date ds new
    altered_dates date ds same are = kept_dates key_of key old new alters.at alters.address (change alters.address) date ds r alters.within alters.is altered_key (keeps alters.address ∙ altered_key) (same alters.address) alters.new_is are

  pub failed_rises : (b : Bool) → (b ≡ true → Alters key failed old new) → (b ≡ false → new ≡ old) → Rises key_of new
  failed_rises true alters same = altered_rises failed (λ a. refl) (alters refl)
  failed_rises false alters same = subst (Rises key_of) (sym (same refl)) r

  -- a duplicate keeps its end
  pub failed_ends_stay : (b : Bool) → (b ≡ true → Alters key failed old new) → (b ≡ false → new ≡ old) → (ds : List Date) → AreDates key_of end_date ds old → AreDates key_of end_date ds new
  failed_ends_stay true alters same ds are = altered_dates failed (λ a. refl) (alters refl) end_date ds (λ a. refl) are
  failed_ends_stay false alters same ds are = subst (AreDates key_of end_date ds) (sym (same refl)) are

-- the least date of each kind isn't before the moment where the least of all isn't
pub none_of_ends : (now : ℕ) (xs : List Address) → NoneBefore xs now → NotBefore now (least_date end_date xs)
none_of_ends now xs h = NotBefore-left now (least_date end_date xs) (least_date next_step xs) (subst (NotBefore now) (least_both end_date next_step xs) h)

pub none_of_steps : (now : ℕ) (xs : List Address) → NoneBefore xs now → NotBefore now (least_date next_step xs)
none_of_steps now xs h = NotBefore-right now (least_date end_date xs) (least_date next_step xs) (subst (NotBefore now) (least_both end_date next_step xs) h)

-- the address at a place changes or goes, and its dates with it
module _ (key i : ℕ) (old new : List Address) (a : Address) (ends steps : Planned) (p : IsPlanned old ends steps) (lt : i < length old) (is : a ≡ get_or old i a) (a_key : a.key ≡ key) where
  pub had_end : (was : Option ℕ) → was ≡ end_date a → (moment : ℕ) → has moment key ends.dates ≡ is_at moment was
  had_end was was_is moment = own_date key_of key old old i a p.order lt is a_key end_date ends.dates ends.dates p.end_dates moment ∙ sym (ap (is_at moment) was_is)

  pub had_step : (was : Option ℕ) → was ≡ next_step a → (moment : ℕ) → has moment key steps.dates ≡ is_at moment was
  had_step was was_is moment = own_date key_of key old old i a p.order lt is a_key next_step steps.dates steps.dates p.step_dates moment ∙ sym (ap (is_at moment) was_is)

  pub gone_planned : (ends' steps' : Planned) → new ≡ remove old i → Redated key None ends.dates ends'.dates → Redated key None steps.dates steps'.dates → IsPlanned new ends' steps'
  gone_planned ends' steps' new_is ended stepped' = record {
    order = remove_rises key_of key old new i a p.order lt is a_key new_is;
    end_dates = gone_dates key_of key old new i a p.order lt is a_key end_date ends.dates ends'.dates p.end_dates new_is ended;
    step_dates = gone_dates key_of key old new i a p.order lt is a_key next_step steps.dates steps'.dates p.step_dates new_is stepped';
  }

  module _ (m : Address) (m_key : m.key ≡ a.key) (new_is : new ≡ set old i m) where
    -- its step changes, and its end stays
    pub stepped_planned : (steps' : Planned) (date : Option ℕ) → end_date m ≡ end_date a → date ≡ next_step m → Redated key date steps.dates steps'.dates → IsPlanned new ends steps'
    stepped_planned steps' date stays date_is redated = record {
      order = set_rises key_of key old new i a p.order lt is a_key m (m_key ∙ a_key) new_is;
      end_dates = kept_dates key_of key old new i a m end_date ends.dates p.order lt is a_key (m_key ∙ a_key) stays new_is p.end_dates;
      step_dates = set_dates key_of key old new i a p.order lt is a_key next_step steps.dates steps'.dates p.step_dates m (m_key ∙ a_key) new_is
          (subst (λ (o : Option ℕ). Redated key o steps.dates steps'.dates) date_is redated);
    }

    -- its end changes, and its step stays
    pub ended_planned : (ends' : Planned) (date : Option ℕ) → next_step m ≡ next_step a → date ≡ end_date m → Redated key date ends.dates ends'.dates → IsPlanned new ends' steps
    ended_planned ends' date stays date_is redated = record {
      order = set_rises key_of key old new i a p.order lt is a_key m (m_key ∙ a_key) new_is;
      end_dates = set_dates key_of key old new i a p.order lt is a_key end_date ends.dates ends'.dates p.end_dates m (m_key ∙ a_key) new_is
          (subst (λ (o : Option ℕ). Redated key o ends.dates ends'.dates) date_is redated);
      step_dates = kept_dates key_of key old new i a m next_step steps.dates p.order lt is a_key (m_key ∙ a_key) stays new_is p.step_dates;
    }

  -- there is room for an end where it had none
  pub room_for_end : (was date : Option ℕ) → was ≡ end_date a → length old ≤ ends.room → IfNone was (IfSome date (λ _. Rises rank ends.dates → length ends.dates < ends.room))
  room_for_end (Some t) date was_is few = tt
  room_for_end None None was_is few = tt
  room_for_end None (Some t) was_is few = λ r.
      let there : at_key key_of key old ≡ Some a = ap (λ k. at_key key_of k old) (sym a_key) ∙ at_place key_of old i a p.order lt is in
      let less : suc (length ends.dates) ≤ length old = fewer key_of end_date key a old ends.dates r (Rises-unique key_of old p.order) (had_end None was_is) (λ m k differ. p.end_dates.each m k) there in
      omega arith

-- an address comes in, and its dates with it
module _ (old new : List Address) (a : Address) (ends steps : Planned) (p : IsPlanned old ends steps) where
  pub room_for_new_end : (date : Option ℕ) → length old < ends.room → IfSome date (λ _. Rises rank ends.dates → length ends.dates < ends.room)
  room_for_new_end None few = tt
  room_for_new_end (Some t) few = λ r.
      let less : length ends.dates ≤ length old = no_more key_of end_date old ends.dates r (Rises-unique key_of old p.order) p.end_dates in
      omega arith

  pub room_for_new_step : (date : Option ℕ) → length old < steps.room → IfSome date (λ _. Rises rank steps.dates → length steps.dates < steps.room)
  room_for_new_step None few = tt
  room_for_new_step (Some t) few = λ r.
      let less : length steps.dates ≤ length old = no_more key_of next_step old steps.dates r (Rises-unique key_of old p.order) p.step_dates in
      omega arith

  pub came_planned : (key : ℕ) (ends' steps' : Planned) (end step : Option ℕ) → address_in a.key old ≡ None → a.key ≡ key → new ≡ put_in key_of a old → end ≡ end_date a → step ≡ next_step a
      → Redated key end ends.dates ends'.dates → Redated key step steps.dates steps'.dates → IsPlanned new ends' steps'
  came_planned key ends' steps' end step absent a_key new_is end_is step_is ended stepped' = record {
    order = subst (Rises key_of) (sym new_is) (Rises-put key_of a old p.order absent);
    end_dates = came_dates key_of key old new a end_date ends.dates ends'.dates a_key new_is p.end_dates (subst (λ (o : Option ℕ). Redated key o ends.dates ends'.dates) end_is ended);
    step_dates = came_dates key_of key old new a next_step steps.dates steps'.dates a_key new_is p.step_dates (subst (λ (o : Option ℕ). Redated key o steps.dates steps'.dates) step_is stepped');
  }

-- the first address comes in, which has no end, where there were none and no dates
pub first_planned : (key : ℕ) (new : List Address) (a : Address) (ends steps steps' : Planned) (step : Option ℕ) → ends.dates ≡ [] → steps.dates ≡ [] → a.key ≡ key → new ≡ a ∷ [] → end_date a ≡ None → step ≡ next_step a
    → Redated key step steps.dates steps'.dates → IsPlanned new ends steps'
first_planned key new a ends steps steps' step no_ends no_steps a_key new_is endless step_is stepped' =
    came_planned [] new a none none empty key ends steps' None step refl a_key new_is (sym endless) step_is
    (subst (λ (ds : List Date). Redated key None [] ds) (sym no_ends) (record { own = λ moment. refl; others = λ moment k differ. refl }))
    (subst (λ (ds : List Date). Redated key step ds steps'.dates) no_steps stepped')
  where
    none : Planned
    none = record { dates = []; room = 0 }

    empty : IsPlanned [] none none
    empty = record { order = tt; end_dates = record { each = λ moment k. refl }; step_dates = record { each = λ moment k. refl } }
