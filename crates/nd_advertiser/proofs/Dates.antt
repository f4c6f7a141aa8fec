-- What happens makes no advertisement due in the past, and none in the moment of the last one.
use Rattle.std.proofs.Common.{◌≡◌, ◌∙◌, ℕ, ◌+◌, ◌<◌, ◌≤◌, Bool, true, false, List, [], ◌∷◌, Option, Some, None, refl, sym, ap, subst, arith}
use Rattle.std.specs.Prelude.{is_some, min, if◌then◌else◌}
use Rattle.std.proofs.lemmas.Bool.Decides.{nat_tests}
use Rattle.nd_table.specs.DueKept.{NotBefore}
use Rattle.nd_advertiser.specs.History.{Row, Advertises, Assigned, Solicited, Sent, Ceased, Offered}
use Rattle.nd_advertiser.specs.Advertising.{advertised_by, is_on, began_of, assigned_of, sent_of, last_of, planned_of, answer_of, answer_date, first_date, interval_after, next_date, next_of, settings_of, tells_its_end, max_initial_rtr_advertisements}
use Rattle.nd_advertiser.specs.Config.{Settings}
use Rattle.nd_advertiser.specs.Calls.{next}
use Rattle.nd_advertiser.specs.Table.{Advertising, Table, Stands, advertising_of}
use Rattle.nd_advertiser.specs.Overdue.{IsOf, IsAfter, IsSpaced}

-- the date by its parts
abbrev date_by : Bool → Option ℕ → Option ℕ → Option ℕ → Option ℕ
date_by on first planned answer = if on then next_date first planned answer else None

-- the date by what is kept is that by what happened
pub next_is : (table : Table) (history : List Row) → Stands table history → next table.assigned table.last table.advertising ≡ next_of history
next_is table history s =
    ap (λ (a : Option Advertising). next table.assigned table.last a) s.advertising
    ∙ (ap (λ (l : Option ℕ). next table.assigned l (advertising_of history)) s.last
    ∙ (ap (λ (a : Option ℕ). next a (last_of history) (advertising_of history)) s.assigned ∙ by (is_on history)))
  where
    by : (on : Bool) → next (assigned_of history) (last_of history) (if on then Some (record {
      began = began_of history;
      settings = settings_of history;
      sent = min max_initial_rtr_advertisements (sent_of history);
      planned = planned_of history;
      answer = answer_of history;
    }) else None) ≡ date_by on (first_date (began_of history) (assigned_of history) (last_of history)) (planned_of history) (answer_of history)
    by true = refl
    by false = refl

-- ---- not in the past

module _ (now : ℕ) where
  began_now : (assigned last : Option ℕ) → NotBefore now (first_date (Some now) assigned last)
  began_now None last = tt
  began_now (Some a) last = omega arith

  assigned_now : (began last : Option ℕ) → NotBefore now (first_date began (Some now) last)
  assigned_now None last = tt
  assigned_now (Some b) last = omega arith

  answered_later : (last : Option ℕ) (delay : ℕ) → NotBefore now (Some (answer_date last now delay))
  answered_later None delay = omega arith
  answered_later (Some l) delay = grind (arith, nat_tests)

  advertises : (on : Bool) (began assigned last planned answer : Option ℕ) → NotBefore now (date_by on (first_date began assigned last) planned answer)
      → NotBefore now (next_date (first_date (if on then began else Some now) assigned last) (if on then planned else None) (if on then answer else None))
  advertises true began assigned last planned answer h = h
  advertises false began assigned last planned answer h = began_now assigned last

  assigned : (on : Bool) (began was last planned answer : Option ℕ) → NotBefore now (date_by on (first_date began was last) planned answer)
      → NotBefore now (date_by on (first_date began (Some now) last) planned answer)
  assigned false began was last planned answer h = tt
  assigned true began was last None answer h = assigned_now began last
  assigned true began was last (Some p) answer h = h

  both_later : (p a : ℕ) → now ≤ p → now ≤ a → NotBefore now (next_date None (Some p) (Some a))
  both_later p a h k = omega (arith, h, k)

  solicited : (on : Bool) (first planned answer last : Option ℕ) (delay : ℕ) → NotBefore now (date_by on first planned answer)
      → NotBefore now (date_by on first planned (if is_some answer then answer else Some (answer_date last now delay)))
  solicited false first planned answer last delay h = tt
  solicited true first None answer last delay h = h
  solicited true first (Some p) (Some a) last delay h = h
  solicited true first (Some p) None last delay h = both_later p (answer_date last now delay) h (answered_later last delay)

  sent : (on : Bool) (first : Option ℕ) (interval : ℕ) → NotBefore now (date_by on first (Some (now + interval)) None)
  sent false first interval = tt
  sent true first interval = omega arith

  pub still : (history : List Row) (row : Row) → IsOf now row → NotBefore now (next_of history) → NotBefore now (next_of (row ∷ history))
  still history (Advertises at settings) is h = subst (λ (x : ℕ). NotBefore now (next_of (Advertises x settings ∷ history))) (sym is)
      (advertises (is_on history) (began_of history) (assigned_of history) (last_of history) (planned_of history) (answer_of history) h)
  still history (Assigned at) is h = subst (λ (x : ℕ). NotBefore now (next_of (Assigned x ∷ history))) (sym is)
      (assigned (is_on history) (began_of history) (assigned_of history) (last_of history) (planned_of history) (answer_of history) h)
  still history (Solicited at delay) is h = subst (λ (x : ℕ). NotBefore now (next_of (Solicited x delay ∷ history))) (sym is)
      (solicited (is_on history) (first_date (began_of history) (assigned_of history) (last_of history)) (planned_of history) (answer_of history) (last_of history) delay h)
  still history (Sent at interval) is h = subst (λ (x : ℕ). NotBefore now (next_of (Sent x interval ∷ history))) (sym is.0)
      (sent (is_on history) (first_date (began_of history) (assigned_of history) (Some now)) (interval_after (sent_of history) interval))
  still history (Ceased at) is h = tt
  still history (Offered info) is h = h

-- ---- after the last one

first_after : (began assigned : Option ℕ) (last : ℕ) → NotBefore (last + 1) (first_date began assigned (Some last))
first_after None assigned last = tt
first_after (Some b) None last = tt
first_after (Some b) (Some a) last = omega arith

answer_after : (last at delay : ℕ) → last + 1 ≤ answer_date (Some last) at delay
answer_after last at delay = grind (arith, nat_tests)

advertises_after : (on : Bool) (now : ℕ) (began assigned last planned answer : Option ℕ) → IsAfter last (date_by on (first_date began assigned last) planned answer)
    → IsAfter last (next_date (first_date (if on then began else Some now) assigned last) (if on then planned else None) (if on then answer else None))
advertises_after on now began assigned None planned answer h = tt
advertises_after true now began assigned (Some l) planned answer h = h
advertises_after false now began assigned (Some l) planned answer h = first_after (Some now) assigned l

assigned_after : (on : Bool) (now : ℕ) (began was last planned answer : Option ℕ) → IsAfter last (date_by on (first_date began was last) planned answer)
    → IsAfter last (date_by on (first_date began (Some now) last) planned answer)
assigned_after on now began was None planned answer h = tt
assigned_after false now began was (Some l) planned answer h = tt
assigned_after true now began was (Some l) None answer h = first_after began (Some now) l
assigned_after true now began was (Some l) (Some p) answer h = h

solicited_after : (on : Bool) (now : ℕ) (first planned answer last : Option ℕ) (delay : ℕ) → IsAfter last (date_by on first planned answer)
    → IsAfter last (date_by on first planned (if is_some answer then answer else Some (answer_date last now delay)))
solicited_after on now first planned answer None delay h = tt
solicited_after false now first planned answer (Some l) delay h = tt
solicited_after true now first None answer (Some l) delay h = h
solicited_after true now first (Some p) (Some a) (Some l) delay h = h
solicited_after true now first (Some p) None (Some l) delay h = both_later (l + 1) p (answer_date (Some l) now delay) h (answer_after l now delay)

pub interval_stays : (before interval : ℕ) → 0 < interval → 0 < interval_after before interval
interval_stays before interval h = grind (arith, nat_tests)

sent_after : (on : Bool) (now : ℕ) (first : Option ℕ) (interval : ℕ) → 0 < interval → NotBefore (now + 1) (date_by on first (Some (now + interval)) None)
sent_after false now first interval h = tt
sent_after true now first interval h = omega (arith, h)

none_after : (last : Option ℕ) → IsAfter last None
none_after None = tt
none_after (Some l) = tt

pub spaced : (now : ℕ) (history : List Row) (row : Row) → IsOf now row → IsSpaced history → IsSpaced (row ∷ history)
spaced now history (Advertises at settings) is h =
    advertises_after (is_on history) at (began_of history) (assigned_of history) (last_of history) (planned_of history) (answer_of history) h
spaced now history (Assigned at) is h =
    assigned_after (is_on history) at (began_of history) (assigned_of history) (last_of history) (planned_of history) (answer_of history) h
spaced now history (Solicited at delay) is h =
    solicited_after (is_on history) at (first_date (began_of history) (assigned_of history) (last_of history)) (planned_of history) (answer_of history) (last_of history) delay h
spaced now history (Sent at interval) is h =
    sent_after (is_on history) at (first_date (began_of history) (assigned_of history) (Some at)) (interval_after (sent_of history) interval) (interval_stays (sent_of history) interval is.1)
spaced now history (Ceased at) is h = none_after (if tells_its_end history then Some at else last_of history)
spaced now history (Offered info) is h = h

-- ---- what an advertisement says that is due

-- it is due where the interface advertises
pub due_is_on : (history : List Row) (at : ℕ) → next_of history ≡ Some at → is_on history ≡ true
due_is_on history at due = by (is_on history) (first_date (began_of history) (assigned_of history) (last_of history)) due
  where
    by : (on : Bool) (first : Option ℕ) → date_by on first (planned_of history) (answer_of history) ≡ Some at → on ≡ true
    by true first e = refl
    by false first e = absurd (let no : ⊥ = cc in no)

-- and it has settings there
pub has_settings : (history : List Row) → is_on history ≡ true → (s : Settings) × (advertised_by history ≡ Some s)
has_settings history on =
    let s = last_ones history on in (s.0, ap (λ (b : Bool). if b then settings_of history else None) on ∙ s.1)
  where
    last_ones : (history : List Row) → is_on history ≡ true → (s : Settings) × (settings_of history ≡ Some s)
    last_ones [] on = absurd (let no : ⊥ = cc in no)
    last_ones (Advertises at settings ∷ history) on = (settings, refl)
    last_ones (Assigned at ∷ history) on = last_ones history on
    last_ones (Solicited at delay ∷ history) on = last_ones history on
    last_ones (Sent at interval ∷ history) on = last_ones history on
    last_ones (Ceased at ∷ history) on = absurd (let no : ⊥ = cc in no)
    last_ones (Offered info ∷ history) on = last_ones history on
