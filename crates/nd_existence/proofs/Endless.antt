-- A millisecond in which a Router Advertisement is due has no end where the interval is 0.
use Rattle.std.proofs.Common.{◌≡◌, ℕ, ◌≤◌, Bool, true, false, cond, eqb, List, ◌∷◌, Option, Some, None, refl, sym, ◌∙◌, ap, subst, arith}
use Rattle.std.specs.Prelude.{max}
use Rattle.std.proofs.lemmas.Bool.Decides.{nat_tests}
use Rattle.std.proofs.lemmas.Bool.{cond_both, cond-true}
use Rattle.rand_core.specs.Stream.{Stream}
use Rattle.nd_advertiser.specs.History as advertising
use Rattle.nd_advertiser.specs.Advertising.{is_on, settings_of, advertised_by, began_of, assigned_of, last_of, sent_of, planned_of, answer_of, ready_after, first_date, next_date, next_of, interval_after}
use Rattle.nd_advertiser.specs.Config.{Settings}
use Rattle.nd_neighbour.specs.Due as neighbours
use Rattle.nd_slaac.specs.Due as addresses
use Rattle.nd_chronicle.specs.Start.{Start, is_host, link_local_key}
use Rattle.nd_chronicle.specs.Happening.{Chronicle}
use Rattle.nd_chronicle.specs.Histories.{advertising_history}
use Rattle.nd_chronicle.specs.Generator.{stream_left, interval_drawn}
use Rattle.nd_chronicle.specs.Advertising.{advertising_by, then_advertising}
use Rattle.nd_chronicle.specs.Due.{What, RouterEnds, AddressFalls, NeighbourFalls, RoutersSolicited, RouterAdvertises, Redraws, router_advertisement_date, then_address, then_neighbour, comes}
use Rattle.nd_chronicle.specs.History.{Walk, over, adds, passes}
use Rattle.nd_existence.proofs.Timed.{of_router, dated_on}
use Rattle.nd_existence.proofs.Walking.{losing_keeps}

-- the interface advertises with these settings, and the next advertisement is due at the moment
abbrev IsDueWith : Settings → ℕ → List advertising.Row → Type 0
IsDueWith s m h = (is_on h ≡ true) × (settings_of h ≡ Some s) × (next_of h ≡ Some m)

nothing_drawn : (s : Settings) (stream : Stream) → s.min_interval ≡ 0 → s.max_interval ≡ 0 → interval_drawn s stream ≡ 0
nothing_drawn s stream least greatest = rw (least, greatest) (omega arith)

nothing_cut : (before : ℕ) → interval_after before 0 ≡ 0
nothing_cut before = grind (arith, nat_tests)

on_date : (h : List advertising.Row) → is_on h ≡ true → next_of h ≡ next_date (first_date (began_of h) (assigned_of h) (last_of h)) (planned_of h) (answer_of h)
on_date h on = cond-true (is_on h) _ None on

-- an assignment at the moment leaves the date
assigned_date : (m : ℕ) (began assigned : Option ℕ) (last planned answer : Option ℕ) → next_date (first_date began assigned last) planned answer ≡ Some m
    → next_date (first_date began (Some m) last) planned answer ≡ Some m
assigned_date m began assigned last (Some p) answer is = is
assigned_date m None assigned last None answer is = is
assigned_date m (Some b) None last None answer is = absurd (let never : ⊥ = cc in never)
assigned_date m (Some b) (Some a) last None answer is =
    let e : max (max b a) (ready_after last) ≡ m = cc in
    ap Some (omega (arith, e))

assigned_due : (s : Settings) (m : ℕ) (h : List advertising.Row) → IsDueWith s m h → IsDueWith s m (advertising.Assigned m ∷ h)
assigned_due s m h due = (
  due.0,
  due.1,
  on_date (advertising.Assigned m ∷ h) due.0
      ∙ assigned_date m (began_of h) (assigned_of h) (last_of h) (planned_of h) (answer_of h) (sym (on_date h due.0) ∙ due.2),
)

module _ (start : Start) (s : Settings) (least : s.min_interval ≡ 0) (greatest : s.max_interval ≡ 0) (m : ℕ) where
  abbrev StaysDue : Chronicle → Type 0
  StaysDue c = IsDueWith s m (advertising_history start c)

  sent_due : (c : Chronicle) → StaysDue c → StaysDue (then_advertising start m c)
  sent_due c due =
      let h = advertising_history start c in
      let by : advertised_by h ≡ Some s = cond-true (is_on h) (settings_of h) None due.0 ∙ due.1 in
      let interval = interval_drawn s (stream_left start c) in
      let none : interval ≡ 0 = nothing_drawn s (stream_left start c) least greatest in
      let date : interval_after (sent_of h) interval ≡ 0 = ap (interval_after (sent_of h)) none ∙ nothing_cut (sent_of h) in
      let again : IsDueWith s m (advertising.Sent m interval ∷ h) =
      (due.0, due.1, on_date (advertising.Sent m interval ∷ h) due.0 ∙ ap Some (omega (arith, date))) in
      subst (λ (o : Option Settings). StaysDue (advertising_by start m o c)) (sym by) again

  address_due : (falls : addresses.Falls) (c : Chronicle) → StaysDue c → StaysDue (then_address start m falls c)
  address_due (addresses.Ends key) c due = due
  address_due (addresses.Solicits key) c due = due
  address_due (addresses.Assigns key) c due =
      let h = advertising_history start c in
      cond_both (eqb key (link_local_key start)) (advertising.Assigned m ∷ h) h (IsDueWith s m) (λ own. assigned_due s m h due) (λ other. due)

  neighbour_due : (falls : neighbours.Falls) (c : Chronicle) → StaysDue c → StaysDue (then_neighbour start m falls c)
  neighbour_due (neighbours.Multicasts key) c due = due
  neighbour_due (neighbours.Unicasts key mac) c due = due
  neighbour_due (neighbours.Fails key packets) c due = losing_keeps m StaysDue (λ why packet d q. q) _ packets _ due
  neighbour_due (neighbours.Ages key) c due = due

  stays_due : (what : What) (c : Chronicle) → StaysDue c → StaysDue (comes start m what c)
  stays_due (RouterEnds key) c due = due
  stays_due (AddressFalls falls) c due = address_due falls c due
  stays_due (NeighbourFalls falls) c due = neighbour_due falls c due
  stays_due RoutersSolicited c due = due
  stays_due RouterAdvertises c due = sent_due c due
  stays_due Redraws c due = due

never_ends : (start : Start) (s : Settings) → s.min_interval ≡ 0 → s.max_interval ≡ 0 → is_host start.role ≡ false → {c d : Chronicle} {m end : ℕ}
    → Walk start c m end d → m ≤ end → IsDueWith s m (advertising_history start c) → ⊥
never_ends start s least greatest router (over lt) le due = absurd (omega (arith, lt, le))
never_ends start s least greatest router {c = c} {m = m} (passes le' none w) le due =
    none.4 (ap (λ b. cond b None (next_of (advertising_history start c))) router ∙ due.2)
never_ends start s least greatest router {c = c} {m = m} (adds what le' first w) le due =
    never_ends start s least greatest router w le (stays_due start s least greatest m what c due)

no_host : (host : Bool) (next : Option ℕ) (m : ℕ) → cond host None next ≡ Some m → host ≡ false
no_host true next m is = absurd (let never : ⊥ = cc in never)
no_host false next m is = refl

pub no_end : (start : Start) (c d : Chronicle) (m end : ℕ) (s : Settings) → s.min_interval ≡ 0 → s.max_interval ≡ 0 → advertised_by (advertising_history start c) ≡ Some s
    → router_advertisement_date start c ≡ Some m → m ≤ end → Walk start c m end d → ⊥
no_end start c d m end s least greatest by date le w =
    let h = advertising_history start c in
    let next = of_router (is_host start.role) (next_of h) m date in
    let on = dated_on h m next in
    never_ends start s least greatest (no_host (is_host start.role) (next_of h) m date) w le (on, sym (cond-true (is_on h) (settings_of h) None on) ∙ by, next)
