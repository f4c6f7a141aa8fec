-- No address is assigned untried: each row of the own addresses comes where it may come, in all cases.
use Rattle.std.proofs.Common.{◌≡◌, ℕ, suc, ◌<◌, ◌≤◌, Bool, true, false, cond, List, [], ◌∷◌, ◌++◌, Some, None, refl, sym, ◌∙◌, ap, subst, arith, ⊎_elim}
use Rattle.std.proofs.lemmas.Bool.{cases_lt}
use Rattle.std.proofs.lemmas.Bool.Decides.{nat_tests}
use Rattle.std.specs.Prelude.{MatchBool, nat_lt, ◌==◌}
use Rattle.nd_decode.specs.declared.prefix_info.PrefixInfo.{PrefixInfo}
use Rattle.nd_params.specs.History as parameters
use Rattle.nd_params.specs.RouterAdvertisement.{nonzero_or}
use Rattle.nd_slaac.specs.Due as addresses_due
use Rattle.nd_slaac.specs.Due.{Falls, Ends, Solicits, Assigns, IsDue, NoneOverdue, key_in, happens, due_row}
use Rattle.nd_slaac.specs.History as addresses
use Rattle.nd_slaac.specs.MayCome.{IsHistory, MayCome, Held}
use Rattle.nd_slaac.specs.PrefixOption.{is_taken, named_by, lifetimes_of}
use Rattle.nd_slaac.specs.State as states
use Rattle.nd_slaac.proofs.Histories.{held}
use Rattle.nd_slaac.proofs.Overdue.{still_none}
use Rattle.nd_slaac.proofs.Steps.{same_story}
use Rattle.nd_addr.specs.Number.{number_of}
use Rattle.nd_chronicle.specs.Start.{Start, link_local_key}
use Rattle.nd_chronicle.specs.Happening.{Chronicle, Address, Passed, TooLate, last_moment}
use Rattle.nd_chronicle.specs.Histories.{address_history, parameter_history}
use Rattle.nd_chronicle.specs.InForce.{retrans_timer}
use Rattle.nd_chronicle.specs.OwnAddress.{story_of}
use Rattle.nd_chronicle.specs.ByHand.{setting}
use Rattle.nd_chronicle.specs.RouterAdvertisement.{delay_for, forming, naming, then_option, then_options}
use Rattle.nd_chronicle.specs.Event.{Event, EventAdds}
use Rattle.nd_chronicle.specs.Due.{Due}
use Rattle.nd_chronicle.specs.History.{Walk, over, adds, passes, Runs, beginning}
use Rattle.nd_chronicle.proofs.Growth.{AllAt, event_grows}
use Rattle.nd_chronicle.proofs.OwnRows.{Brings, Nothing, Conflicts, Announces, SetsKnown, FormsSet, EndsKnown, BringsDue, NoRow, ItsRow, Same, delay_same, event_brings, comes_brings}

-- ---- RetransTimer is above 0

told_or : (told before : ℕ) → 0 < before → 0 < nonzero_or told before
told_or told before p = grind (arith, nat_tests)

retrans_positive : (history : List parameters.Row) → 0 < parameters.retrans_of history
retrans_positive [] = omega arith
retrans_positive (parameters.Heard ra options ∷ history) = told_or ra.retrans_timer (parameters.retrans_of history) (retrans_positive history)
retrans_positive (parameters.Drew at value ∷ history) = retrans_positive history

-- ---- each row came where it may come, and nothing is overdue

module _ (transmits : ℕ) where
  pub record Fine (c : Chronicle) (m : ℕ) : Type 0 where
    pub history : IsHistory transmits (address_history c)
    pub none : NoneOverdue transmits (address_history c) m

  fine_same : {c d : Chronicle} {m : ℕ} → Same c d → Fine c m → Fine d m
  fine_same {m = m} same f = record {
    history = subst (λ (h : List addresses.Row). IsHistory transmits h) (sym same) f.history;
    none = subst (λ (h : List addresses.Row). NoneOverdue transmits h m) (sym same) f.none;
  }

  fine_row : {c : Chronicle} {m : ℕ} (key : ℕ) (kind : addresses.RowKind) → MayCome transmits (m, key, kind) (address_history c) → Fine c m → Fine ((m, Address key kind) ∷ c) m
  fine_row {c = c} {m = m} key kind may f = record { history = (may, f.history); none = still_none transmits (address_history c) m key kind f.none }

  fine_before : {c : Chronicle} {m n : ℕ} → n ≤ m → Fine c m → Fine c n
  fine_before le f = record { history = f.history; none = record { none = λ moment falls due. let h = f.none.none moment falls due in omega (arith, h, le) } }

  -- what is due came at its turn
  fine_turn : (c : Chronicle) (m : ℕ) (falls : Falls) → addresses_due.FirstDue transmits (address_history c) m (Some falls) → Fine c m → MayCome transmits (due_row m falls) (address_history c)
  fine_turn c m (Ends key) first f = first.due.0
  fine_turn c m (Solicits key) first f = record { first = first; none_before = f.none.none }
  fine_turn c m (Assigns key) first f = record { first = first; none_before = f.none.none }

  fine_due : {c d : Chronicle} {m : ℕ} → BringsDue transmits m c d → Fine c m → Fine d m
  fine_due (NoRow same) f = fine_same same f
  fine_due {c = c} {m = m} (ItsRow falls first is) f =
      fine_same {c = (m, Address (key_in falls) (happens falls)) ∷ c} is (fine_row (key_in falls) (happens falls) (fine_turn c m falls first f) f)

module _ (start : Start) where
  -- a millisecond in which nothing is due passes
  fine_next : (c : Chronicle) (m : ℕ) → Due start c m None → Fine start.transmits c m → Fine start.transmits c (suc m)
  fine_next c m due f = record {
    history = f.history;
    none = record { none = λ moment falls is. ⊎_elim (λ lt. lt) (λ ge. absurd (due.1 falls (subst (λ (x : ℕ). IsDue start.transmits (address_history c) x falls) (let h = f.none.none moment falls is in omega (arith, h, ge)) is))) (cases_lt m moment) };
  }

  fine_walk : {c d : Chronicle} {m n : ℕ} → Walk start c m n d → Fine start.transmits c m → Fine start.transmits d n
  fine_walk (over lt) f = fine_before start.transmits (omega arith) f
  fine_walk {c = c} {m = m} (adds what le due w) f = fine_walk w (fine_due start.transmits (comes_brings start m c what due) f)
  fine_walk {c = c} {m = m} (passes le due w) f = fine_walk w (fine_next c m due f)

  -- ---- events

  fine_if : {m : ℕ} (t : Bool) (c d : Chronicle) → Fine start.transmits c m → Fine start.transmits d m → Fine start.transmits (cond t c d) m
  fine_if true c d f g = f
  fine_if false c d f g = g

  module _ (now : ℕ) where
    fine_forming : (to_all : Bool) (key : ℕ) (lifetimes : addresses.Lifetimes) (c : Chronicle) → states.is_known (story_of c key) ≡ false → Fine start.transmits c now → Fine start.transmits (forming start now to_all key lifetimes c) now
    fine_forming to_all key lifetimes c unknown f =
        fine_row start.transmits key (addresses.Formed (delay_for start now to_all c) (retrans_timer c) (Some lifetimes))
        (ap (λ (h : List addresses.Row). states.is_known (addresses.story key h)) (delay_same now start to_all c) ∙ unknown, retrans_positive (parameter_history c))
        (fine_same start.transmits (delay_same now start to_all c) f)

    fine_naming : (to_all hand known : Bool) (info : PrefixInfo) (c : Chronicle) → states.is_by_hand (story_of c (named_by start.mac info)) ≡ hand → states.is_known (story_of c (named_by start.mac info)) ≡ known
        → Fine start.transmits c now → Fine start.transmits (naming start now to_all hand known info c) now
    fine_naming to_all true known info c by_hand is f = f
    fine_naming to_all false true info c by_hand known f = fine_row start.transmits (named_by start.mac info) (addresses.Announced (lifetimes_of info)) (known, by_hand) f
    fine_naming to_all false false info c by_hand unknown f = fine_if (info.valid_lifetime == 0) c _ f (fine_forming to_all (named_by start.mac info) (lifetimes_of info) c unknown f)

    fine_options : (to_all : Bool) (infos : List PrefixInfo) (c : Chronicle) → Fine start.transmits c now → Fine start.transmits (then_options start now to_all infos c) now
    fine_options to_all [] c f = f
    fine_options to_all (info ∷ infos) c f =
        fine_options to_all infos (then_option start now to_all info c)
        (fine_if (is_taken info) _ c (fine_naming to_all (states.is_by_hand (story_of c (named_by start.mac info))) (states.is_known (story_of c (named_by start.mac info))) info c refl refl f) f)

    fine_event : (event : Event) (c d : Chronicle) → Brings start now event c d → Fine start.transmits c now → Fine start.transmits d now
    fine_event event c d (Nothing same) f = fine_same start.transmits same f
    fine_event event c d (Conflicts key tentative is) f = fine_same start.transmits {c = (now, Address key addresses.Conflict) ∷ c} is (fine_row start.transmits key addresses.Conflict tentative f)
    fine_event event c d (SetsKnown key lifetimes not known is) f =
        fine_same start.transmits {c = (now, Address key (addresses.SetByHand lifetimes)) ∷ c} is (fine_row start.transmits key (addresses.SetByHand lifetimes) known f)
    fine_event event c d (EndsKnown key not known is) f = fine_same start.transmits {c = (now, Address key addresses.Ended) ∷ c} is (fine_row start.transmits key addresses.Ended known f)
    fine_event event c d (FormsSet own set not unknown up is) f =
        let key = number_of own.address.0 in
        let formed = forming start now false key own.lifetimes c in
        fine_same start.transmits {c = setting start now key own.lifetimes formed} is
        (fine_row start.transmits key (addresses.SetByHand own.lifetimes) (ap states.is_known (same_story key now (addresses.Formed 0 (retrans_timer c) (Some own.lifetimes)) (address_history c) refl))
        (fine_forming false key own.lifetimes c unknown f))
    fine_event event c d (Announces frame infos to_all e received fit up same is) f =
        fine_same start.transmits {c = then_options start now to_all infos e} is (fine_options to_all infos e (fine_same start.transmits same f))

  -- ---- the newest moment

  newest : (now : ℕ) (newer c : Chronicle) → AllAt now newer → last_moment start.at c ≡ now → last_moment start.at (newer ++ c) ≡ now
  newest now [] c all e = e
  newest now ((at, TooLate last) ∷ newer) c all e = newest now newer c all.2 e
  newest now ((at, _) ∷ newer) c all e = all.0

  fine_follows : (t : Bool) (c : Chronicle) (now last : ℕ) (event : Event) (d : Chronicle) → Fine start.transmits c (last_moment start.at c)
      → MatchBool t (d ≡ (now, TooLate last) ∷ c) ((e : Chronicle) × Walk start c (last_moment start.at c) now e × EventAdds start now event ((now, Passed) ∷ e) d) → Fine start.transmits d (last_moment start.at d)
  fine_follows true c now last event d f h = subst (λ (x : Chronicle). Fine start.transmits x (last_moment start.at x)) (sym h) (fine_same start.transmits refl f)
  fine_follows false c now last event d f h =
      let g = event_grows start now ((now, Passed) ∷ h.0) event d h.2 in
      let e : last_moment start.at d ≡ now = ap (last_moment start.at) g.all ∙ newest now g.newer ((now, Passed) ∷ h.0) g.each refl in
      subst (λ (x : ℕ). Fine start.transmits d x) (sym e) (fine_event now event ((now, Passed) ∷ h.0) d (event_brings start now event ((now, Passed) ∷ h.0) d h.2) (fine_same start.transmits refl (fine_walk h.1 f)))

  fine_run : (history : List (ℕ × Event)) (c d : Chronicle) → Runs start c history d → Fine start.transmits c (last_moment start.at c) → Fine start.transmits d (last_moment start.at d)
  fine_run [] c d h f = subst (λ (x : Chronicle). Fine start.transmits x (last_moment start.at x)) (sym h) f
  fine_run (event ∷ history) c d h f =
      fine_run history h.0 d h.2 (fine_follows (nat_lt event.0 (last_moment start.at c)) c event.0 (last_moment start.at c) event.1 h.0 f h.1)

  -- ---- the beginning

  none_yet : (falls : Falls) (moment : ℕ) → IsDue start.transmits [] moment falls → start.at ≤ moment
  none_yet (Ends key) moment due = absurd (let e = due.0 in let no : ⊥ = cc in no)
  none_yet (Solicits key) moment due = absurd (let e = due.0.tentative in let no : ⊥ = cc in no)
  none_yet (Assigns key) moment due = absurd (let e = due.0.tentative in let no : ⊥ = cc in no)

  fine_beginning : Fine start.transmits (beginning start) start.at
  fine_beginning = record {
    history = ((refl, omega arith), tt);
    none = still_none start.transmits [] start.at (link_local_key start) _ (record { none = λ moment falls due. none_yet falls moment due });
  }

  pub rows_may_come : (history : List (ℕ × Event)) (c : Chronicle) → Runs start (beginning start) history c → IsHistory start.transmits (address_history c)
  rows_may_come history c h = (fine_run history (beginning start) c h fine_beginning).history

  pub untried_none : (history : List (ℕ × Event)) (c : Chronicle) (key : ℕ) → Runs start (beginning start) history c → states.is_assigned (story_of c key) ≡ true → Held start.transmits key (address_history c)
  untried_none history c key h assigned = held start.transmits (address_history c) key (rows_may_come history c h) assigned
