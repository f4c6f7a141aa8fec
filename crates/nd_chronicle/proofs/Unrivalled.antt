-- Each of the node's addresses is formed with the RetransTimer in force, and a message that has a conflict with a tentative one makes it a duplicate at once.
use Rattle.std.proofs.Common.{◌≡◌, inl, inr, ℕ, Bool, true, false, List, [], ◌∷◌, Option, Some, None, refl, sym, ◌∙◌, ap, subst}
use Rattle.std.specs.Prelude.{MatchBool, nat_lt}
use Rattle.nd_addr.specs.declared.addr.Addr.{Addr}
use Rattle.nd_addr.specs.Number.{number_of}
use Rattle.nd_advertiser.specs.Advertising.{advertised_by}
use Rattle.nd_decode.specs.Message.{Parts}
use Rattle.nd_table.specs.History.{Past}
use Rattle.nd_slaac.specs.Due as addresses_due
use Rattle.nd_slaac.specs.History as addresses
use Rattle.nd_slaac.specs.History.{Lifetimes}
use Rattle.nd_chronicle.specs.Start.{Start, link_local_key}
use Rattle.nd_chronicle.specs.Happening.{Chronicle, Happening, Address, Configured, Refused, Drew, ForDelay, ForReachableTime, Heard, Passed, TooLate, last_moment}
use Rattle.nd_chronicle.specs.Histories.{advertising_history}
use Rattle.nd_chronicle.specs.InForce.{base_reachable_time, retrans_timer}
use Rattle.nd_chronicle.specs.Generator.{reachable_drawn, stream_left}
use Rattle.nd_chronicle.specs.OwnAddress.{is_tentative}
use Rattle.nd_chronicle.specs.Hearing.{conflicts_with}
use Rattle.nd_chronicle.specs.Due.{What, RouterEnds, AddressFalls, NeighbourFalls, RoutersSolicited, RouterAdvertises, Redraws, comes}
use Rattle.nd_chronicle.specs.Event.{Event, EventAdds}
use Rattle.nd_chronicle.specs.History.{Walk, over, adds, passes, Runs, beginning, first_delay, with_reachable_time}
use Rattle.nd_chronicle.proofs.Keeping.{is_plain, Rivalless, Targets, neighbour_keeps, advertising_keeps, event_keeps}

-- one of the node's addresses is formed with the RetransTimer in force
abbrev InForce : Happening → Chronicle → Type 0
InForce (Address key (addresses.Formed delay retrans lifetimes)) c = retrans ≡ retrans_timer c
InForce _ c = Unit {0}

-- what stands right above a message is the conflict that the message has with a tentative address, if it has one
abbrev Above : Happening → Chronicle → Type 0
Above what ((at, Heard source destination message) ∷ c) =
    (address : List ℕ) → is_tentative c address ≡ true → conflicts_with address source message.body ≡ true → what ≡ Address (number_of address) addresses.Conflict
Above what _ = Unit {0}

-- each row is so
abbrev pub Sound : Chronicle → Type 0
Sound [] = Unit {0}
Sound ((at, what) ∷ c) = InForce what c × Above what c × Sound c

-- and anything may follow
pub record Settled (c : Chronicle) : Type 0 where
  pub sound : Sound c
  pub next : (what : Happening) → Above what c

abbrev forms_none : Happening → Bool
forms_none (Address key (addresses.Formed delay retrans lifetimes)) = false
forms_none (Heard source destination message) = false
forms_none _ = true

in_force_none : (what : Happening) (c : Chronicle) → forms_none what ≡ true → InForce what c
in_force_none (Address key (addresses.Formed delay retrans lifetimes)) c is = absurd (let e : ⊥ = cc in e)
in_force_none (Address key (addresses.SetByHand lifetimes)) c is = tt
in_force_none (Address key (addresses.Announced lifetimes)) c is = tt
in_force_none (Address key addresses.Solicited) c is = tt
in_force_none (Address key addresses.Conflict) c is = tt
in_force_none (Address key addresses.Assigned) c is = tt
in_force_none (Address key addresses.Ended) c is = tt
in_force_none what c is = tt

module _ (at : ℕ) where
  -- a row that is no message and forms no address
  settled_by : (what : Happening) (c : Chronicle) → forms_none what ≡ true → Settled c → Settled ((at, what) ∷ c)
  settled_by what c none s = record { sound = (in_force_none what c none, s.next what, s.sound); next = λ other. above_row other what none }
    where
      above_row : (other kind : Happening) → forms_none kind ≡ true → Above other ((at, kind) ∷ c)
      above_row other (Heard source destination message) is = absurd (let e : ⊥ = cc in e)
      above_row other kind is = tt

  settled_plain : (what : Happening) (c : Chronicle) → is_plain what ≡ true → Settled c → Settled ((at, what) ∷ c)
  settled_plain what c plain s = settled_by what c (plain_forms_none what plain) s
    where
      plain_forms_none : (what : Happening) → is_plain what ≡ true → forms_none what ≡ true
      plain_forms_none (Heard source destination message) is = absurd (let e : ⊥ = cc in e)
      plain_forms_none (Address key kind) is = absurd (let e : ⊥ = cc in e)
      plain_forms_none what is = refl

  settled_forms : (key delay : ℕ) (lifetimes : Option Lifetimes) (c : Chronicle) → Settled c → Settled ((at, Address key (addresses.Formed delay (retrans_timer c) lifetimes)) ∷ c)
  settled_forms key delay lifetimes c s = record { sound = (refl, s.next _, s.sound); next = λ other. tt }

  settled_listens : (source destination : Addr) (message : Parts) (c : Chronicle) → Rivalless c source message.body → Settled c → Settled ((at, Heard source destination message) ∷ c)
  settled_listens source destination message c none s = record {
    sound = (tt, s.next _, s.sound);
    next = λ other address tentative conflict. absurd (let e = none address tentative in let no : ⊥ = cc in no);
  }

  settled_yields : (source destination target : Addr) (message : Parts) (c : Chronicle) → Targets source message.body target → Settled c
      → Settled ((at, Address (number_of target.0) addresses.Conflict) ∷ (at, Heard source destination message) ∷ c)
  settled_yields source destination target message c targets s = record {
    sound = (tt, (λ address tentative conflict. ap (λ (a : List ℕ). Address (number_of a) addresses.Conflict) (targets address conflict)), (tt, s.next _, s.sound));
    next = λ other. tt;
  }

module _ (start : Start) where
  settled_event : (now : ℕ) (event : Event) (c d : Chronicle) → EventAdds start now event c d → Settled c → Settled d
  settled_event now event c d h s = event_keeps start now Settled (settled_plain now)
      (λ key delay lifetimes c s. settled_forms now key delay (Some lifetimes) c s) (λ key lifetimes c s. settled_by now (Address key (addresses.Announced lifetimes)) c refl s)
      (settled_listens now) (settled_yields now) c Settled (λ e k. k) (λ r. settled_by now (Refused r) c refl s)
      (λ key lifetimes c s. settled_by now (Address key (addresses.SetByHand lifetimes)) c refl s) (λ key c s. settled_by now (Address key addresses.Ended) c refl s)
      event d (λ settings is. settled_by now (Configured settings) c refl s) h s

  settled_comes : (at : ℕ) (what : What) (c : Chronicle) → Settled c → Settled (comes start at what c)
  settled_comes at (RouterEnds key) c s = settled_plain at _ c refl s
  settled_comes at (AddressFalls (addresses_due.Ends key)) c s = settled_by at _ c refl s
  settled_comes at (AddressFalls (addresses_due.Solicits key)) c s = settled_plain at _ _ refl (settled_by at _ c refl s)
  settled_comes at (AddressFalls (addresses_due.Assigns key)) c s = settled_by at _ c refl s
  settled_comes at (NeighbourFalls falls) c s = neighbour_keeps start at Settled (settled_plain at) falls c s
  settled_comes at RoutersSolicited c s = settled_plain at _ _ refl (settled_plain at _ c refl s)
  settled_comes at RouterAdvertises c s = advertising_keeps start at Settled (settled_plain at) (advertised_by (advertising_history start c)) c s
  settled_comes at Redraws c s = settled_plain at _ c refl s

  settled_walk : {c d : Chronicle} {m n : ℕ} → Walk start c m n d → Settled c → Settled d
  settled_walk (over lt) s = s
  settled_walk {c = c} {m = m} (adds what le due w) s = settled_walk w (settled_comes m what c s)
  settled_walk (passes le due w) s = settled_walk w s

  settled_follows : (t : Bool) (c : Chronicle) (now last : ℕ) (event : Event) (d : Chronicle) → Settled c
      → MatchBool t (d ≡ (now, TooLate last) ∷ c) ((e : Chronicle) × Walk start c last now e × EventAdds start now event ((now, Passed) ∷ e) d) → Settled d
  settled_follows true c now last event d s h = subst Settled (sym h) (settled_plain now (TooLate last) c refl s)
  settled_follows false c now last event d s h = settled_event now event ((now, Passed) ∷ h.0) d h.2 (settled_plain now Passed h.0 refl (settled_walk h.1 s))

  settled_runs : (history : List (ℕ × Event)) (c d : Chronicle) → Runs start c history d → Settled c → Settled d
  settled_runs [] c d h s = subst Settled (sym h) s
  settled_runs (event ∷ history) c d h s =
      settled_runs history h.0 d h.2 (settled_follows (nat_lt event.0 (last_moment start.at c)) c event.0 (last_moment start.at c) event.1 h.0 s h.1)

  settled_beginning : Settled (beginning start)
  settled_beginning =
      settled_forms start.at (link_local_key start) (first_delay start) None ((start.at, Drew ForDelay (first_delay start)) ∷ with_reachable_time start)
      (settled_plain start.at (Drew ForDelay (first_delay start)) (with_reachable_time start) refl
      (settled_plain start.at (Drew ForReachableTime (reachable_drawn (base_reachable_time []) (stream_left start []))) [] refl (record { sound = tt; next = λ what. tt })))

  pub all_sound : (history : List (ℕ × Event)) (c : Chronicle) → Runs start (beginning start) history c → Sound c
  all_sound history c h = (settled_runs history (beginning start) c h settled_beginning).sound

-- ---- read off a chronicle

pub tail_sound : (row : ℕ × Happening) (c : Chronicle) → Sound (row ∷ c) → Sound c
tail_sound row c s = s.2

-- the row of a forming has the RetransTimer in force below it
pub formed_in_force : (at key delay retrans : ℕ) (lifetimes : Option Lifetimes) (below c : Chronicle) → Past ((at, Address key (addresses.Formed delay retrans lifetimes)) ∷ below) c → Sound c
    → retrans ≡ retrans_timer below
formed_in_force at key delay retrans lifetimes below [] e s = absurd (let no : ⊥ = cc in no)
formed_in_force at key delay retrans lifetimes below (row ∷ c) (inl e) s = (subst Sound (sym e) s).0
formed_in_force at key delay retrans lifetimes below (row ∷ c) (inr p) s = formed_in_force at key delay retrans lifetimes below c p (tail_sound row c s)

-- a conflict stands above the message that has it
module _ (at : ℕ) (source destination : Addr) (message : Parts) (below : Chronicle) (address : List ℕ) (tentative : is_tentative below address ≡ true) (conflict : conflicts_with address source message.body ≡ true) where
  abbrev hearing : Chronicle
  hearing = (at, Heard source destination message) ∷ below

  pub record Yielded (c : Chronicle) : Type 0 where
    pub moment : ℕ
    pub there : Past ((moment, Address (number_of address) addresses.Conflict) ∷ hearing) c

  pub yielded : (row : ℕ × Happening) (c : Chronicle) → Sound (row ∷ c) → Past hearing c → Yielded (row ∷ c)
  yielded row [] s e = absurd (let no : ⊥ = cc in no)
  yielded (m, what) (next ∷ c) s (inl e) =
      let above : Above what hearing = subst (λ (x : Chronicle). Above what x) (sym e) s.1 in
      record { moment = m; there = inl (ap (λ (x : Happening). (m, x) ∷ hearing) (sym (above address tentative conflict)) ∙ ap (λ (x : Chronicle). (m, what) ∷ x) e) }
  yielded row (next ∷ c) s (inr p) = let y = yielded next c (tail_sound row (next ∷ c) s) p in record { moment = y.moment; there = inr y.there }
