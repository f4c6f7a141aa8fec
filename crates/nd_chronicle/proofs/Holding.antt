-- How one of the node's addresses came to be held, in rows of the chronicle, at each of its places.
use Rattle.std.proofs.Common.{◌≡◌, inl, inr, ℕ, ◌+◌, ◌*◌, ◌<◌, ◌≤◌, Bool, true, false, List, [], ◌∷◌, refl, sym, ◌∙◌, ap, subst, arith, ⊎_elim}
use Rattle.std.proofs.lemmas.Bool.{true≢false}
use Rattle.std.specs.Prelude.{◌&&◌, not}
use Rattle.nd_table.specs.History.{Past}
use Rattle.nd_table.proofs.Pasts.{past_self, past_then, past_tail, past_linear, past-length, all_before}
use Rattle.nd_addr.specs.declared.addr.Addr.{Addr}
use Rattle.nd_addr.specs.Number.{number_of}
use Rattle.nd_decode.specs.Message.{Parts}
use Rattle.nd_slaac.specs.History.{Row, Formed, Solicited, Conflict, Assigned}
use Rattle.nd_slaac.specs.MayCome as rows
use Rattle.nd_slaac.specs.MayCome.{IsHistory, MayCome}
use Rattle.nd_slaac.specs.State as states
use Rattle.nd_slaac.specs.State.{is_tentative}
use Rattle.nd_slaac.proofs.Dues.{tentative_parts}
use Rattle.nd_slaac.proofs.Histories.{conflict_by, held}
use Rattle.nd_slaac.proofs.Steps.{same_story}
use Rattle.nd_chronicle.specs.Start.{Start}
use Rattle.nd_chronicle.specs.Happening.{Chronicle, Address, Heard}
use Rattle.nd_chronicle.specs.Hearing.{conflicts_with}
use Rattle.nd_chronicle.specs.Histories.{address_history}
use Rattle.nd_chronicle.specs.OwnAddress.{story_of}
use Rattle.nd_chronicle.specs.Event.{Event}
use Rattle.nd_chronicle.specs.History.{IsChronicle}
use Rattle.nd_chronicle.specs.Places.{PlaceOf, HeldInRows, AssignedInRows, formed_with, solicited_with}
use Rattle.nd_chronicle.proofs.Keeping.{assigned_or_tentative, false_unless}
use Rattle.nd_chronicle.proofs.Pasts.{Paired, all_paired, history_past, place_of}
use Rattle.nd_chronicle.proofs.Tried.{rows_may_come}
use Rattle.nd_chronicle.proofs.Unrivalled.{Sound, all_sound, tail_sound, formed_in_force, yielded}

-- ---- the frame of a solicitation stands right above its row, and so below what stands above that

abbrev assigns : Chronicle → Bool
assigns ((at, Address key Assigned) ∷ c) = true
assigns _ = false

module _ (start : Start) (key sent assigned : ℕ) (earlier over : Chronicle) where
  abbrev sending : Chronicle
  sending = solicited_with start sent key earlier

  abbrev assigning : Chronicle
  assigning = (assigned, Address key Assigned) ∷ over

  sent_below : (c : Chronicle) → Past sending c → Past assigning c → Past ((sent, Address key Solicited) ∷ earlier) over → Past sending over
  sent_below c p q s = ⊎_elim
      (λ under. ⊎_elim (λ same. absurd (true≢false (sym (ap assigns same)))) (λ below. below) under)
      (λ above. ⊎_elim (λ same. absurd (true≢false (ap assigns same)))
      (λ below. let le = past-length assigning over (past_then assigning ((sent, Address key Solicited) ∷ earlier) over below s) in absurd (omega (arith, le))) above)
      (past_linear sending assigning c p q)

-- ---- in rows of the chronicle

module _ (start : Start) (c d : Chronicle) (key : ℕ) (paired : Paired start c) (sound : Sound c) (p : Past d c) (h : rows.Held start.transmits key (address_history d)) where
  -- its assignment, and its forming below
  assignment : PlaceOf h.assigned key Assigned h.over d
  assignment = place_of h.assigned key Assigned h.over d h.assigned_at

  abbrev formed_row : Row
  formed_row = (h.formed, key, Formed h.delay h.retrans h.lifetimes)

  forming : PlaceOf h.formed key (Formed h.delay h.retrans h.lifetimes) h.below assignment.before
  forming = place_of h.formed key (Formed h.delay h.retrans h.lifetimes) h.below assignment.before (subst (λ (x : List Row). Past (formed_row ∷ h.below) x) (sym assignment.history) h.tried.formed_at)

  abbrev formed_place : Chronicle
  formed_place = formed_with h.formed key h.delay h.retrans h.lifetimes forming.before

  -- a place of the own addresses' history that is there since the forming is one of the chronicle since then
  since_formed : (e : Chronicle) → Past e assignment.before → Past (formed_row ∷ h.below) (address_history e) → Past formed_place e
  since_formed e q r = ⊎_elim (λ under. under_forming under) (λ above. above) (past_linear e formed_place assignment.before q forming.there)
    where
      under_forming : Past e formed_place → Past formed_place e
      under_forming (inl same) = subst (λ (x : Chronicle). Past formed_place x) (sym same) (past_self formed_place)
      under_forming (inr below) =
          let q' : Past (address_history e) h.below = subst (λ (x : List Row). Past (address_history e) x) forming.history (history_past e forming.before below) in
          let le = past-length (formed_row ∷ h.below) h.below (past_then (formed_row ∷ h.below) (address_history e) h.below r q') in
          absurd (omega (arith, le))

  -- and the other way
  formed_since : (e : Chronicle) → Past formed_place e → Past (formed_row ∷ h.below) (address_history e)
  formed_since e r = subst (λ (x : List Row). Past ((h.formed, key, Formed h.delay h.retrans h.lifetimes) ∷ x) (address_history e)) forming.history (history_past formed_place e r)

  solicitation : (back : ℕ) → 0 < back → back ≤ start.transmits → (sent : ℕ) × (earlier : Chronicle) × (h.assigned ≡ sent + back * h.retrans)
      × Past (solicited_with start sent key earlier) assignment.before × Past formed_place earlier
  solicitation back some few =
      let s = h.solicited back some few in
      let place : PlaceOf s.0 key Solicited s.1 assignment.before = place_of s.0 key Solicited s.1 assignment.before (subst (λ (x : List Row). Past ((s.0, key, Solicited) ∷ s.1) x) (sym assignment.history) s.3) in
      let over : Past assignment.before d = past_then assignment.before ((h.assigned, Address key Assigned) ∷ assignment.before) d (inr (past_self assignment.before)) assignment.there in
      let row : Past ((s.0, Address key Solicited) ∷ place.before) d = past_then _ assignment.before d place.there over in
      let below : Past place.before assignment.before = past_then place.before ((s.0, Address key Solicited) ∷ place.before) assignment.before (inr (past_self place.before)) place.there in (
        s.0,
        place.before,
        s.2,
        sent_below start key s.0 h.assigned place.before assignment.before c (paired.each s.0 key place.before (past_then _ d c row p)) (past_then _ d c assignment.there p) place.there,
        since_formed place.before below (subst (λ (x : List Row). Past (formed_row ∷ h.below) x) (sym place.history) s.4),
      )

  -- what stands below the assignment is tentative since the forming
  trying : (e : Chronicle) → Past e assignment.before → Past formed_place e → is_tentative (story_of e key) ≡ true
  trying e q r = h.tried.tentative (address_history e) (subst (λ (x : List Row). Past (address_history e) x) assignment.history (history_past e assignment.before q)) (formed_since e r)

  abbrev assigned_place : Chronicle
  assigned_place = (h.assigned, Address key Assigned) ∷ assignment.before

  assigned_before : Past assigned_place c
  assigned_before = past_then assigned_place d c assignment.there p

  sound_place : Sound assigned_place
  sound_place = all_before Sound tail_sound assigned_place c assigned_before sound

  -- a conflict that stands above a message makes the address a duplicate
  no_conflict : (moment : ℕ) (address : List ℕ) (e : Chronicle) → number_of address ≡ key → Past ((moment, Address (number_of address) Conflict) ∷ e) assigned_place → Past formed_place e → ⊥
  no_conflict moment address e is (inl same) r = true≢false (sym (ap assigns same))
  no_conflict moment address e is (inr q) r =
      let conflicted : Chronicle = (moment, Address (number_of address) Conflict) ∷ e in
      let tentative : is_tentative (story_of conflicted key) ≡ true = trying conflicted q (inr r) in
      let by_address = subst (λ (x : ℕ). is_tentative (story_of conflicted x) ≡ true) (sym is) tentative in
      conflict_by _ _ (sym (ap is_tentative (same_story (number_of address) moment Conflict (address_history e) refl)) ∙ by_address)

  no_rival : (heard : ℕ) (source destination : Addr) (message : Parts) (earlier : Chronicle) (address : List ℕ)
      → Past ((heard, Heard source destination message) ∷ earlier) assignment.before → Past formed_place earlier
      → number_of address ≡ key → conflicts_with address source message.body ≡ false
  no_rival heard source destination message earlier address q r is = false_unless (conflicts_with address source message.body) (λ conflict.
      let tentative = subst (λ (x : ℕ). is_tentative (story_of earlier x) ≡ true) (sym is) (trying earlier (past_tail _ earlier assignment.before q) r) in
      let y = yielded heard source destination message earlier address tentative conflict (h.assigned, Address key Assigned) assignment.before sound_place q in
      no_conflict y.moment address ((heard, Heard source destination message) ∷ earlier) is y.there (inr r))

  in_rows : HeldInRows start key d
  in_rows = record {
    formed = h.formed;
    delay = h.delay;
    retrans = h.retrans;
    lifetimes = h.lifetimes;
    below = forming.before;
    assigned = h.assigned;
    over = assignment.before;
    formed_at = forming.there;
    assigned_at = assignment.there;
    solicited = solicitation;
    each = λ sent earlier q r.
        let row : Past ((sent, key, Solicited) ∷ address_history earlier) h.over = subst (λ (x : List Row). Past ((sent, key, Solicited) ∷ address_history earlier) x) assignment.history (history_past ((sent, Address key Solicited) ∷ earlier) assignment.before q) in
        let le = h.tried.only sent (address_history earlier) row (formed_since earlier r) in
        omega (arith, le, h.date);
    trying = trying;
    since = λ e q r. h.since (address_history e) (history_past e d q)
        (subst (λ (x : List Row). Past ((h.assigned, key, Assigned) ∷ x) (address_history e)) assignment.history (history_past ((h.assigned, Address key Assigned) ∷ assignment.before) e r));
    in_force = formed_in_force h.formed key h.delay h.retrans h.lifetimes forming.before c
        (past_then _ assignment.before c forming.there (past_tail _ assignment.before c assigned_before)) sound;
    unrivalled = no_rival;
  }

module _ (start : Start) (events : List (ℕ × Event)) (c : Chronicle) (runs : IsChronicle start events c) (d : Chronicle) (p : Past d c) (key : ℕ) (assigned : states.is_assigned (story_of d key) ≡ true) where
  pub tried_at : rows.Held start.transmits key (address_history d)
  tried_at = held start.transmits (address_history d) key (all_before (IsHistory start.transmits) (λ row h all. all.1) (address_history d) (address_history c) (history_past d c p) (rows_may_come start events c runs)) assigned

  pub tried_in_rows : HeldInRows start key d
  tried_in_rows = in_rows start c d key (all_paired start events c runs) (all_sound start events c runs) p tried_at

-- ---- at the row of an assignment

abbrev first_moment : Chronicle → ℕ
first_moment [] = 0
first_moment (row ∷ c) = row.0

abbrev below_first : Chronicle → Chronicle
below_first [] = []
below_first (row ∷ c) = c

assigned_by_parts : (known conflict : Bool) → known ≡ true → conflict ≡ false → (known && not conflict && true) ≡ true
assigned_by_parts true false k c = refl
assigned_by_parts false conflict k c = absurd (let no : ⊥ = cc in no)
assigned_by_parts true true k c = absurd (let no : ⊥ = cc in no)

module _ (start : Start) (events : List (ℕ × Event)) (c : Chronicle) (runs : IsChronicle start events c) (at key : ℕ) (over : Chronicle) (p : Past ((at, Address key Assigned) ∷ over) c) where
  abbrev place : Chronicle
  place = (at, Address key Assigned) ∷ over

  -- it was its turn
  turned : MayCome start.transmits (at, key, Assigned) (address_history over)
  turned = (all_before (IsHistory start.transmits) (λ row h all. all.1) (address_history place) (address_history c) (history_past place c p) (rows_may_come start events c runs)).0

  tentative_below : is_tentative (story_of over key) ≡ true
  tentative_below = turned.first.due.0.tentative

  assigned_here : states.is_assigned (story_of place key) ≡ true
  assigned_here =
      let parts = tentative_parts (story_of over key) tentative_below in
      ap states.is_assigned (same_story key at Assigned (address_history over) refl) ∙ assigned_by_parts (states.is_known (story_of over key)) (states.has_conflict (story_of over key)) parts.0 parts.1

  row_held : HeldInRows start key place
  row_held = tried_in_rows start events c runs place p key assigned_here

  -- no earlier assignment is held
  this_one : (h : HeldInRows start key place) → (h.assigned, Address key Assigned) ∷ h.over ≡ place
  this_one h = ⊎_elim (λ same. same) (λ below. absurd (assigned_or_tentative (story_of over key) (h.since over (inr (past_self over)) below) tentative_below)) h.assigned_at

  pub assigned_in_rows : AssignedInRows start at key over
  assigned_in_rows = record {
    held = row_held;
    moment = ap first_moment (this_one row_held);
    place = ap below_first (this_one row_held);
  }
