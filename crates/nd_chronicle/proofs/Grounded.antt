-- One of the node's addresses other than the link-local one is known only where that one is assigned, and it stays so.
use Rattle.std.proofs.Common.{◌≡◌, ℕ, Bool, true, false, cond, eqb, List, [], ◌∷◌, Some, None, refl, sym, ◌∙◌, ap, subst, inl, inr}
use Rattle.std.specs.Prelude.{◌≢◌, ◌==◌, ◌&&◌, ◌||◌, not, nat_lt, MatchBool}
use Rattle.std.specs.List.{AllByRecursion}
use Rattle.std.proofs.lemmas.List.Elements.{recursion_from_All}
use Rattle.std.proofs.lemmas.Bool.{eqb-true, eq-eqb, ne_eqb, true≢false, cases_Bool}
use Rattle.nd_addr.specs.Number.{number_of}
use Rattle.nd_decode.specs.declared.prefix_info.PrefixInfo.{PrefixInfo}
use Rattle.nd_message.specs.Fitting.{FitsPrefix}
use Rattle.nd_table.specs.History.{Past}
use Rattle.nd_table.proofs.Pasts.{past_self, past_below, all_before}
use Rattle.nd_slaac.specs.Due.{Falls, Ends, Solicits, Assigns, FirstDue, due_row}
use Rattle.nd_slaac.specs.Ends.{valid_end}
use Rattle.nd_slaac.specs.History.{Row, RowKind, Story, story, is_end, Formed, SetByHand, Announced, Solicited, Conflict, Assigned, Ended}
use Rattle.nd_slaac.specs.PrefixOption.{is_taken, named_by, lifetimes_of}
use Rattle.nd_slaac.specs.State.{is_by_hand, is_known, has_conflict, was_assigned, is_tentative, is_assigned}
use Rattle.nd_slaac.proofs.Dues.{tentative_parts}
use Rattle.nd_slaac.proofs.Steps.{other_story, same_story, ended_story}
use Rattle.nd_chronicle.specs.Start.{Start, link_local_key}
use Rattle.nd_chronicle.specs.Happening.{Chronicle, Passed, TooLate, last_moment}
use Rattle.nd_chronicle.specs.Histories.{address_history}
use Rattle.nd_chronicle.specs.InForce.{retrans_timer}
use Rattle.nd_chronicle.specs.OwnAddress.{story_of, is_own, is_up}
use Rattle.nd_chronicle.specs.RouterAdvertisement.{with_delay, forming, naming, then_option, then_options}
use Rattle.nd_chronicle.specs.Event.{ComeAsBytes, ComesAsBytes, Event, EventAdds}
use Rattle.nd_chronicle.specs.History.{Walk, over, adds, passes, Runs, beginning, first_delay, with_reachable_time}
use Rattle.nd_chronicle.proofs.Named.{names_another}
use Rattle.nd_chronicle.proofs.Growth.{runs_grows}
use Rattle.nd_chronicle.proofs.Pasts.{history_past}
use Rattle.nd_chronicle.proofs.OwnRows.{Brings, Nothing, Conflicts, Announces, SetsKnown, FormsSet, EndsKnown, BringsDue, NoRow, ItsRow, delay_same, event_brings, comes_brings}

-- The link-local address never ends, and any other is known only where it is assigned.
record Grounded (own : ℕ) (history : List Row) : Type 0 where
  lasts : valid_end (story own history) ≡ None
  first : (key : ℕ) → key ≢ own → is_known (story key history) ≡ true → is_assigned (story own history) ≡ true

-- The same with one more row, and where the link-local address was assigned, it still is.
record Rests (own : ℕ) (row : Row) (history : List Row) : Type 0 where
  grounded : Grounded own (row ∷ history)
  stays : is_assigned (story own history) ≡ true → is_assigned (story own (row ∷ history)) ≡ true

-- each row rests so on those before
abbrev AllRest : ℕ → List Row → Type 0
AllRest own [] = Unit {0}
AllRest own (row ∷ history) = Rests own row history × AllRest own history

module _ (own : ℕ) where
  ground : (history : List Row) → AllRest own history → Grounded own history
  ground [] all = record { lasts = refl; first = λ key not known. absurd (true≢false (sym known)) }
  ground (row ∷ history) all = all.0.grounded

  still_assigned : (h history : List Row) → Past h history → AllRest own history → is_assigned (story own h) ≡ true → is_assigned (story own history) ≡ true
  still_assigned h [] p all up = subst (λ (l : List Row). is_assigned (story own l) ≡ true) p up
  still_assigned h (row ∷ history) (inl e) all up = subst (λ (l : List Row). is_assigned (story own l) ≡ true) e up
  still_assigned h (row ∷ history) (inr p) all up = all.0.stays (still_assigned h history p all.1 up)

-- ---- one more row

module _ (own at key : ℕ) (kind : RowKind) (history : List Row) (g : Grounded own history) where
  -- of another address that is known already, or where the node's is assigned
  beside : eqb key own ≡ false → (is_known (story key ((at, key, kind) ∷ history)) ≡ true → is_assigned (story own history) ≡ true) → Rests own (at, key, kind) history
  beside differ rests =
      let same : story own ((at, key, kind) ∷ history) ≡ story own history = other_story own key at kind history differ in
      record {
        grounded = record {
          lasts = ap valid_end same ∙ g.lasts;
          first = λ k not known. ap is_assigned same ∙ elim (cases_Bool (eqb key k)) [
            | inl e ↦ rests (subst (λ (j : ℕ). is_known (story j ((at, key, kind) ∷ history)) ≡ true) (sym (eqb-true key k e)) known)
            | inr e ↦ g.first k not (sym (ap is_known (other_story k key at kind history e)) ∙ known)
          ];
        };
        stays = λ up. ap is_assigned same ∙ up;
      }

  -- of the link-local address, which stays assigned and never ends
  itself : key ≡ own → is_end kind ≡ false → ((s : Story) → valid_end ((at, kind) ∷ s) ≡ valid_end s)
      → (is_assigned (story own history) ≡ true → is_assigned ((at, kind) ∷ story own history) ≡ true) → Rests own (at, key, kind) history
  itself is goes lasting on =
      let same : story own ((at, key, kind) ∷ history) ≡ (at, kind) ∷ story own history = subst (λ (k : ℕ). story own ((at, k, kind) ∷ history) ≡ (at, kind) ∷ story own history) (sym is) (same_story own at kind history goes) in
      record {
        grounded = record {
          lasts = ap valid_end same ∙ lasting (story own history) ∙ g.lasts;
          first = λ k not known. ap is_assigned same ∙ on (g.first k not (sym (ap is_known (other_story k key at kind history (ne_eqb key k (λ e. not (sym e ∙ is))))) ∙ known));
        };
        stays = λ up. ap is_assigned same ∙ on up;
      }

  -- of an address that is tentative
  of_tentative : is_end kind ≡ false → ((s : Story) → valid_end ((at, kind) ∷ s) ≡ valid_end s) → is_tentative (story key history) ≡ true → Rests own (at, key, kind) history
  of_tentative goes lasting tentative = elim (cases_Bool (eqb key own)) [
    | inl e ↦ itself (eqb-true key own e) goes lasting (λ up. absurd (not_both (story own history) (subst (λ (k : ℕ). is_tentative (story k history) ≡ true) (eqb-true key own e) tentative) up))
    | inr e ↦ beside e (λ known. g.first key (λ is. true≢false (sym (eq-eqb key own is) ∙ e)) (tentative_parts (story key history) tentative).0)
  ]
    where
      not_both : (s : Story) → is_tentative s ≡ true → is_assigned s ≡ true → ⊥
      not_both s t a = let p = tentative_parts s t in true≢false (sym a ∙ rw (p.0, p.1, p.2) refl)

-- what is due
at_turn : (transmits own m : ℕ) (falls : Falls) (history : List Row) → FirstDue transmits history m (Some falls) → Grounded own history → Rests own (due_row m falls) history
at_turn transmits own m (Ends key) history first g = elim (cases_Bool (eqb key own)) [
  | inl e ↦ absurd (let due = subst (λ (k : ℕ). valid_end (story k history) ≡ Some m) (eqb-true key own e) first.due.1 in let no : ⊥ = let l = g.lasts in cc in no)
  | inr e ↦ beside own m key Ended history g e (λ known. absurd (true≢false (sym known ∙ ap is_known (ended_story key m history))))
]
at_turn transmits own m (Solicits key) history first g = of_tentative own m key Solicited history g refl (λ s. refl) first.due.0.tentative
at_turn transmits own m (Assigns key) history first g = of_tentative own m key Assigned history g refl (λ s. refl) first.due.0.tentative

-- ---- a node

-- one of the node's addresses is known
pub own_known : (s : Story) → (is_tentative s || is_assigned s) ≡ true → is_known s ≡ true
own_known s h = by_parts (is_known s) (not (has_conflict s)) (was_assigned s) h
  where
    by_parts : (known free assigned : Bool) → ((known && free && not assigned) || (known && free && assigned)) ≡ true → known ≡ true
    by_parts true free assigned h = refl
    by_parts false free assigned h = absurd (let no : ⊥ = cc in no)

module _ (start : Start) where
  abbrev Stands : List Row → Type 0
  Stands history = AllRest (link_local_key start) history

  -- ---- the options of a Router Advertisement that is heard where the link-local address is assigned

  abbrev StandsUp : List Row → Type 0
  StandsUp history = Stands history × (is_assigned (story (link_local_key start) history) ≡ true)

  module _ (now : ℕ) (to_all : Bool) where
    -- a row of another address
    up_row : (key : ℕ) (kind : RowKind) (history : List Row) → key ≢ link_local_key start → StandsUp history → StandsUp ((now, key, kind) ∷ history)
    up_row key kind history not s =
        let rests = beside (link_local_key start) now key kind history (ground (link_local_key start) history s.0) (ne_eqb key (link_local_key start) not) (λ known. s.1) in
        ((rests, s.0), rests.stays s.1)

    up_if : (t : Bool) (c d : Chronicle) → StandsUp (address_history c) → StandsUp (address_history d) → StandsUp (address_history (cond t c d))
    up_if true c d s r = s
    up_if false c d s r = r

    up_naming : (hand known : Bool) (info : PrefixInfo) (c : Chronicle) → named_by start.mac info ≢ link_local_key start → StandsUp (address_history c) → StandsUp (address_history (naming start now to_all hand known info c))
    up_naming true known info c not s = s
    up_naming false true info c not s = up_row (named_by start.mac info) (Announced (lifetimes_of info)) (address_history c) not s
    up_naming false false info c not s =
        up_if (info.valid_lifetime == 0) c (forming start now to_all (named_by start.mac info) (lifetimes_of info) c) s
        (up_row (named_by start.mac info) _ (address_history (with_delay start now to_all c)) not (subst StandsUp (sym (delay_same now start to_all c)) s))

    up_option : (taken : Bool) (info : PrefixInfo) (c : Chronicle) → is_taken info ≡ taken → FitsPrefix info → StandsUp (address_history c)
        → StandsUp (address_history (cond taken (naming start now to_all (is_by_hand (story_of c (named_by start.mac info))) (is_known (story_of c (named_by start.mac info))) info c) c))
    up_option true info c taken f s = up_naming (is_by_hand (story_of c (named_by start.mac info))) (is_known (story_of c (named_by start.mac info))) info c (names_another start.mac info f.prefix_is.address_is taken) s
    up_option false info c taken f s = s

    up_options : (infos : List PrefixInfo) (c : Chronicle) → AllByRecursion FitsPrefix infos → StandsUp (address_history c) → StandsUp (address_history (then_options start now to_all infos c))
    up_options [] c f s = s
    up_options (info ∷ infos) c f s = up_options infos (then_option start now to_all info c) f.1 (up_option (is_taken info) info c refl f.0 s)

  -- ---- in all cases

  stands_due : {c d : Chronicle} {m : ℕ} → BringsDue start.transmits m c d → Stands (address_history c) → Stands (address_history d)
  stands_due (NoRow same) s = subst Stands (sym same) s
  stands_due {c = c} {m = m} (ItsRow falls first is) s = subst Stands (sym is) (at_turn start.transmits (link_local_key start) m falls (address_history c) first (ground (link_local_key start) (address_history c) s), s)

  stands_walk : {c d : Chronicle} {m n : ℕ} → Walk start c m n d → Stands (address_history c) → Stands (address_history d)
  stands_walk (over lt) s = s
  stands_walk {c = c} {m = m} (adds what le due w) s = stands_walk w (stands_due (comes_brings start m c what due) s)
  stands_walk (passes le due w) s = stands_walk w s

  stands_event : {now : ℕ} {event : Event} {c d : Chronicle} → ComesAsBytes event → Brings start now event c d → Stands (address_history c) → Stands (address_history d)
  stands_event bytes (Nothing same) s = subst Stands (sym same) s
  stands_event {now = now} {c = c} bytes (Conflicts key tentative is) s =
      subst Stands (sym is) (of_tentative (link_local_key start) now key Conflict (address_history c) (ground (link_local_key start) (address_history c) s) refl (λ s. refl) tentative, s)
  stands_event {now = now} {c = c} bytes (SetsKnown key lifetimes not known is) s =
      let own = link_local_key start in
      let g = ground own (address_history c) s in
      subst Stands (sym is) (beside own now key (SetByHand lifetimes) (address_history c) g (ne_eqb key own not) (λ known'. g.first key not known), s)
  stands_event {now = now} {c = c} bytes (EndsKnown key not known is) s =
      let own = link_local_key start in
      let g = ground own (address_history c) s in
      subst Stands (sym is) (beside own now key Ended (address_history c) g (ne_eqb key own not) (λ known'. g.first key not known), s)
  stands_event {now = now} {c = c} bytes (FormsSet own set not unknown up is) s =
      let key = number_of own.address.0 in
      let formed : StandsUp ((now, key, Formed 0 (retrans_timer c) (Some own.lifetimes)) ∷ address_history c) = up_row now false key _ (address_history c) not (s, up) in
      subst Stands (sym is) (up_row now false key (SetByHand own.lifetimes) _ not formed).0
  stands_event {now = now} bytes (Announces frame infos to_all e received fit up same is) s =
      subst Stands (sym is) (up_options now to_all infos e (fit (bytes.frame frame received)) (subst StandsUp (sym same) (s, up))).0

  stands_follows : (t : Bool) (c : Chronicle) (now last : ℕ) (event : Event) (d : Chronicle) → ComesAsBytes event → Stands (address_history c)
      → MatchBool t (d ≡ (now, TooLate last) ∷ c) ((e : Chronicle) × Walk start c (last_moment start.at c) now e × EventAdds start now event ((now, Passed) ∷ e) d) → Stands (address_history d)
  stands_follows true c now last event d bytes s h = subst Stands (sym (ap address_history h)) s
  stands_follows false c now last event d bytes s h = stands_event bytes (event_brings start now event ((now, Passed) ∷ h.0) d h.2) (stands_walk h.1 s)

  stands_run : (events : List (ℕ × Event)) (c d : Chronicle) → AllByRecursion (λ event. ComesAsBytes event.1) events → Runs start c events d → Stands (address_history c) → Stands (address_history d)
  stands_run [] c d bytes h s = subst Stands (sym (ap address_history h)) s
  stands_run (event ∷ events) c d bytes h s =
      stands_run events h.0 d bytes.1 h.2 (stands_follows (nat_lt event.0 (last_moment start.at c)) c event.0 (last_moment start.at c) event.1 h.0 bytes.0 s h.1)

  -- ---- from the beginning on

  stands_beginning : Stands (address_history (beginning start))
  stands_beginning =
      let own = link_local_key start in
      let formed = Formed (first_delay start) (retrans_timer (with_reachable_time start)) None in
      let grounded : Grounded own ((start.at, own, formed) ∷ []) = record {
        lasts = ap valid_end (same_story own start.at formed [] refl);
        first = λ key not known. absurd (true≢false (sym known ∙ ap is_known (other_story key own start.at formed [] (ne_eqb own key (λ e. not (sym e))))));
      } in
      (record { grounded = grounded; stays = λ up. absurd (true≢false (sym up)) }, tt)

  module _ (events : List (ℕ × Event)) (c : Chronicle) (bytes : ComeAsBytes events) (runs : Runs start (beginning start) events c) where
    stands : (d : Chronicle) → Past d c → Stands (address_history d)
    stands d p = all_before (AllRest (link_local_key start)) (λ row h all. all.1) (address_history d) (address_history c) (history_past d c p) (stands_run events (beginning start) c (recursion_from_All _ events bytes) runs stands_beginning)

    pub known_behind : (d : Chronicle) (key : ℕ) → Past d c → key ≢ link_local_key start → is_known (story_of d key) ≡ true → is_up start d ≡ true
    known_behind d key p not known = (ground (link_local_key start) (address_history d) (stands d p)).first key not known

    pub own_behind : (d : Chronicle) (address : List ℕ) → Past d c → number_of address ≢ link_local_key start → is_own d address ≡ true → is_up start d ≡ true
    own_behind d address p not own = known_behind d (number_of address) p not (own_known (story_of d (number_of address)) own)

    pub stays_up : (e d : Chronicle) → Past e d → Past d c → is_up start e ≡ true → is_up start d ≡ true
    stays_up e d p q up = still_assigned (link_local_key start) (address_history e) (address_history d) (history_past e d p) (stands d q) up

    pub up_later : (later : List (ℕ × Event)) (d : Chronicle) → ComeAsBytes later → Runs start c later d → is_up start c ≡ true → is_up start d ≡ true
    up_later later d more then up =
        let g = runs_grows start later c d then in
        let past : Past c d = subst (Past c) (sym g.all) (past_below g.newer c) in
        still_assigned (link_local_key start) (address_history c) (address_history d) (history_past c d past)
        (stands_run later c d (recursion_from_All _ later more) then (stands c (past_self c))) up
