-- A router that hears of no other node, and is given no command: what comes of the link-local address that it tries.
use Rattle.std.proofs.Common.{◌≡◌, ℕ, suc, ◌+◌, ◌<◌, ◌≤◌, Bool, true, false, List, [], ◌∷◌, Option, Some, None, refl, sym, ◌∙◌, ap, subst, arith, ⊎_elim, inl, inr, eqb}
use Rattle.std.specs.Prelude.{◌&&◌, not, is_some, if◌then◌else◌}
use Rattle.std.proofs.lemmas.Bool.{true≢false, cases_lt, cases_Bool, eqb-true}
use Rattle.std.proofs.Math.Nat.{mul-le-mul_right}
use Rattle.std.proofs.lemmas.Option.{same_Some}
use Rattle.nd_addr.specs.Number.{addr_at}
use Rattle.nd_addr.specs.declared.role.Role.TheVariants.{Router}
use Rattle.nd_compose.specs.Frames.{detection_frame}
use Rattle.nd_neighbour.specs.History as neighbours
use Rattle.nd_neighbour.specs.Story.{is_present}
use Rattle.nd_advertiser.specs.Advertising.{is_on}
use Rattle.nd_advertiser.specs.History as advertising
use Rattle.nd_slaac.specs.State.{step_at, Forming, forming_of, has_conflict, is_assigned, is_known, is_tentative, sent_of, was_assigned}
use Rattle.nd_slaac.specs.Due.{Ends, Solicits, Assigns, IsDue, IsStep, date_by}
use Rattle.nd_slaac.specs.Ends.{valid_end}
use Rattle.nd_slaac.specs.History.{Row, Story, story, Formed, Solicited, Assigned}
use Rattle.nd_slaac.proofs.Steps.{other_story, same_story}
use Rattle.nd_slaac.proofs.Histories.{assigned_tentative}
use Rattle.nd_chronicle.specs.Start.{Start, is_host, link_local_key}
use Rattle.nd_chronicle.specs.Happening.{Chronicle, Happening, Address, Drew, ForReachableTime, LeftRouter, Sent}
use Rattle.nd_chronicle.specs.Histories.{address_history, advertising_history, neighbour_history}
use Rattle.nd_chronicle.specs.OwnAddress.{story_of}
use Rattle.nd_chronicle.specs.InForce.{retrans_timer}
use Rattle.nd_chronicle.specs.History.{beginning, first_delay, with_reachable_time}
use Rattle.nd_chronicle.specs.Due.{What, RouterEnds, AddressFalls, NeighbourFalls, RoutersSolicited, RouterAdvertises, Redraws, Due, comes}
use Rattle.nd_chronicle.proofs.Keeping.{not_both}
use Rattle.nd_link_log.proofs.Timely.{known_by}

-- ---- tests

assigned_by : (assigned : Bool) → (not assigned ≡ true → ⊥) → assigned ≡ true
assigned_by true untried = refl
assigned_by false untried = absurd (untried refl)

held_by : (known conflict assigned : Bool) → known ≡ true → conflict ≡ false → ((known && not conflict && not assigned) ≡ true → ⊥) → (known && not conflict && assigned) ≡ true
held_by known conflict assigned k c untried =
    let both : (b : Bool) → (known && not conflict && b) ≡ b = λ b. ap (λ (x : Bool). x && not conflict && b) k ∙ ap (λ (x : Bool). true && not x && b) c in
    both assigned ∙ assigned_by assigned (λ e. untried (both (not assigned) ∙ e))

no_solicitation : (host few unheard : Bool) (date : Option ℕ) (at : ℕ) → host ≡ false → (if host && few && unheard then date else None) ≡ Some at → ⊥
no_solicitation true few unheard date at router h = true≢false router
no_solicitation false few unheard date at router h = let no : ⊥ = cc in no

no_advertisement : (host on : Bool) (date : Option ℕ) (at : ℕ) → on ≡ false → (if host then None else (if on then date else None)) ≡ Some at → ⊥
no_advertisement true on date at off h = let no : ⊥ = cc in no
no_advertisement false true date at off h = true≢false off
no_advertisement false false date at off h = let no : ⊥ = cc in no

-- ---- rows

-- neither a frame that is sent nor an address that is formed
abbrev pub is_plain : Happening → Bool
is_plain (Sent frame) = false
is_plain (Address key (Formed delay retrans lifetimes)) = false
is_plain _ = true

module _ (start : Start) where
  abbrev pub own : ℕ
  own = link_local_key start

  -- each row is of its link-local address
  abbrev OnlyOwn : List Row → Type 0
  OnlyOwn [] = Unit {0}
  OnlyOwn ((at, key, kind) ∷ history) = (key ≡ own) × OnlyOwn history

  -- so no other address is known
  known_own : (key : ℕ) (history : List Row) → OnlyOwn history → is_known (story key history) ≡ true → key ≡ own
  known_own key [] only known = absurd (true≢false (sym known))
  known_own key ((at, k, kind) ∷ history) only known = elim (cases_Bool (eqb k key)) [
    | inl e ↦ sym (eqb-true k key e) ∙ only.0
    | inr e ↦ known_own key history only.1 (sym (ap is_known (other_story key k at kind history e)) ∙ known)
  ]

  -- how it formed the address
  abbrev pub forming : Forming
  forming = record { at = start.at; delay = first_delay start; retrans = retrans_timer (with_reachable_time start) }

  -- the address is the one that it formed, nobody has it too, and while it is tentative its next step is due at this moment at the earliest
  pub record Alone (c : Chronicle) (m : ℕ) : Type 0 where
    pub neighbours : neighbour_history c ≡ []
    pub off : is_on (advertising_history start c) ≡ false
    pub only : OnlyOwn (address_history c)
    pub formed : forming_of (story_of c own) ≡ Some forming
    pub unrivalled : has_conflict (story_of c own) ≡ false
    pub lasting : valid_end (story_of c own) ≡ None
    pub few : sent_of (story_of c own) ≤ start.transmits
    pub ahead : is_tentative (story_of c own) ≡ true → m ≤ step_at forming (sent_of (story_of c own))

  -- what says nothing to a table leaves it so
  pub alone_same : (c d : Chronicle) (m : ℕ) → neighbour_history d ≡ neighbour_history c → advertising_history start d ≡ advertising_history start c → address_history d ≡ address_history c → Alone c m → Alone d m
  alone_same c d m n o s x = record {
    neighbours = n ∙ x.neighbours;
    off = ap is_on o ∙ x.off;
    only = subst OnlyOwn (sym s) x.only;
    formed = ap (λ (h : List Row). forming_of (story own h)) s ∙ x.formed;
    unrivalled = ap (λ (h : List Row). has_conflict (story own h)) s ∙ x.unrivalled;
    lasting = ap (λ (h : List Row). valid_end (story own h)) s ∙ x.lasting;
    few = subst (λ (h : List Row). sent_of (story own h) ≤ start.transmits) (sym s) x.few;
    ahead = subst (λ (h : List Row). is_tentative (story own h) ≡ true → m ≤ step_at forming (sent_of (story own h))) (sym s) x.ahead;
  }

  pub alone_held_on : (c : Chronicle) (m n : ℕ) → is_assigned (story_of c own) ≡ true → Alone c m → Alone c n
  alone_held_on c m n holds x = record {
    neighbours = x.neighbours;
    off = x.off;
    only = x.only;
    formed = x.formed;
    unrivalled = x.unrivalled;
    lasting = x.lasting;
    few = x.few;
    ahead = λ trying. absurd (let s = story_of c own in not_both (is_known s) (has_conflict s) (was_assigned s) holds trying);
  }

  step_later : (n : ℕ) → step_at forming n ≤ step_at forming (n + 1)
  step_later n = omega arith

  step_within : (n : ℕ) → n ≤ start.transmits → step_at forming n ≤ step_at forming start.transmits
  step_within n le = let more = mul-le-mul_right forming.retrans le in omega (arith, more)

  -- a solicitation is sent
  alone_solicited : (c : Chronicle) (at m : ℕ) → sent_of (story_of c own) < start.transmits → Alone c m → Alone ((at, Sent (detection_frame start.mac (addr_at own))) ∷ (at, Address own Solicited) ∷ c) m
  alone_solicited c at m less x =
      let h = address_history c in
      let s = story own h in
      let is : story own ((at, own, Solicited) ∷ h) ≡ (at, Solicited) ∷ s = same_story own at Solicited h refl in
      record {
        neighbours = x.neighbours;
        off = x.off;
        only = (refl, x.only);
        formed = ap forming_of is ∙ x.formed;
        unrivalled = ap has_conflict is ∙ x.unrivalled;
        lasting = ap valid_end is ∙ x.lasting;
        few = subst (λ (t : Story). sent_of t ≤ start.transmits) (sym is) (omega (arith, less));
        ahead = subst (λ (t : Story). is_tentative t ≡ true → m ≤ step_at forming (sent_of t)) (sym is)
            (λ trying. let le = x.ahead trying in let more = step_later (sent_of s) in omega (arith, le, more));
      }

  -- it is assigned
  alone_assigned : (c : Chronicle) (at m : ℕ) → Alone c m → Alone ((at, Address own Assigned) ∷ c) m
  alone_assigned c at m x =
      let h = address_history c in
      let s = story own h in
      let is : story own ((at, own, Assigned) ∷ h) ≡ (at, Assigned) ∷ s = same_story own at Assigned h refl in
      record {
        neighbours = x.neighbours;
        off = off_still (eqb own own);
        only = (refl, x.only);
        formed = ap forming_of is ∙ x.formed;
        unrivalled = ap has_conflict is ∙ x.unrivalled;
        lasting = ap valid_end is ∙ x.lasting;
        few = subst (λ (t : Story). sent_of t ≤ start.transmits) (sym is) x.few;
        ahead = subst (λ (t : Story). is_tentative t ≡ true → m ≤ step_at forming (sent_of t)) (sym is) (λ trying. absurd (assigned_tentative (is_known s) (has_conflict s) trying));
      }
    where
      off_still : (b : Bool) → is_on (if b then advertising.Assigned at ∷ advertising_history start c else advertising_history start c) ≡ false
      off_still true = x.off
      off_still false = x.off

  -- ---- what is due

  -- a row that is plain and no row of an address; the assignment, behind all solicitations; or a solicitation, not before that moment
  pub data Comes (at m : ℕ) (c d : Chronicle) : Type 0 where
    Idles : (what : Happening) → is_plain what ≡ true → address_history ((at, what) ∷ c) ≡ address_history c → d ≡ (at, what) ∷ c → Comes at m c d
    Gets : start.transmits ≤ sent_of (story_of c own) → d ≡ (at, Address own Assigned) ∷ c → Comes at m c d
    Asks : m ≤ at → d ≡ (at, Sent (detection_frame start.mac (addr_at own))) ∷ (at, Address own Solicited) ∷ c → Comes at m c d

  module _ (router : start.role ≡ Router) (c : Chronicle) (at m : ℕ) (x : Alone c m) where
    abbrev After : What → Type 0
    After what = Comes at m c (comes start at what c) × Alone (comes start at what c) m

    -- its next step is due at the moment
    stepped : IsStep (story_of c own) at → step_at forming (sent_of (story_of c own)) ≡ at
    stepped s = same_Some (step_at forming (sent_of (story_of c own))) at (sym (ap (λ (o : Option Forming). date_by o (sent_of (story_of c own))) x.formed) ∙ s.date)

    trying_own : (key : ℕ) → IsStep (story_of c key) at → key ≡ own
    trying_own key s =
        let t = story_of c key in
        known_own key (address_history c) x.only (known_by (is_known t) (has_conflict t) (was_assigned t) s.tentative)

    asks : IsDue start.transmits (address_history c) at (Solicits own) → After (AddressFalls (Solicits own))
    asks due = (Asks (let e = stepped due.0 in let le = x.ahead due.0.tentative in omega (arith, e, le)) refl, alone_solicited c at m due.1 x)

    gets : IsDue start.transmits (address_history c) at (Assigns own) → After (AddressFalls (Assigns own))
    gets due = (Gets due.1 refl, alone_assigned c at m x)

    pub come : (what : What) → Due start c at (Some what) → After what
    come (RouterEnds key) due = (Idles (LeftRouter key) refl refl refl, alone_same c _ m refl refl refl x)
    come (AddressFalls (Ends key)) due =
        let e = known_own key (address_history c) x.only due.1.due.0 in
        let ends : valid_end (story_of c own) ≡ Some at = subst (λ (k : ℕ). valid_end (story_of c k) ≡ Some at) e due.1.due.1 in
        absurd (let lasts = x.lasting in let no : ⊥ = cc in no)
    come (AddressFalls (Solicits key)) due =
        let e = trying_own key due.1.due.0 in
        subst (λ (k : ℕ). After (AddressFalls (Solicits k))) (sym e) (asks (subst (λ (k : ℕ). IsDue start.transmits (address_history c) at (Solicits k)) e due.1.due))
    come (AddressFalls (Assigns key)) due =
        let e = trying_own key due.1.due.0 in
        subst (λ (k : ℕ). After (AddressFalls (Assigns k))) (sym e) (gets (subst (λ (k : ℕ). IsDue start.transmits (address_history c) at (Assigns k)) e due.1.due))
    come (NeighbourFalls falls) due =
        let there : is_present (neighbours.story due.2.key []) ≡ true = subst (λ (h : List neighbours.Row). is_present (neighbours.story due.2.key h) ≡ true) x.neighbours due.2.due.0 in
        absurd (true≢false (sym there))
    come RoutersSolicited due = absurd (no_solicitation _ _ _ _ at (ap is_host router) due.3)
    come RouterAdvertises due = absurd (no_advertisement _ _ _ at x.off due.4)
    come Redraws due = (Idles (Drew ForReachableTime _) refl refl refl, alone_same c _ m refl refl refl x)

  -- a millisecond passes in which nothing is due
  pub alone_next : (c : Chronicle) (m : ℕ) → Due start c m None → Alone c m → Alone c (suc m)
  alone_next c m due x = record {
    neighbours = x.neighbours;
    off = x.off;
    only = x.only;
    formed = x.formed;
    unrivalled = x.unrivalled;
    lasting = x.lasting;
    few = x.few;
    ahead = λ trying. ⊎_elim (λ less. less) (λ more. absurd (none trying (let le = x.ahead trying in omega (arith, le, more)))) (cases_lt m (step_at forming (sent_of (story_of c own))));
  }
    where
      none : is_tentative (story_of c own) ≡ true → step_at forming (sent_of (story_of c own)) ≡ m → ⊥
      none trying e =
          let s = story_of c own in
          let is : IsStep s m = record { tentative = trying; date = ap (λ (o : Option Forming). date_by o (sent_of s)) x.formed ∙ ap Some e } in
          ⊎_elim (λ less. due.1 (Solicits own) (is, less)) (λ more. due.1 (Assigns own) (is, more)) (cases_lt (sent_of s) start.transmits)

  -- in the end it holds the address
  pub alone_holds : (c : Chronicle) (m : ℕ) → step_at forming start.transmits < m → Alone c m → is_assigned (story_of c own) ≡ true
  alone_holds c m late x =
      let s = story_of c own in
      held_by (is_known s) (has_conflict s) (was_assigned s) (ap is_some x.formed) x.unrivalled
      (λ trying. let le = x.ahead trying in let within = step_within (sent_of s) x.few in absurd (omega (arith, late, le, within)))

  -- ---- the beginning

  begun : story_of (beginning start) own ≡ (start.at, Formed (first_delay start) (retrans_timer (with_reachable_time start)) None) ∷ []
  begun = same_story own start.at (Formed (first_delay start) (retrans_timer (with_reachable_time start)) None) [] refl

  pub alone_begins : Alone (beginning start) (start.at + first_delay start)
  alone_begins = record {
    neighbours = refl;
    off = refl;
    only = (refl, tt);
    formed = ap forming_of begun;
    unrivalled = ap has_conflict begun;
    lasting = ap valid_end begun;
    few = subst (λ (s : Story). sent_of s ≤ start.transmits) (sym begun) (omega arith);
    ahead = subst (λ (s : Story). is_tentative s ≡ true → start.at + first_delay start ≤ step_at forming (sent_of s)) (sym begun) (λ trying. omega arith);
  }

  -- nothing has been sent for it yet
  abbrev pub IsUnasked : Chronicle → Type 0
  IsUnasked c = (is_tentative (story_of c own) ≡ true) × (sent_of (story_of c own) ≡ 0)

  pub unasked_begins : IsUnasked (beginning start)
  unasked_begins = (ap is_tentative begun, ap sent_of begun)

  pub unasked_ends : (c : Chronicle) → Alone c (suc (start.at + first_delay start)) → IsUnasked c → ⊥
  unasked_ends c x u =
      let le = x.ahead u.0 in
      let none : step_at forming (sent_of (story_of c own)) ≡ step_at forming 0 = ap (step_at forming) u.1 in
      absurd (omega (arith, le, none))

  pub unasked_on : (c d : Chronicle) → address_history d ≡ address_history c → IsUnasked c → IsUnasked d
  unasked_on c d s u = (ap (λ (h : List Row). is_tentative (story own h)) s ∙ u.0, ap (λ (h : List Row). sent_of (story own h)) s ∙ u.1)
