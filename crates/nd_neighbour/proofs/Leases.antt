-- A neighbour in a lease: a use changes nothing, and its state lasts.
use Rattle.std.specs.Prelude.{nat_le, nat_lt}
use Rattle.std.proofs.Common.{◌≡◌, ◌<◌, ◌≤◌, ◌+◌, ◌-◌, ℕ, Bool, true, false, cond, eqb, get_or, length, set, List, ◌∷◌, Option, Some, None, refl, sym, ◌∙◌, ap, subst, arith, inl, inr}
use Rattle.std.specs.List.{remove}
use Rattle.std.specs.Option.{option_map}
use Rattle.std.proofs.lemmas.Bool.{cases_Bool, cond-false, cond-true, eqb-true, true≢false}
use Rattle.std.proofs.lemmas.Bool.Decides.{nat_tests}
use Rattle.nd_neighbour.specs.declared.unreachability_detection.Probing.{Probing}
use Rattle.nd_table.specs.DueKept.{NotBefore}
use Rattle.nd_table.proofs.Due.{AtMost-from, NotBefore-set, due_has, due_now, least_at_most}
use Rattle.nd_table.proofs.Keyed.{at_key-set, key_is}
use Rattle.nd_neighbour.specs.Due.{Falls}
use Rattle.nd_neighbour.specs.DueKept.{NoneBefore, Turns, date_of, falls, next_in, solicited, solicited_to, stays}
use Rattle.nd_neighbour.specs.EntryKept.{NeighbourEntry, Stage, Resolving, Known, known_mac}
use Rattle.nd_neighbour.specs.History.{Row, Story, story, Used}
use Rattle.nd_neighbour.specs.LeaseKept.{LeavesLeases, LeavesMacs, leased_to, leased_until, mac_at, outlasts, outlasts_in}
use Rattle.nd_neighbour.specs.ReachabilityConfirmationKept.{confirmed, confirmed_to}
use Rattle.nd_neighbour.specs.SendingKept.{known_used}
use Rattle.nd_neighbour.specs.declared.shown.Reachability.TheVariants.{Reachable, Stale}
use Rattle.nd_neighbour.specs.Shown.{is_leased, state_by, state_of}
use Rattle.nd_neighbour.specs.ShownKept.{left_in, probing_state, state_in}
use Rattle.nd_neighbour.specs.Story.{is_present, mac_of, evidence_of, use_of}
use Rattle.nd_neighbour.specs.AddressResolution.{resolution_of, waiting_of}
use Rattle.nd_neighbour.specs.StoryKept.{entry_of, the_entry}
use Rattle.nd_neighbour.specs.TableKept.{Alters, NotThere, Rises, Stands, There, address, entry_in}
use Rattle.nd_neighbour.specs.Wanting.{IsKnown, then_wanted, wanting_by}
use Rattle.nd_neighbour.specs.WantingKept.{GainsWish, wanting_in, wanting_to, wished, wished_to}
use Rattle.nd_neighbour.proofs.Changes.{when_used_by_wish}
use Rattle.nd_neighbour.proofs.Dues.{known_by}
use Rattle.nd_neighbour.proofs.Forgetting.{state_is}
use Rattle.nd_neighbour.proofs.NewsCalls.{confirmed_key, no_place_needed}
use Rattle.nd_neighbour.proofs.Planning.{solicited_key}
use Rattle.nd_neighbour.proofs.WishCalls.{wanting_by_history, wished_key}
use Rattle.nd_neighbour.proofs.Steps.{entry_present, passing}
use Rattle.nd_neighbour.proofs.Stories.{absent_mac}

-- ---- a use

same_used : (mac : ℕ) (confirmed : Bool) (since : ℕ) (probing : Option Probing) (now retrans : ℕ) (n : NeighbourEntry) → is_leased (state_in (Known mac confirmed since probing) now) ≡ true → known_used mac confirmed since probing now retrans n ≡ n
same_used mac true since None now retrans n leased = grind (arith, nat_tests, leased)
same_used mac false since None now retrans n leased = absurd (true≢false (sym leased))
same_used mac confirmed since (Some p) now retrans n leased = refl

-- a use leaves an entry that isn't STALE
same_wished : (k : Stage) (now retrans : ℕ) (n : NeighbourEntry) → is_leased (state_in k now) ≡ true → wished_to k now retrans n ≡ n
same_wished (Resolving r t b ws) now retrans n leased = absurd (true≢false (sym leased))
same_wished (Known mac c since p) now retrans n leased = same_used mac c since p now retrans n leased

-- it has an address
pub leased_mac : (k : Stage) (now : ℕ) → is_leased (state_in k now) ≡ true → (mac : ℕ) × (known_mac k ≡ Some mac)
leased_mac (Resolving r t b ws) now leased = absurd (true≢false (sym leased))
leased_mac (Known mac c since p) now leased = (mac, refl)

-- what the story says of it then
used_entry : (key now retrans : ℕ) (s : Story) (mac : ℕ) → is_present s ≡ true → mac_of s ≡ Some mac → is_leased (state_in (the_entry key s).stage now) ≡ true → entry_of key ((now, Used retrans) ∷ s) ≡ Some (the_entry key s)
used_entry key now retrans s mac present known leased =
    when_used_by_wish key now s present retrans mac known ∙ ap Some (same_wished (the_entry key s).stage now retrans (the_entry key s) leased)

module _ (entries : List NeighbourEntry) (history : List Row) (now key retrans : ℕ) (s : Stands entries history) (leased : is_leased (state_of (story key history) now) ≡ true) where
  present : is_present (story key history) ≡ true
  present = elim (cases_Bool (is_present (story key history))) [
    | inl there ↦ there
    | inr absent ↦ absurd (true≢false (sym leased ∙ ap (λ (m : Option ℕ). is_leased (state_by m (evidence_of (story key history)) (use_of (story key history)) now)) (absent_mac (story key history) absent)))
  ]

  -- what is kept of it
  kept : entry_in key entries ≡ Some (the_entry key (story key history))
  kept = s.each key ∙ cond-true (is_present (story key history)) _ None present

  kept_leased : is_leased (state_in (the_entry key (story key history)).stage now) ≡ true
  kept_leased = ap is_leased (state_is now (mac_of (story key history)) (evidence_of (story key history)) (use_of (story key history)) (resolution_of (story key history)) (waiting_of (story key history))) ∙ leased

  used_same : (s' : Story) → entry_in key entries ≡ entry_of key s' → entry_of key ((now, Used retrans) ∷ s') ≡ entry_in key entries
  used_same s' e =
      let there = entry_present key s' (the_entry key (story key history)) (sym e ∙ kept) in
      let in_lease : is_leased (state_in (the_entry key s').stage now) ≡ true = subst (λ (n : NeighbourEntry). is_leased (state_in n.stage now) ≡ true) there.1 kept_leased in
      let known = leased_mac (the_entry key s').stage now in_lease in
      used_entry key now retrans s' known.0 there.0 (sym (known_by (mac_of s') (evidence_of s') (use_of s') (resolution_of s') (waiting_of s')) ∙ known.1) in_lease
      ∙ (ap Some (sym there.1) ∙ sym kept)

  pub use_changes_nothing : Stands entries ((now, key, Used retrans) ∷ history)
  use_changes_nothing = (passing entries entries key now (Used retrans) refl used_same refl).stands history s

-- ---- time passes

-- a state that is the same at two moments is the same in between
probing_lasts : (p : Probing) (m t e : ℕ) → m ≤ t → t ≤ e → probing_state (Some p) e ≡ probing_state (Some p) m → probing_state (Some p) t ≡ probing_state (Some p) m
probing_lasts p m t e after before same = grind (arith, nat_tests, after, before, same)

pub state_lasts : (k : Stage) (m t e : ℕ) → m ≤ t → t ≤ e → is_leased (state_in k m) ≡ true → state_in k e ≡ state_in k m → state_in k t ≡ state_in k m
state_lasts (Resolving r n b ws) m t e after before leased same = refl
state_lasts (Known mac false since None) m t e after before leased same = absurd (true≢false (sym leased))
state_lasts (Known mac false since (Some p)) m t e after before leased same = probing_lasts p m t e after before same
state_lasts (Known mac true since None) m t e after before leased same = grind (arith, nat_tests, after, before, leased, same)
state_lasts (Known mac true since (Some p)) m t e after before leased same = grind (arith, nat_tests, after, before, leased, same)

-- and it ends where it did
pub end_lasts : (k : Stage) (m t : ℕ) → state_in k t ≡ state_in k m → option_map (λ left. t + left) (left_in k t) ≡ option_map (λ left. m + left) (left_in k m)
end_lasts (Resolving r n b ws) m t same = refl
end_lasts (Known mac false since p) m t same = refl
end_lasts (Known mac true since None) m t same = grind (arith, nat_tests, same)
end_lasts (Known mac true since (Some p)) m t same = grind (arith, nat_tests, same)

-- ---- a wish

known_wanting : (k : Stage) (mac : ℕ) → known_mac k ≡ Some mac → wanting_to k ≡ IsKnown mac
known_wanting (Resolving r t b ws) mac known = let never : ⊥ = cc in absurd never
known_wanting (Known m c since p) mac known = let same : m ≡ mac = cc in ap (λ (x : ℕ). IsKnown x) same

module _ (entries : List NeighbourEntry) (now key retrans room : ℕ) (n : NeighbourEntry) (found : entry_in key entries ≡ Some n) where
  -- what becomes of a wish for its address
  pub wish_known : (mac : ℕ) → known_mac n.stage ≡ Some mac → (history : List Row) → Stands entries history → IsKnown mac ≡ wanting_by (is_present (story key history)) (mac_of (story key history))
  wish_known mac known history s =
      sym (known_wanting n.stage mac known) ∙ (ap wanting_in (sym found) ∙ wanting_by_history key entries history s)

  -- what the history says of its state
  pub leased_by_history : is_leased (state_in n.stage now) ≡ true → (history : List Row) → Stands entries history → is_leased (state_of (story key history) now) ≡ true
  leased_by_history leased history s =
      let this = story key history in
      let there = entry_present key this n (sym (s.each key) ∙ found) in
      sym (ap is_leased (state_is now (mac_of this) (evidence_of this) (use_of this) (resolution_of this) (waiting_of this))) ∙ subst (λ (m : NeighbourEntry). is_leased (state_in m.stage now) ≡ true) there.1 leased

  -- a wish adds a use, and changes nothing
  pub leased_wish : is_leased (state_in n.stage now) ≡ true → (limit : ℕ) → GainsWish limit now key retrans room entries entries
  leased_wish leased limit = record {
    stands = λ history s.
        let this = story key history in
        let there = entry_present key this n (sym (s.each key) ∙ found) in
        let mac = leased_mac n.stage now leased in
        let known : mac_of this ≡ Some mac.0 = sym (known_by (mac_of this) (evidence_of this) (use_of this) (resolution_of this) (waiting_of this)) ∙ (ap (λ (m : NeighbourEntry). known_mac m.stage) (sym there.1) ∙ mac.1) in (
          history,
          no_place_needed limit now key true history there.0,
          subst (λ (b : Bool). Stands entries (then_wanted b (mac_of this) now key retrans room history)) (sym there.0)
              (subst (λ (o : Option ℕ). Stands entries (then_wanted true o now key retrans room history)) (sym known)
              (use_changes_nothing entries history now key retrans s (leased_by_history leased history s))),
        );
  }

-- ---- the end of a lease

-- a lease ends with the confirmation, or where something is due
pub in_lease : (k : Stage) (m x next due : ℕ) → m ≤ x → next ≤ due → is_leased (state_in k m) ≡ true → x < next → ((left : ℕ) → left_in k m ≡ Some left → x < m + left) → x < leased_to k due
in_lease (Resolving r n b ws) m x next due after le leased before over = absurd (true≢false (sym leased))
in_lease (Known mac false since None) m x next due after le leased before over = absurd (true≢false (sym leased))
in_lease (Known mac false since (Some p)) m x next due after le leased before over = omega (arith, le, before)
in_lease (Known mac true since None) m x next due after le leased before over = elim (cases_Bool (nat_lt m since)) [
  | inl reachable ↦
      let left_is : left_in (Known mac true since None) m ≡ Some (since - m) = cond-true (nat_lt m since) (Some (since - m)) None reachable in
      let lt : x < m + (since - m) = over (since - m) left_is in grind (arith, nat_tests, lt, reachable)
  | inr stale ↦ absurd (true≢false (sym leased ∙ ap is_leased (cond-false (nat_lt m since) Reachable Stale stale)))
]
in_lease (Known mac true since (Some p)) m x next due after le leased before over = omega (arith, le, before)

-- in a lease a neighbour isn't STALE
pub leased_fresh : (k : Stage) (x due : ℕ) → x < leased_to k due → state_in k x ≡ Stale → ⊥
leased_fresh (Resolving r n b ws) x due lt is = cc
leased_fresh (Known mac false since None) x due lt is = omega (arith, lt)
leased_fresh (Known mac false since (Some p)) x due lt is = grind (arith, nat_tests, is)
leased_fresh (Known mac true since None) x due lt is = grind (arith, nat_tests, lt, is)
leased_fresh (Known mac true since (Some p)) x due lt is = grind (arith, nat_tests, is)

-- ---- an entry is changed

module _ (key : ℕ) (old : List NeighbourEntry) (rises : Rises old) (i : ℕ) (n m : NeighbourEntry) (lt : i < length old) (is : n ≡ get_or old i n) (found : entry_in key old ≡ Some n) (same_key : m.key ≡ n.key)
    (same_mac : known_mac m.stage ≡ known_mac n.stage) where
  m_key : m.key ≡ key
  m_key = same_key ∙ key_is address key old n found

  found_then : (k : ℕ) → entry_in k (set old i m) ≡ cond (eqb m.key k) (Some m) (entry_in k old)
  found_then k = at_key-set address k old i m n rises lt (ap address (sym is) ∙ sym same_key)

  -- what holds of it, and of the others as they were, holds
  each : (P : Option NeighbourEntry → Option NeighbourEntry → Type 0) → P (Some n) (Some m) → ((o : Option NeighbourEntry) → P o o) → (k : ℕ) → P (entry_in k old) (entry_in k (set old i m))
  each P it same k = elim (cases_Bool (eqb m.key k)) [
    | inl here ↦
        let k_is : key ≡ k = sym m_key ∙ eqb-true m.key k here in
        subst (λ (o : Option NeighbourEntry). P (entry_in k old) o) (sym (found_then k ∙ cond-true (eqb m.key k) (Some m) (entry_in k old) here))
        (subst (λ (o : Option NeighbourEntry). P o (Some m)) (sym (subst (λ (j : ℕ). entry_in j old ≡ Some n) k_is found)) it)
    | inr other ↦
        subst (λ (o : Option NeighbourEntry). P (entry_in k old) o) (sym (found_then k ∙ cond-false (eqb m.key k) (Some m) (entry_in k old) other)) (same (entry_in k old))
  ]

  -- an entry that keeps its link-layer address leaves them all
  pub change_leaves_macs : LeavesMacs old (set old i m)
  change_leaves_macs = each (λ a b. mac_at b ≡ mac_at a) same_mac (λ o. refl)

  module _ (longer : leased_to n.stage n.due ≤ leased_to m.stage m.due) (later : n.due ≤ m.due) where
    due_later : (now : ℕ) → NoneBefore old now → NoneBefore (set old i m) now
    due_later now none =
        let there : now ≤ n.due = AtMost-from now n.due (next_in old) none (least_at_most address date_of key old n n.due found (omega arith)) in
        NotBefore-set date_of now old i m none (omega (arith, there, later))

    -- one that keeps its lease too leaves these
    pub change_leaves : LeavesLeases old (set old i m)
    change_leaves = record { mac = change_leaves_macs; lease = each (λ a b. leased_until a ≤ leased_until b) longer (λ o. omega arith); due = due_later }

-- ---- a confirmation

module _ (at reachable : ℕ) where
  confirmed_mac : (k : Stage) (n : NeighbourEntry) → n.stage ≡ k → known_mac (confirmed_to k at reachable n).stage ≡ known_mac k
  confirmed_mac (Resolving r t b ws) n is = ap known_mac is
  confirmed_mac (Known mac c since p) n is = refl

  confirmed_lease : (k : Stage) (n : NeighbourEntry) (due : ℕ) → outlasts_in (at + reachable) k due ≡ true
      → leased_to k due ≤ leased_to (confirmed_to k at reachable n).stage (confirmed_to k at reachable n).due
  confirmed_lease (Resolving r t b ws) n due within = omega arith
  confirmed_lease (Known mac c since p) n due within = grind (arith, nat_tests, within)

  confirmed_due : (k : Stage) (n : NeighbourEntry) → outlasts_in (at + reachable) k n.due ≡ true → n.due ≤ (confirmed_to k at reachable n).due
  confirmed_due (Resolving r t b ws) n within = omega arith
  confirmed_due (Known mac c since p) n within = grind (arith, nat_tests, within)

  -- it leaves the leases
  pub confirmed_leaves : (key : ℕ) (old new : List NeighbourEntry) → Rises old → outlasts (at + reachable) (entry_in key old) ≡ true → Alters key (λ n. confirmed at reachable n) old new → LeavesLeases old new
  confirmed_leaves key old new rises within (NotThere none same) =
      subst (λ (l : List NeighbourEntry). LeavesLeases old l) (sym same) (record { mac = λ k. refl; lease = λ k. omega arith; due = λ now none. none })
  confirmed_leaves key old new rises within (There i n lt is found same) =
      let n_within : outlasts_in (at + reachable) n.stage n.due ≡ true = subst (λ (o : Option NeighbourEntry). outlasts (at + reachable) o ≡ true) found within in
      subst (λ (l : List NeighbourEntry). LeavesLeases old l) (sym same)
      (change_leaves key old rises i n (confirmed at reachable n) lt is found (confirmed_key at reachable n n.stage) (confirmed_mac n.stage n refl) (confirmed_lease n.stage n n.due n_within) (confirmed_due n.stage n n_within))

-- ---- a wish for a neighbour that has an entry

module _ (at retrans : ℕ) where
  used_mac : (mac : ℕ) (c : Bool) (since : ℕ) (p : Option Probing) (n : NeighbourEntry) → n.stage ≡ Known mac c since p → known_mac (known_used mac c since p at retrans n).stage ≡ Some mac
  used_mac mac c since None n is = elim (cases_Bool (nat_le since at)) [
    | inl stale ↦ ap (λ (m : NeighbourEntry). known_mac m.stage) (cond-true (nat_le since at) _ n stale)
    | inr reachable ↦ ap (λ (m : NeighbourEntry). known_mac m.stage) (cond-false (nat_le since at) _ n reachable) ∙ ap known_mac is
  ]
  used_mac mac c since (Some p) n is = ap known_mac is

  wished_mac : (k : Stage) (n : NeighbourEntry) → n.stage ≡ k → known_mac (wished_to k at retrans n).stage ≡ known_mac k
  wished_mac (Resolving r t b ws) n is = refl
  wished_mac (Known mac c since p) n is = used_mac mac c since p n is

  -- it leaves the link-layer addresses
  pub wished_leaves : (key : ℕ) (old new : List NeighbourEntry) → Rises old → Alters key (λ n. wished at retrans n) old new → LeavesMacs old new
  wished_leaves key old new rises (NotThere none same) = subst (λ (l : List NeighbourEntry). LeavesMacs old l) (sym same) (λ k. refl)
  wished_leaves key old new rises (There i n lt is found same) =
      subst (λ (l : List NeighbourEntry). LeavesMacs old l) (sym same)
      (change_leaves_macs key old rises i n (wished at retrans n) lt is found (wished_key at retrans n n.stage) (wished_mac n.stage n refl))

-- ---- a solicitation that was due

module _ (now : ℕ) where
  solicited_mac : (k : Stage) (n : NeighbourEntry) → n.stage ≡ k → known_mac (solicited_to k now n).stage ≡ known_mac k
  solicited_mac (Resolving r t b ws) n is = refl
  solicited_mac (Known mac c since None) n is = ap known_mac is
  solicited_mac (Known mac c since (Some p)) n is = refl

  solicited_lease : (k : Stage) (n : NeighbourEntry) → n.stage ≡ k → n.due ≡ now → leased_to k n.due ≤ leased_to (solicited_to k now n).stage (solicited_to k now n).due
  solicited_lease (Resolving r t b ws) n is due = omega arith
  solicited_lease (Known mac c since None) n is due = rw is (omega arith)
  solicited_lease (Known mac c since (Some p)) n is due = omega (arith, due)

  solicited_due : (k : Stage) (n : NeighbourEntry) → n.due ≡ now → n.due ≤ (solicited_to k now n).due
  solicited_due (Resolving r t b ws) n due = omega (arith, due)
  solicited_due (Known mac c since None) n due = omega arith
  solicited_due (Known mac c since (Some p)) n due = omega (arith, due)

  -- it leaves the leases
  pub turned_leaves : (old new : List NeighbourEntry) (what : Falls) → Rises old → Turns now old new what → stays what ≡ true → LeavesLeases old new
  turned_leaves old new what rises t left =
      let n = t.entry in
      let same : new ≡ set old t.at (solicited now n) = t.new_is ∙ cond-true (stays (falls n)) (set old t.at (solicited now n)) (remove old t.at) (ap stays (sym t.falls_is) ∙ left) in
      let date : Some n.due ≡ Some now = due_now date_of now old n t.first in
      let due : n.due ≡ now = cc in
      subst (λ (l : List NeighbourEntry). LeavesLeases old l) (sym same)
      (change_leaves n.key old rises t.at n (solicited now n) t.within t.is (due_has address date_of now old n rises t.first) (solicited_key now n n.stage) (solicited_mac n.stage n refl) (solicited_lease n.stage n refl due)
      (solicited_due n.stage n due))
