-- A link has at most so many nodes as it may have.
use Rattle.std.proofs.Common.{◌≡◌, ℕ, zero, suc, ◌<◌, ◌≤◌, Bool, true, false, List, [], ◌∷◌, refl, sym, ◌∙◌, ap, subst, arith}
use Rattle.std.specs.Prelude.{◌==◌, nat_lt, MatchBool}
use Rattle.std.proofs.lemmas.Bool.{ltb-true}
use Rattle.nd_chronicle.specs.Start.{Limits, Start, no_policies}
use Rattle.nd_chronicle.specs.History.{beginning}
use Rattle.nd_chronicle.specs.Event as chronicle
use Rattle.nd_link_log.specs.Log.{Log, Refusal, NoNode, NoFrame, Own, Full, TooLate, Begins, Carries, Reaches, Refuses, adding, last_moment, nodes, sent}
use Rattle.nd_link_log.specs.Event.{Event, Passes, Starts, Comes, Delivers, AddsRows, AddsDelivery, EventHappens, max_nodes, passing}
use Rattle.nd_link_log.specs.History.{Runs, Walk, over, adds, passes}
use Rattle.nd_link_log.proofs.Chronicles.{nodes_with}

abbrev Few : Log → Type 0
Few log = nodes log ≤ max_nodes

pub few_walk : {log d : Log} {moment end : ℕ} → Walk log moment end d → nodes d ≡ nodes log
few_walk (over lt) = refl
few_walk {log = log} (adds node start what rows le is due idle gives w) = few_walk w ∙ nodes_with node rows log
few_walk (passes le idle w) = few_walk w

pub few_passing : (now : ℕ) (log : Log) (k : ℕ) → nodes (passing now k log) ≡ nodes log
few_passing now log zero = refl
few_passing now log (suc k) = few_passing now log k

module _ (limits : Limits) (now : ℕ) (log d : Log) (few : Few log) where
  few_same : nodes d ≡ nodes log → Few d
  few_same same = subst (λ (n : ℕ). n ≤ max_nodes) (sym same) few

  few_refused : (why : Refusal) → d ≡ Refuses now why ∷ log → Few d
  few_refused why same = few_same (ap nodes same)

  few_rows : (node : ℕ) (event : chronicle.Event) (before : Log) → nodes before ≡ nodes log → AddsRows limits now node event before d → Few d
  few_rows node event before same r = few_same (ap nodes r.all ∙ (nodes_with node r.rows before ∙ same))

  few_delivery : (t : Bool) (node number : ℕ) (frame : List ℕ) → MatchBool t (d ≡ Refuses now Own ∷ log) (AddsRows limits now node (chronicle.Receives frame) (Carries node now number ∷ log) d) → Few d
  few_delivery true node number frame h = few_refused Own h
  few_delivery false node number frame h = few_rows node (chronicle.Receives frame) (Carries node now number ∷ log) refl h

  few_delivers : (t : Bool) (node number : ℕ) → MatchBool t (AddsDelivery limits now node number log d) (d ≡ Refuses now NoFrame ∷ log) → Few d
  few_delivers true node number h = few_delivery (h.sender == node) node number h.frame h.adds
  few_delivers false node number h = few_refused NoFrame h

  few_there : (t : Bool) (A : Type 0) → (A → Few d) → MatchBool t A (d ≡ Refuses now NoNode ∷ log) → Few d
  few_there true A from h = from h
  few_there false A from h = few_refused NoNode h

  few_started : (t : Bool) (start : Start) → nat_lt (nodes log) max_nodes ≡ t
      → MatchBool t (d ≡ adding (nodes log) (beginning start) (Begins (nodes log) start ∷ log)) (d ≡ Refuses now Full ∷ log) → Few d
  few_started true start less h =
      let lt : nodes log < max_nodes = ltb-true (nodes log) max_nodes less in
      subst Few (sym h) (subst (λ (n : ℕ). n ≤ max_nodes) (sym (nodes_with (nodes log) (beginning start) (Begins (nodes log) start ∷ log))) (omega (arith, lt)))
  few_started false start less h = few_refused Full h

  few_happens : (event : Event) → EventHappens limits now event log d → Few d
  few_happens Passes h = few_same (ap nodes h)
  few_happens (Starts role mac transmits stream) h =
      few_started (nat_lt (nodes log) max_nodes) (record { at = now; role = role; mac = mac; transmits = transmits; stream = stream; limits = limits; policies = no_policies }) refl h
  few_happens (Comes node event) h = few_there (nat_lt node (nodes log)) _ (few_rows node event log refl) h
  few_happens (Delivers node number) h = few_there (nat_lt node (nodes log)) _ (few_delivers (nat_lt number (sent log)) node number) h

module _ (limits : Limits) where
  few_follows : (log : Log) (now : ℕ) (event : Event) (d : Log) (t : Bool) → Few log
      → MatchBool t (d ≡ Refuses now (TooLate (last_moment log)) ∷ log) ((e : Log) × Walk log (last_moment log) now e × EventHappens limits now event (passing now (nodes e) (Reaches now ∷ e)) d)
      → Few d
  few_follows log now event d true few h = subst Few (sym h) few
  few_follows log now event d false few h =
      let passed : Log = passing now (nodes h.0) (Reaches now ∷ h.0) in
      few_happens limits now passed d (subst (λ (n : ℕ). n ≤ max_nodes) (sym (few_passing now (Reaches now ∷ h.0) (nodes h.0) ∙ few_walk h.1)) few) event h.2

  pub few_runs : (events : List (ℕ × Event)) (log d : Log) → Few log → Runs limits log events d → Few d
  few_runs [] log d few h = subst Few (sym h) few
  few_runs (event ∷ events) log d few h = few_runs events h.0 d (few_follows log event.0 event.1 h.0 (nat_lt event.0 (last_moment log)) few h.1) h.2
