-- The log of a link only grows.
use Rattle.std.proofs.Common.{◌≡◌, inr, ℕ, zero, suc, Bool, true, false, List, [], ◌∷◌, ◌++◌, sym, ap, subst, ⊎_elim}
use Rattle.std.specs.Prelude.{◌==◌, nat_lt, MatchBool}
use Rattle.nd_table.specs.History.{Past}
use Rattle.nd_table.proofs.Pasts.{past_self, past_then}
use Rattle.nd_table.proofs.Tests.{by_either}
use Rattle.nd_chronicle.specs.Start.{Limits, Start, no_policies}
use Rattle.nd_chronicle.specs.History.{beginning}
use Rattle.nd_chronicle.specs.Event as chronicle
use Rattle.nd_link_log.specs.Log.{Entry, Log, Refusal, NoNode, NoFrame, Own, Full, TooLate, Begins, Carries, Reaches, Refuses, adding, last_moment, nodes, sent}
use Rattle.nd_link_log.specs.Event.{Event, Passes, Starts, Comes, Delivers, AddsRows, AddsDelivery, EventHappens, max_nodes, passing}
use Rattle.nd_link_log.specs.History.{Runs, Walk, over, adds, passes}
use Rattle.nd_link_log.proofs.Chronicles.{past_with}

walk_past : {log d : Log} {moment end : ℕ} → Walk log moment end d → Past log d
walk_past {log = log} (over lt) = past_self log
walk_past {log = log} {d = d} (adds node start what rows le is due idle gives w) = past_then log (adding node rows log) d (past_with node rows log) (walk_past w)
walk_past (passes le idle w) = walk_past w

past_passing : (now : ℕ) (log : Log) (k : ℕ) → Past log (passing now k log)
past_passing now log zero = past_self log
past_passing now log (suc k) = inr (past_passing now log k)

module _ (limits : Limits) (now : ℕ) (log d : Log) where
  refused : (why : Refusal) → d ≡ Refuses now why ∷ log → Past log d
  refused why same = subst (Past log) (sym same) (inr (past_self log))

  rows_past : (node : ℕ) (event : chronicle.Event) (before : Log) → Past log before → AddsRows limits now node event before d → Past log d
  rows_past node event before p r = subst (Past log) (sym r.all) (past_then log before (adding node r.rows before) p (past_with node r.rows before))

  delivery_past : (node number : ℕ) → AddsDelivery limits now node number log d → Past log d
  delivery_past node number r = by_either (r.sender == node) (refused Own) (rows_past node (chronicle.Receives r.frame) (Carries node now number ∷ log) (inr (past_self log))) r.adds

  happens_past : (event : Event) → EventHappens limits now event log d → Past log d
  happens_past Passes h = subst (Past log) (sym h) (past_self log)
  happens_past (Starts role mac transmits stream) h = by_either (nat_lt (nodes log) max_nodes)
      (λ same.
      let start : Start = record { at = now; role = role; mac = mac; transmits = transmits; stream = stream; limits = limits; policies = no_policies } in
      let begun : Log = Begins (nodes log) start ∷ log in
      subst (Past log) (sym same) (past_then log begun (adding (nodes log) (beginning start) begun) (inr (past_self log)) (past_with (nodes log) (beginning start) begun)))
      (refused Full) h
  happens_past (Comes node event) h = by_either (nat_lt node (nodes log)) (rows_past node event log (past_self log)) (refused NoNode) h
  happens_past (Delivers node number) h = by_either (nat_lt node (nodes log))
      (λ there. by_either (nat_lt number (sent log)) (delivery_past node number) (refused NoFrame) there) (refused NoNode) h

module _ (limits : Limits) where
  follows_past : (log : Log) (now : ℕ) (event : Event) (d : Log) (t : Bool)
      → MatchBool t (d ≡ Refuses now (TooLate (last_moment log)) ∷ log) ((e : Log) × Walk log (last_moment log) now e × EventHappens limits now event (passing now (nodes e) (Reaches now ∷ e)) d)
      → Past log d
  follows_past log now event d true h = subst (Past log) (sym h) (inr (past_self log))
  follows_past log now event d false h =
      let reached : Log = Reaches now ∷ h.0 in
      let passed : Log = passing now (nodes h.0) reached in
      past_then log h.0 d (walk_past h.1) (past_then h.0 reached d (inr (past_self h.0)) (past_then reached passed d (past_passing now reached (nodes h.0)) (happens_past limits now passed d event h.2)))

  pub runs_past : (events : List (ℕ × Event)) (log d : Log) → Runs limits log events d → Past log d
  runs_past [] log d h = subst (Past log) (sym h) (past_self log)
  runs_past (event ∷ events) log d h = past_then log h.0 d (follows_past log event.0 event.1 h.0 (nat_lt event.0 (last_moment log)) h.1) (runs_past events h.0 d h.2)

-- what it was lies below
pub newer_of : (log d : Log) → Past log d → (newer : List Entry) × (d ≡ newer ++ log)
newer_of log [] p = ([], sym p)
newer_of log (entry ∷ d) p = ⊎_elim (λ same. ([], sym same)) (λ below. let n = newer_of log d below in (entry ∷ n.0, ap (λ (x : Log). entry ∷ x) n.1)) p
