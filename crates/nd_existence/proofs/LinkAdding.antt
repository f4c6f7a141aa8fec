-- Each event on a link adds something.
use Rattle.std.proofs.Common.{◌≡◌, ℕ, zero, suc, ◌<◌, Bool, true, false, List, [], ◌∷◌, ◌++◌, Option, Some, refl, subst, arith, inl, inr}
use Rattle.std.specs.Prelude.{◌==◌, nat_lt, MatchBool}
use Rattle.std.proofs.lemmas.Bool.{cond_both}
use Rattle.std.proofs.lemmas.Bool.Decides.{nat_tests, eqb_tells}
use Rattle.std.proofs.lemmas.Option.{same_Some}
use Rattle.nd_chronicle.specs.Start.{Limits, Start, no_policies}
use Rattle.nd_chronicle.specs.Happening.{Chronicle, Passed, Sent}
use Rattle.nd_chronicle.specs.History.{beginning}
use Rattle.nd_chronicle.specs.Event as chronicle
use Rattle.nd_chronicle.specs.Event.{EventAdds}
use Rattle.nd_chronicle.proofs.Growth.{event_grows}
use Rattle.nd_link_log.specs.Log.{Entry, Log, NoNode, NoFrame, Own, Full, Begins, Adds, Carries, Reaches, Refuses, nodes, start_of, chronicle_of, adding, sent, IsFrame}
use Rattle.nd_link_log.specs.Event.{Event, Passes, Starts, Comes, Delivers, max_nodes, passing, AddsRows, AddsDelivery, EventHappens}
use Rattle.nd_link_log.proofs.Nodes.{Numbered, is_there}
use Rattle.nd_existence.specs.Intervals as nodes
use Rattle.nd_existence.specs.Intervals.{AreTimed}
use Rattle.nd_existence.proofs.Adding.{event_adds}
use Rattle.nd_existence.proofs.Timing.{event_timed}
use Rattle.nd_existence.specs.LinkIntervals.{LeavesTime}
use Rattle.nd_existence.proofs.LinkWalking.{IsFine, there_is, fine_with}

-- ---- frames

pub record Found (log : Log) (number : ℕ) : Type 0 where
  pub sender : ℕ
  pub at : ℕ
  pub frame : List ℕ
  pub is : IsFrame log number sender at frame

further : (entry : Entry) (log : Log) (number : ℕ) → Found log number → Found (entry ∷ log) number
further entry log number f = record { sender = f.sender; at = f.at; frame = f.frame; is = record { before = f.is.before; there = inr f.is.there; number_is = f.is.number_is } }

-- each number below that of the next frame names one
found : (log : Log) (number : ℕ) → number < sent log → Found log number
found [] number lt = absurd (omega (arith, lt))
found (Adds node at (Sent frame) ∷ log) number lt = elim (eqb_tells (sent log) number) [
  | inl e ↦ record { sender = node; at = at; frame = frame; is = record { before = log; there = inl refl; number_is = e.1 } }
  | inr d ↦ further (Adds node at (Sent frame)) log number (found log number (let other = d.1 in grind (arith, nat_tests, other, lt)))
]
found (Adds node at what ∷ log) number lt = further (Adds node at what) log number (found log number lt)
found (Begins node start ∷ log) number lt = further (Begins node start) log number (found log number lt)
found (Carries node at carried ∷ log) number lt = further (Carries node at carried) log number (found log number lt)
found (Reaches at ∷ log) number lt = further (Reaches at) log number (found log number lt)
found (Refuses at why ∷ log) number lt = further (Refuses at why) log number (found log number lt)

-- ---- a log stays fine

pub fine_passing : (now : ℕ) (log : Log) (k : ℕ) → IsFine log → IsFine (passing now k log)
fine_passing now log zero fine = fine
fine_passing now log (suc k) fine =
    let before = fine_passing now log k fine in
    record {
      numbered = before.numbered;
      timed = λ i. cond_both (k == i) ((now, Passed) ∷ chronicle_of i (passing now k log)) (chronicle_of i (passing now k log)) AreTimed (λ own. before.timed i) (λ other. before.timed i);
    }

pub fine_reached : (now : ℕ) (log : Log) → IsFine log → IsFine (Reaches now ∷ log)
fine_reached now log fine = record { numbered = fine.numbered; timed = fine.timed }

-- a node that begins leaves the log fine
pub fine_begun : (node : ℕ) (start : Start) (log : Log) → Numbered (Begins node start ∷ log) → IsFine log → IsFine (Begins node start ∷ log)
fine_begun node start log numbered fine = record { numbered = numbered; timed = fine.timed }

module _ (limits : Limits) (now : ℕ) where
  abbrev Adds' : (Log → Type 0) → Type 0
  Adds' A = (d : Log) × A d × IsFine d

  -- ---- rows of a node

  rows_added : (i : ℕ) (event : chronicle.Event) (log : Log) → IsFine log → i < nodes log → nodes.LeavesTime event → Adds' (AddsRows limits now i event log)
  rows_added i event log fine lt fits =
      let s = there_is (start_of i log) (is_there i log fine.numbered lt) in
      let c = chronicle_of i log in
      let a = event_adds s.0 c now event in
      let g = event_grows s.0 now c event a.0 a.1 in
      let timed : AreTimed (g.newer ++ c) = subst AreTimed g.all (event_timed s.0 now c event a.0 fits a.1 (fine.timed i)) in (
        adding i g.newer log,
        record {
          start = s.0;
          starts = s.1;
          rows = g.newer;
          adds = subst (λ (d : Chronicle). EventAdds s.0 now event c d) g.all a.1;
          all = refl;
        },
        fine_with i g.newer log fine timed,
      )

  refused : (why : _) (log : Log) → IsFine log → IsFine (Refuses now why ∷ log)
  refused why log fine = record { numbered = fine.numbered; timed = fine.timed }

  -- ---- a delivery

  delivered_by : (own : Bool) (i number : ℕ) (frame : List ℕ) (log : Log) → IsFine log → i < nodes log
      → Adds' (λ d. MatchBool own (d ≡ Refuses now Own ∷ log) (AddsRows limits now i (chronicle.Receives frame) (Carries i now number ∷ log) d))
  delivered_by true i number frame log fine lt = (Refuses now Own ∷ log, refl, refused Own log fine)
  delivered_by false i number frame log fine lt =
      rows_added i (chronicle.Receives frame) (Carries i now number ∷ log) (record { numbered = fine.numbered; timed = fine.timed }) lt (λ settings e. let never : ⊥ = cc in absurd never)

  delivered : (t : Bool) (i number : ℕ) (log : Log) → nat_lt number (sent log) ≡ t → IsFine log → i < nodes log
      → Adds' (λ d. MatchBool t (AddsDelivery limits now i number log d) (d ≡ Refuses now NoFrame ∷ log))
  delivered true i number log is fine lt =
      let f = found log number (grind (arith, nat_tests, is)) in
      let d = delivered_by (f.sender == i) i number f.frame log fine lt in
      (d.0, record { sender = f.sender; at = f.at; frame = f.frame; is_frame = f.is; adds = d.1 }, d.2)
  delivered false i number log is fine lt = (Refuses now NoFrame ∷ log, refl, refused NoFrame log fine)

  -- ---- a node that may not be there

  if_there : (t : Bool) (i : ℕ) (log : Log) (A : Log → Type 0) → nat_lt i (nodes log) ≡ t → IsFine log → (i < nodes log → Adds' A)
      → Adds' (λ d. MatchBool t (A d) (d ≡ Refuses now NoNode ∷ log))
  if_there true i log A is fine f = f (grind (arith, nat_tests, is))
  if_there false i log A is fine f = (Refuses now NoNode ∷ log, refl, refused NoNode log fine)

  -- ---- a node starts

  started : (t : Bool) (start : Start) (log : Log) → IsFine log
      → Adds' (λ d. MatchBool t (d ≡ adding (nodes log) (beginning start) (Begins (nodes log) start ∷ log)) (d ≡ Refuses now Full ∷ log))
  started true start log fine =
      let before = fine_begun (nodes log) start log (refl, fine.numbered) fine in
      (adding (nodes log) (beginning start) (Begins (nodes log) start ∷ log), refl, fine_with (nodes log) (beginning start) (Begins (nodes log) start ∷ log) before (fine.timed (nodes log)))
  started false start log fine = (Refuses now Full ∷ log, refl, refused Full log fine)

  -- ---- the event

  pub event_happens : (event : Event) (log : Log) → LeavesTime event → IsFine log → Adds' (EventHappens limits now event log)
  event_happens Passes log fits fine = (log, refl, fine)
  event_happens (Starts role mac transmits stream) log fits fine =
      started (nat_lt (nodes log) max_nodes) (record { at = now; role = role; mac = mac; transmits = transmits; stream = stream; limits = limits; policies = no_policies }) log fine
  event_happens (Comes i event) log fits fine =
      if_there (nat_lt i (nodes log)) i log (AddsRows limits now i event log) refl fine (λ lt. rows_added i event log fine lt fits)
  event_happens (Delivers i number) log fits fine =
      if_there (nat_lt i (nodes log)) i log (λ d. MatchBool (nat_lt number (sent log)) (AddsDelivery limits now i number log d) (d ≡ Refuses now NoFrame ∷ log)) refl fine
      (λ lt. delivered (nat_lt number (sent log)) i number log refl fine lt)
