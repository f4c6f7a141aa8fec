-- All events on a link have a log.
use Rattle.std.proofs.Common.{◌≡◌, ℕ, ◌+◌, ◌-◌, ◌≤◌, Bool, true, false, List, [], ◌∷◌, refl, arith}
use Rattle.std.specs.Prelude.{MatchBool, nat_lt}
use Rattle.std.specs.List.{AllByRecursion}
use Rattle.std.proofs.lemmas.Bool.Decides.{nat_tests}
use Rattle.nd_chronicle.specs.Start.{Limits}
use Rattle.nd_link_log.specs.Log.{Log, TooLate, Reaches, Refuses, nodes, last_moment}
use Rattle.nd_link_log.specs.Event.{Event, EventHappens, passing}
use Rattle.nd_link_log.specs.History.{Walk, Runs}
use Rattle.nd_existence.specs.LinkIntervals.{LeavesTime}
use Rattle.nd_existence.proofs.LinkWalking.{IsFine, link_walked}
use Rattle.nd_existence.proofs.LinkAdding.{event_happens, fine_passing, fine_reached}

module _ (limits : Limits) where
  followed_by : (late : Bool) (log : Log) (now : ℕ) (event : Event) → nat_lt now (last_moment log) ≡ late → LeavesTime event → IsFine log
      → (d : Log) × MatchBool late (d ≡ Refuses now (TooLate (last_moment log)) ∷ log)
      ((e : Log) × Walk log (last_moment log) now e × EventHappens limits now event (passing now (nodes e) (Reaches now ∷ e)) d) × IsFine d
  followed_by true log now event is fits fine = (Refuses now (TooLate (last_moment log)) ∷ log, refl, record { numbered = fine.numbered; timed = fine.timed })
  followed_by false log now event is fits fine =
      let last = last_moment log in
      let le : last ≤ now = grind (arith, nat_tests, is) in
      let w = link_walked now (now + 1 - last) log last (omega (arith, le)) fine in
      let passed = passing now (nodes w.0) (Reaches now ∷ w.0) in
      let a = event_happens limits now event passed fits (fine_passing now (Reaches now ∷ w.0) (nodes w.0) (fine_reached now w.0 w.2)) in
      (a.0, (w.0, w.1, a.1), a.2)

  pub run : (events : List (ℕ × Event)) (log : Log) → AllByRecursion (λ event. LeavesTime event.1) events → IsFine log → (d : Log) × Runs limits log events d
  run [] log fits fine = (log, refl)
  run (event ∷ events) log fits fine =
      let f = followed_by (nat_lt event.0 (last_moment log)) log event.0 event.1 refl fits.0 fine in
      let r = run events f.0 fits.1 f.2 in
      (r.0, (f.0, f.1, r.1))
