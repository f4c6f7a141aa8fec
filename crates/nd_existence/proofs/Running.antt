-- Each history has a chronicle.
use Rattle.std.proofs.Common.{◌≡◌, ℕ, ◌+◌, ◌-◌, ◌≤◌, Bool, true, false, List, [], ◌∷◌, refl, arith}
use Rattle.std.specs.Prelude.{MatchBool, nat_lt}
use Rattle.std.specs.List.{AllByRecursion}
use Rattle.std.proofs.lemmas.Bool.Decides.{nat_tests}
use Rattle.nd_chronicle.specs.Start.{Start}
use Rattle.nd_chronicle.specs.Happening.{Chronicle, Passed, TooLate, last_moment}
use Rattle.nd_chronicle.specs.Event.{Event, EventAdds}
use Rattle.nd_chronicle.specs.History.{Walk, Follows, Runs}
use Rattle.nd_existence.specs.Intervals.{AreTimed, LeavesTime}
use Rattle.nd_existence.proofs.Walking.{walked}
use Rattle.nd_existence.proofs.Adding.{event_adds}
use Rattle.nd_existence.proofs.Timing.{event_timed}

module _ (start : Start) where
  -- after an event there is a chronicle
  followed_by : (late : Bool) (c : Chronicle) (now : ℕ) (event : Event) → nat_lt now (last_moment start.at c) ≡ late → LeavesTime event → AreTimed c
      → (d : Chronicle) × MatchBool late (d ≡ (now, TooLate (last_moment start.at c)) ∷ c)
      ((e : Chronicle) × Walk start c (last_moment start.at c) now e × EventAdds start now event ((now, Passed) ∷ e) d) × AreTimed d
  followed_by true c now event is fits t = ((now, TooLate (last_moment start.at c)) ∷ c, refl, t)
  followed_by false c now event is fits t =
      let last = last_moment start.at c in
      let le : last ≤ now = grind (arith, nat_tests, is) in
      let w = walked start now (now + 1 - last) c last (omega (arith, le)) t in
      let a = event_adds start ((now, Passed) ∷ w.0) now event in
      (a.0, (w.0, w.1, a.1), event_timed start now ((now, Passed) ∷ w.0) event a.0 fits a.1 w.2)

  pub followed : (c : Chronicle) (now : ℕ) (event : Event) → LeavesTime event → AreTimed c → (d : Chronicle) × Follows start c now event d × AreTimed d
  followed c now event fits t = followed_by (nat_lt now (last_moment start.at c)) c now event refl fits t

  pub run : (events : List (ℕ × Event)) (c : Chronicle) → AllByRecursion (λ event. LeavesTime event.1) events → AreTimed c → (d : Chronicle) × Runs start c events d × AreTimed d
  run [] c fits t = (c, refl, t)
  run (event ∷ events) c fits t =
      let f = followed c event.0 event.1 fits.0 t in
      let r = run events f.0 fits.1 f.2 in
      (r.0, (f.0, f.1, r.1), r.2)
