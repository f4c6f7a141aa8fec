-- Which chronicle a history has: a list of events with their moments. Each millisecond is walked, and each question looks back over all that
-- happened.
use Rattle.std.specs.Prelude.{◌≡◌, ℕ, suc, ◌<◌, ◌≤◌, nat_lt, MatchBool, List, [], ◌∷◌, Some, None}
use Rattle.nd_slaac.specs.History as addresses
use Rattle.nd_chronicle.specs.Start.{Start, link_local_key}
use Rattle.nd_chronicle.specs.Happening.{Chronicle, Passed, Drew, ForReachableTime, ForDelay, Address, TooLate, last_moment}
use Rattle.nd_chronicle.specs.InForce.{base_reachable_time, retrans_timer}
use Rattle.nd_chronicle.specs.Generator.{stream_left, reachable_drawn, delay_drawn}
use Rattle.nd_chronicle.specs.Due.{What, Due, comes}
use Rattle.nd_chronicle.specs.Event.{Event, EventAdds}

module _ (start : Start) where
  -- ---- the start (RFC 4861, section 6.3.2; RFC 4862, sections 5.3 and 5.4.2)

  -- ReachableTime is drawn
  abbrev pub with_reachable_time : Chronicle
  with_reachable_time = (start.at, Drew ForReachableTime (reachable_drawn (base_reachable_time []) (stream_left start []))) ∷ []

  -- then the delay of the first solicitation for the link-local address
  abbrev pub first_delay : ℕ
  first_delay = delay_drawn (stream_left start with_reachable_time)

  -- and that is formed
  abbrev pub beginning : Chronicle
  beginning =
      (start.at, Address (link_local_key start) (addresses.Formed first_delay (retrans_timer with_reachable_time) None))
      ∷ (start.at, Drew ForDelay first_delay) ∷ with_reachable_time

  -- ---- time

  -- From the moment on up to the last one, each millisecond adds what is due in it, until nothing is.
  pub data Walk : Chronicle → ℕ → ℕ → Chronicle → Type 0 where
    over : {c : Chronicle} {moment end : ℕ} → end < moment → Walk c moment end c
    adds : {c d : Chronicle} {moment end : ℕ} (what : What) → moment ≤ end → Due start c moment (Some what) → Walk (comes start moment what c) moment end d → Walk c moment end d
    passes : {c d : Chronicle} {moment end : ℕ} → moment ≤ end → Due start c moment None → Walk c (suc moment) end d → Walk c moment end d

  -- ---- events

  -- The milliseconds up to an event come first, its own included; then it adds what it adds. One that is too late is only reported as past.
  abbrev pub Follows : Chronicle → ℕ → Event → Chronicle → Type 0
  Follows c now event d =
      MatchBool (nat_lt now (last_moment start.at c))
      (d ≡ (now, TooLate (last_moment start.at c)) ∷ c)
      ((e : Chronicle) × Walk c (last_moment start.at c) now e × EventAdds start now event ((now, Passed) ∷ e) d)

  -- the whole history, from a chronicle on
  abbrev pub Runs : Chronicle → List (ℕ × Event) → Chronicle → Type 0
  Runs c [] d = d ≡ c
  Runs c (event ∷ events) d = (e : Chronicle) × Follows c event.0 event.1 e × Runs e events d

  -- it is the chronicle of the history
  abbrev pub IsChronicle : List (ℕ × Event) → Chronicle → Type 0
  IsChronicle events c = Runs beginning events c
