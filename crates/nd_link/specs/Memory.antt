-- Which events a link takes whatever memory there is, where nothing is due up to them: those that come to no node.
use Rattle.std.specs.Prelude.{ℕ, ◌≤◌, ◌∷◌}
use Rattle.nd_link_log.specs.Log.{Log, Refusal, Refuses}
use Rattle.nd_link_log.specs.Event.{Event, Passes}
use Rattle.nd_link.specs.Arrival.{Happens, reached}

-- time passes, or the link refuses the event, and there is a place for its reason
abbrev pub AsksForNone : ℕ → Log → Event → ℕ → Type 0
AsksForNone now log Passes places = Unit {0}
AsksForNone now log event places = (why : Refusal) × Happens now event log (Refuses now why ∷ reached now log) × (1 ≤ places)
