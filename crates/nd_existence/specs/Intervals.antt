-- Settings that leave some time between two Router Advertisements (RFC 4861, section 6.2.1: MinRtrAdvInterval "MUST be no less than 3 seconds").
-- With an interval of 0 an advertisement would be due again in the millisecond in which it was sent, without end.
use Rattle.std.specs.Prelude.{◌≡◌, ℕ, ◌<◌, List, [], ◌∷◌}
use Rattle.std.specs.List.{All}
use Rattle.nd_advertiser.specs.Config.{Settings}
use Rattle.nd_chronicle.specs.Happening.{Chronicle, Configured}
use Rattle.nd_chronicle.specs.Event.{Event, Advertises}

-- settings that an event gives have an interval above 0
abbrev pub LeavesTime : Event → Type 0
LeavesTime event = (settings : Settings) → event ≡ Advertises settings → 0 < settings.min_interval

-- the same of events with their moments
abbrev pub LeaveTime : List (ℕ × Event) → Type 0
LeaveTime events = All (λ event. LeavesTime event.1) events

-- and of a chronicle
abbrev pub AreTimed : Chronicle → Type 0
AreTimed [] = Unit {0}
AreTimed ((at, Configured settings) ∷ c) = (0 < settings.min_interval) × AreTimed c
AreTimed ((at, _) ∷ c) = AreTimed c
