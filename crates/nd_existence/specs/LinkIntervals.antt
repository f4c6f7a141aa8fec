-- Settings that leave some time between two Router Advertisements, of the nodes of a link (RFC 4861, section 6.2.1).
use Rattle.std.specs.Prelude.{ℕ, List}
use Rattle.std.specs.List.{All}
use Rattle.nd_existence.specs.Intervals as nodes
use Rattle.nd_link_log.specs.Event.{Event, Comes}

-- settings that an event gives a node have an interval above 0
abbrev pub LeavesTime : Event → Type 0
LeavesTime (Comes node event) = nodes.LeavesTime event
LeavesTime _ = Unit {0}

-- the same of events with their moments
abbrev pub LeaveTime : List (ℕ × Event) → Type 0
LeaveTime events = All (λ event. LeavesTime event.1) events
