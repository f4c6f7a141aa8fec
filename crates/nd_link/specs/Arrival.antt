-- A link receives an event at a moment up to which its nodes have done what was due.
use Rattle.std.specs.Prelude.{◌≡◌, ℕ, ◌∷◌, Option, Some, None}
use Rattle.nd_chronicle.specs.Event as nodes
use Rattle.nd_node.specs.Limits.{usual_limits}
use Rattle.nd_link_log.specs.Log.{Log, Refusal, Carries, Reaches, Refuses, nodes}
use Rattle.nd_link_log.specs.Event.{AddsRows, Event, EventHappens, passing}

-- it is a moment at each node
abbrev pub reached : ℕ → Log → Log
reached now log = passing now (nodes log) (Reaches now ∷ log)

-- it adds what it adds
abbrev pub Happens : ℕ → Event → Log → Log → Type 0
Happens now event log d = EventHappens usual_limits now event (reached now log) d

-- it is refused
abbrev pub IsRefused : ℕ → Refusal → Log → Log → Type 0
IsRefused now why log d = d ≡ Refuses now why ∷ reached now log

-- a frame is carried to a node, if one is
abbrev pub carrying : ℕ → ℕ → Option ℕ → Log → Log
carrying now node None log = log
carrying now node (Some number) log = Carries node now number ∷ log

-- an existing node receives it, as a frame that is carried or not
abbrev pub Arrives : ℕ → ℕ → nodes.Event → Option ℕ → Log → Log → Type 0
Arrives now node event carried log d = AddsRows usual_limits now node event (carrying now node carried (reached now log)) d
