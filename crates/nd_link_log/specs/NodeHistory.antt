-- The history that a node of a link lives: which event of its own each event of the link is.
use Rattle.std.specs.Prelude.{◌≡◌, ◌≢◌, ◌⊎◌, ◌<◌, ◌≤◌, ℕ, List, [], ◌∷◌, Some, None}
use Rattle.nd_chronicle.specs.Start.{Limits, Start}
use Rattle.nd_chronicle.specs.Event as nodes
use Rattle.nd_link_log.specs.Log.{Log, IsFrame, Reaches, Refuses, TooLate, last_moment, nodes, start_of}
use Rattle.nd_link_log.specs.Event.{Event, Passes, Starts, Comes, Delivers, EventHappens, passing}
use Rattle.nd_link_log.specs.History.{Walk}

-- the event is neither for the node nor carries another node's frame to it
abbrev pub PassesBy : ℕ → Log → Event → Type 0
PassesBy node log Passes = Unit {0}
PassesBy node log (Starts role mac transmits stream) = Unit {0}
PassesBy node log (Comes other event) = other ≢ node
PassesBy node log (Delivers other number) = (other ≢ node) ⊎ ((sender at : ℕ) (frame : List ℕ) → IsFrame log number sender at frame → sender ≡ node)

-- what an event of the link is to a node that is there: its own event, a frame that is carried to it, and else time that passes
pub data IsToNode (node : ℕ) (log : Log) : Event → nodes.Event → Type 0 where
  Its : {event : nodes.Event} → IsToNode node log (Comes node event) event
  Carried : {number sender at : ℕ} {frame : List ℕ} → IsFrame log number sender at frame → sender ≢ node → IsToNode node log (Delivers node number) (nodes.Receives frame)
  Elsewhere : {event : Event} → PassesBy node log event → IsToNode node log event nodes.Passes

module _ (limits : Limits) (node : ℕ) where
  -- From one log to another by these events, the node lives this history: it has none before it starts, an event that is too late for the
  -- link is none, and each other one is an event of the node at its moment.
  pub data IsHistoryOf : Log → List (ℕ × Event) → List (ℕ × nodes.Event) → Log → Type 0 where
    Over : {log : Log} → IsHistoryOf log [] [] log
    IsLate : {log d : Log} {now : ℕ} {event : Event} {events : List (ℕ × Event)} {history : List (ℕ × nodes.Event)} → now < last_moment log
        → IsHistoryOf (Refuses now (TooLate (last_moment log)) ∷ log) events history d → IsHistoryOf log ((now, event) ∷ events) history d
    IsBefore : {log over e d : Log} {now : ℕ} {event : Event} {events : List (ℕ × Event)} {history : List (ℕ × nodes.Event)} → last_moment log ≤ now
        → start_of node log ≡ None → Walk log (last_moment log) now over → EventHappens limits now event (passing now (nodes over) (Reaches now ∷ over)) e
        → IsHistoryOf e events history d → IsHistoryOf log ((now, event) ∷ events) history d
    IsThere : {log over e d : Log} {now : ℕ} {event : Event} {events : List (ℕ × Event)} {start : Start} {what : nodes.Event} {history : List (ℕ × nodes.Event)} → last_moment log ≤ now
        → start_of node log ≡ Some start → Walk log (last_moment log) now over → EventHappens limits now event (passing now (nodes over) (Reaches now ∷ over)) e
        → IsToNode node (passing now (nodes over) (Reaches now ∷ over)) event what → IsHistoryOf e events history d
        → IsHistoryOf log ((now, event) ∷ events) ((now, what) ∷ history) d
