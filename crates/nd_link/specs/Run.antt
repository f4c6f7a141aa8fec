-- Events that a link receives, one after the other.
use Rattle.std.specs.Prelude.{◌≡◌, ℕ, List, [], ◌∷◌, ◌++◌}
use Rattle.nd_node.specs.Limits.{usual_limits}
use Rattle.nd_link_log.specs.Log.{Log}
use Rattle.nd_link_log.specs.Event.{Event, Delivers}
use Rattle.nd_link_log.specs.History.{Follows, Runs}
use Rattle.nd_link.specs.Time.{Onward, Passes}

-- what follows from the event
abbrev pub FollowsBy : ℕ → Event → Log → Log → Type 0
FollowsBy now event log d = Follows usual_limits log now event d

-- a frame is carried to a node
abbrev pub IsDelivery : Event → Type 0
IsDelivery (Delivers node frame) = Unit {0}
IsDelivery _ = ⊥

-- what follows from the events
abbrev pub RunsBy : List (ℕ × Event) → Log → Log → Type 0
RunsBy events log d = Runs usual_limits log events d

-- the events before this one came, and led to this log
pub record ComesNext (events : List (ℕ × Event)) (log : Log) (event : ℕ × Event) (before : Log) : Type 0 where
  pub first : List (ℕ × Event)
  pub later : List (ℕ × Event)
  pub split : events ≡ first ++ event ∷ later
  pub runs : Runs usual_limits log first before

-- What follows where the link ran out of memory, or its wire failed, at one of the events: the events before it came, and a part of the time up to
-- its own moment has passed. Nothing else has come. Where there is no event, nothing follows.
abbrev pub RunsInPart : List (ℕ × Event) → Log → Log → Type 0
RunsInPart [] log d = d ≡ log
RunsInPart (head ∷ tail) log d = (event : ℕ × Event) × (before : Log) × ComesNext (head ∷ tail) log event before × Onward event.0 before d

-- What follows where its wire failed to carry the frame of one of the events: the events before it came, and all the time up to its own moment has
-- passed. Nothing else has come.
abbrev pub RunsUpTo : List (ℕ × Event) → Log → Log → Type 0
RunsUpTo events log d = (event : ℕ × Event) × (before : Log) × ComesNext events log event before × IsDelivery event.1 × Passes event.0 before d
