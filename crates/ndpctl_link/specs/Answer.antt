-- What the answer of a link to one event is.
use Rattle.std.specs.Prelude.{◌≡◌, ℕ, List, ◌++◌}
use Rattle.rand_core.specs.Stream.{Stream}
use Rattle.nd_node.specs.Limits.{usual_limits}
use Rattle.nd_wire.specs.Wire.{IsFaithful}
use Rattle.nd_link_log.specs.Log.{Log}
use Rattle.nd_link_log.specs.Bytes.{IsOfBytes}
use Rattle.nd_link_log.specs.Event.{Event}
use Rattle.nd_link_log.specs.History.{Follows}
use Rattle.nd_link_log.specs.Told.{text}
use Rattle.nd_link.specs.declared.link.Link.{Link}
use Rattle.nd_link.specs.Link.{Stands}
use Rattle.nd_link.specs.Time as time

-- From each log that the link stood for, where its wire is faithful, the event leads to one that it stands for, and what is reported of that was put
-- at the end. What the event brings is bytes.
pub record AnswersEvent {W R A : Type 0} (arrives : ℕ → List ℕ → List ℕ → Type 0) (stream : R → Stream) (old new : Link W R A) (at : ℕ) (event : Event) (before after : List ℕ) : Type 0 where
  pub told : List ℕ
  pub written : after ≡ before ++ told
  pub bytes : IsOfBytes event
  pub each : IsFaithful arrives → (log : Log) → Stands stream old log → (d : Log) × Follows usual_limits log at event d × Stands stream new d × (text d ≡ text log ++ told)

-- The wire failed: from each log that the link stood for, all that is due up to the event's moment comes, and nothing else, and the link stands for
-- what that leads to.
pub record Passes {W R A : Type 0} (stream : R → Stream) (old new : Link W R A) (at : ℕ) : Type 0 where
  pub each : (log : Log) → Stands stream old log → (d : Log) × time.Passes at log d × Stands stream new d
