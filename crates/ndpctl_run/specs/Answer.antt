-- What the answer to one event is, and a part of it.
use Rattle.std.specs.Prelude.{◌≡◌, ℕ, List, ◌++◌}
use Rattle.rand_core.specs.Stream.{Stream}
use Rattle.nd_chronicle.specs.Start.{Start}
use Rattle.nd_chronicle.specs.Happening.{Chronicle}
use Rattle.nd_chronicle.specs.Event.{Event}
use Rattle.nd_chronicle.specs.History.{Follows}
use Rattle.nd_chronicle.specs.Told.{text}
use Rattle.nd_node.specs.declared.node.Node.{Node}
use Rattle.nd_node.specs.NodeKept.{Stands}
use Rattle.ndpctl_run.specs.Script.{Does}

-- From each chronicle that the node stood for, the event leads to one that it stands for, and what is reported of that was put at the end.
pub record AnswersEvent {R A : Type 0} (stream : R → Stream) (old new : Node R A) (at : ℕ) (event : Event) (before after : List ℕ) : Type 0 where
  pub told : List ℕ
  pub written : after ≡ before ++ told
  pub each : (start : Start) (c : Chronicle) → Stands stream start old c → (d : Chronicle) × Follows start c at event d × Stands stream start new d × (text d ≡ text c ++ told)

-- From each chronicle that the node stood for, some of what is due up to the moment leads to one that it stands for, and what is reported of that was
-- put at the end.
pub record AnswersInPart {R A : Type 0} (stream : R → Stream) (old new : Node R A) (end : ℕ) (before after : List ℕ) : Type 0 where
  pub told : List ℕ
  pub written : after ≡ before ++ told
  pub each : (start : Start) (c : Chronicle) → Stands stream start old c → (d : Chronicle) × Does start end c d × Stands stream start new d × (text d ≡ text c ++ told)
