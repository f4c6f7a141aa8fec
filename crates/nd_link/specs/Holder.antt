-- Who holds an address on a link (RFC 4862, section 5.4).
use Rattle.std.specs.Prelude.{ℕ, List, ◌++◌}
use Rattle.rand_core.specs.Stream.{Stream}
use Rattle.nd_node.specs.Limits.{usual_limits}
use Rattle.nd_link_log.specs.Log.{Log}
use Rattle.nd_link_log.specs.Bytes.{AreOfBytes}
use Rattle.nd_link_log.specs.Event.{Event}
use Rattle.nd_link_log.specs.History.{IsLog}
use Rattle.nd_link_log.specs.Holding.{HasOneHolder, IsTimely}
use Rattle.nd_link_log.specs.Losing.{LosesLittle}
use Rattle.nd_link.specs.declared.link.Link.{Link}
use Rattle.nd_link.specs.Link.{Stands}

-- the link stands for the log of these events, of which the input is bytes
pub record StandsForEvents {W R A : Type 0} (stream : R → Stream) (link : Link W R A) (events : List (ℕ × Event)) (log : Log) : Type 0 where
  pub bytes : AreOfBytes events
  pub runs : IsLog usual_limits events log
  pub stands : Stands stream link log

-- Whatever came to the link before, these events came next, and where the log of all of them is timely no address is held at two nodes, at no
-- place of that log.
pub record KeepsOneHolder {W R A : Type 0} (stream : R → Stream) (old new : Link W R A) (events : List (ℕ × Event)) : Type 0 where
  pub each : (before : List (ℕ × Event)) (log : Log) → StandsForEvents stream old before log
      → (d : Log) × StandsForEvents stream new (before ++ events) d × ((within : ℕ) → IsTimely within d → HasOneHolder d)

-- The same where the log of all of them may lack frames: each attempt reached each other node.
pub record KeepsOneHolderWithLosses {W R A : Type 0} (stream : R → Stream) (old new : Link W R A) (events : List (ℕ × Event)) : Type 0 where
  pub each : (before : List (ℕ × Event)) (log : Log) → StandsForEvents stream old before log
      → (d : Log) × StandsForEvents stream new (before ++ events) d × ((within : ℕ) → LosesLittle within d → HasOneHolder d)
