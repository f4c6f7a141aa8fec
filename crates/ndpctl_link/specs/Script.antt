-- What the lines of a link lead it to.
use Rattle.std.specs.Prelude.{◌≡◌, ℕ, List, [], ◌++◌, Option}
use Rattle.rand_core.specs.Stream.{Stream}
use Rattle.nd_node.specs.Limits.{usual_limits}
use Rattle.ndpctl_run.specs.Said.{Say}
use Rattle.nd_link_log.specs.Log.{Log}
use Rattle.nd_link_log.specs.Event.{Event}
use Rattle.nd_link_log.specs.History.{Runs}
use Rattle.nd_link_log.specs.Holding.{HasOneHolder, IsTimely}
use Rattle.nd_link_log.specs.Losing.{LosesLittle}
use Rattle.nd_link_log.specs.Told.{text}
use Rattle.nd_link.specs.declared.link.Link.{Link}
use Rattle.nd_link.specs.Holder.{StandsForEvents}
use Rattle.ndpctl_link.specs.Line.{IsLinkLine}

-- From a log on, what the lines say leads to one that adds these reports. That of no event is the empty one.
pub record RunsOn (log : Log) (n : ℕ) (lines : List (List ℕ)) (told : List ℕ) (found : Option ℕ) : Type 0 where
  pub said : List (ℕ × Event)
  pub say : Say IsLinkLine n lines said found
  pub end : Log
  pub runs : Runs usual_limits log said end
  pub text_is : text end ≡ text log ++ told

-- what the lines say leads from the one log to the other
abbrev pub RunsBetween : Log → Log → ℕ → List (List ℕ) → List ℕ → Option ℕ → Type 0
RunsBetween log end n lines told found = (on : RunsOn log n lines told found) × (on.end ≡ end)

-- THE TEXT OF A LINK. It is that of the log of what the lines say.
abbrev pub IsLinkText : ℕ → List (List ℕ) → List ℕ → Option ℕ → Type 0
IsLinkText = RunsOn []

-- What the lines say came to the link behind these events. Where the log of all of them is timely, or loses little, no address is held at two nodes,
-- at no place of that log.
pub record KeepsOneHolder {W R A : Type 0} (stream : R → Stream) (before : List (ℕ × Event)) (link : Link W R A) (n : ℕ) (lines : List (List ℕ)) (told : List ℕ) (found : Option ℕ) : Type 0 where
  pub said : List (ℕ × Event)
  pub say : Say IsLinkLine n lines said found
  pub log : Log
  pub stands : StandsForEvents stream link (before ++ said) log
  pub one_holder : (within : ℕ) → IsTimely within log → HasOneHolder log
  pub where_frames_are_lost : (within : ℕ) → LosesLittle within log → HasOneHolder log
