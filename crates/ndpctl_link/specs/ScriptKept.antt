-- Only what is kept, in the code's terms: what the lines of a link lead it to, and what a fault of its wire leaves.
use Rattle.std.specs.Prelude.{ℕ, List, Option, ⊤}
use Rattle.rand_core.specs.Stream.{Stream}
use Rattle.nd_lines.specs.declared.answering.Unanswered.{Unanswered}
use Rattle.nd_lines.specs.declared.answering.Unanswered.TheVariants.{Wire}
use Rattle.ndpctl_run.specs.Said.{Says}
use Rattle.nd_wire.specs.Wire.{IsFaithful}
use Rattle.nd_link_log.specs.Log.{Log}
use Rattle.nd_link_log.specs.Event.{Event}
use Rattle.nd_link_log.specs.Bytes.{AreOfBytes}
use Rattle.nd_link.specs.declared.link.Link.{Link}
use Rattle.nd_link.specs.Link.{Stands}
use Rattle.nd_link.specs.Time as time
use Rattle.ndpctl_link.specs.Answer.{Passes}
use Rattle.ndpctl_link.specs.Line.{IsLinkLine}
use Rattle.ndpctl_link.specs.Script.{RunsOn}

-- the same, to a log that a link stands for; what the lines bring is bytes
pub record RunsTo {W R A : Type 0} (stream : R → Stream) (log : Log) (link : Link W R A) (n : ℕ) (lines : List (List ℕ)) (told : List ℕ) (found : Option ℕ) : Type 0 where
  pub on : RunsOn log n lines told found
  pub bytes : AreOfBytes on.said
  pub stands : Stands stream link on.end

-- the same from each log that a link stands for to one that the later link stands for, where its wire is faithful
pub record Leads {W R A : Type 0} (arrives : ℕ → List ℕ → List ℕ → Type 0) (stream : R → Stream) (link later : Link W R A) (n : ℕ) (lines : List (List ℕ)) (told : List ℕ) (found : Option ℕ) : Type 0 where
  pub each : IsFaithful arrives → (log : Log) → Stands stream link log → RunsTo stream log later n lines told found

-- What a fault at a line means: where it is the wire's, time has passed up to the moment of the line's event, and nothing else has come.
abbrev pub FailsAt : {W R A : Type 0} → (R → Stream) → Link W R A → List ℕ → Link W R A → Unanswered → Type 0
FailsAt stream before line after Wire = (at : ℕ) × (event : Event) × Says IsLinkLine line at event × Passes stream before after at
FailsAt stream before line after why = ⊤

-- the same from one log on, to one that the link stands for
pub record WireFailsAt {W R A : Type 0} (stream : R → Stream) (link : Link W R A) (log : Log) (line : List ℕ) : Type 0 where
  pub at : ℕ
  pub event : Event
  pub says : Says IsLinkLine line at event
  pub end : Log
  pub passes : time.Passes at log end
  pub stands : Stands stream link end
