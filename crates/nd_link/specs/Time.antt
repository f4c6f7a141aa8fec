-- Time that passes at a link.
use Rattle.std.specs.Prelude.{◌≡◌, ℕ, ◌+◌, ◌<◌, ◌≤◌, List, [], ◌∷◌, ◌++◌, Some}
use Rattle.rand_core.specs.Stream.{Stream}
use Rattle.nd_chronicle.specs.Start.{Start}
use Rattle.nd_chronicle.specs.Happening.{Chronicle}
use Rattle.nd_chronicle.specs.Due.{What, Due, comes}
use Rattle.nd_node.specs.declared.node.Node.{Node}
use Rattle.nd_node.specs.NodeKept as node
use Rattle.nd_link_log.specs.Log.{Log, adding, chronicle_of, last_moment, start_of}
use Rattle.nd_link_log.specs.History.{IsIdle, Walk}
use Rattle.nd_link.specs.declared.link.Link.{Link}
use Rattle.nd_link.specs.declared.told.Told.{Told}
use Rattle.nd_link.specs.Link.{Stands}
use Rattle.nd_link.specs.Told.{Tells}

-- The call leads from each log that the link stood for to one of those that the relation gives, and reports it.
pub record Leads {W R A : Type 0} (stream : R → Stream) (old new : Link W R A) (before after : List (Told A)) (To : Log → Log → Type 0) : Type 0 where
  pub each : (log : Log) → Stands stream old log → (d : Log) × To log d × Stands stream new d × Tells log d before after

-- it reports one of those, whatever has become of the link
pub record TellsOf {W R A : Type 0} (stream : R → Stream) (old : Link W R A) (before after : List (Told A)) (To : Log → Log → Type 0) : Type 0 where
  pub each : (log : Log) → Stands stream old log → (d : Log) × To log d × Tells log d before after

-- the milliseconds up to the moment pass, its own included
abbrev pub Passes : ℕ → Log → Log → Type 0
Passes now log d = Walk log (last_moment log) now d

-- what is left to walk from the one is what is left to walk from the other
abbrev pub Onward : ℕ → Log → Log → Type 0
Onward now log d = (e : Log) → Walk d (last_moment d) now e → Walk log (last_moment log) now e

-- what is due first at the moment comes, at the node of the least number that has something due at it; nothing was due before
pub record Turns (now : ℕ) (log d : Log) : Type 0 where
  pub node : ℕ
  pub start : Start
  pub what : What
  pub rows : Chronicle
  pub starts : start_of node log ≡ Some start
  pub due : Due start (chronicle_of node log) now (Some what)
  pub idle : (other : ℕ) → other < node → IsIdle other log now
  pub before : (moment : ℕ) → moment < now → (other : ℕ) → IsIdle other log moment
  pub in_time : last_moment log ≤ now
  pub gives : comes start now what (chronicle_of node log) ≡ rows ++ chronicle_of node log
  pub all : d ≡ adding node rows log
  pub reaches : last_moment d ≡ now

-- how many turns are left at all nodes up to a moment
abbrev pub turns_left : {R A : Type 0} → ℕ → List (Node R A) → ℕ
turns_left end [] = 0
turns_left end (n ∷ nodes) = node.turns_left end n + turns_left end nodes
