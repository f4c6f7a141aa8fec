-- Only what is kept, in the code's terms: what the lines of a script lead a node to.
use Rattle.std.specs.Prelude.{ℕ, List, Option}
use Rattle.rand_core.specs.Stream.{Stream}
use Rattle.nd_chronicle.specs.Start.{Start}
use Rattle.nd_chronicle.specs.Happening.{Chronicle}
use Rattle.nd_node.specs.declared.node.Node.{Node}
use Rattle.nd_node.specs.NodeKept.{Stands}
use Rattle.ndpctl_run.specs.Script.{RunsOn, BeginsAnswer}

-- the same from each chronicle that a node stands for, to one that the later node stands for
pub record Leads {R A : Type 0} (stream : R → Stream) (node later : Node R A) (n : ℕ) (lines : List (List ℕ)) (told : List ℕ) (found : Option ℕ) : Type 0 where
  pub each : (start : Start) (c : Chronicle) → Stands stream start node c → (on : RunsOn start c n lines told found) × Stands stream start later on.end

-- a beginning of the answer to a line, from each chronicle that a node stands for
pub record Begins {R A : Type 0} (stream : R → Stream) (node : Node R A) (line told : List ℕ) : Type 0 where
  pub each : (start : Start) (c : Chronicle) → Stands stream start node c → BeginsAnswer start c line told
