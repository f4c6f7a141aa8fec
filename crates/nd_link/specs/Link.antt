-- A link stands for a log.
use Rattle.std.specs.Prelude.{◌≡◌, ◌≢◌, ℕ, ◌≤◌, List, [], length, slice_get, Some, None}
use Rattle.rand_core.specs.Stream.{Stream}
use Rattle.nd_chronicle.specs.Start.{Start}
use Rattle.nd_chronicle.specs.Happening as chronicle
use Rattle.nd_node.specs.declared.node.Node.{Node}
use Rattle.nd_node.specs.NodeKept as node
use Rattle.nd_node.specs.NodeKept.{next_of}
use Rattle.nd_link_log.specs.Log.{Log, chronicle_of, last_moment, nodes, start_of}
use Rattle.nd_link.specs.declared.link.Link.{Link}
use Rattle.nd_link.specs.Frames.{frames, kept_frames}

-- The node has started in the log, and stands for its chronicle there; of neither is anything later than this moment, or due before it.
pub record NodeStands {R A : Type 0} (stream : R → Stream) (log : Log) (now i : ℕ) (n : Node R A) : Type 0 where
  pub start : Start
  pub starts : start_of i log ≡ Some start
  pub stands : node.Stands stream start n (chronicle_of i log)
  pub by_then : chronicle.last_moment start.at (chronicle_of i log) ≤ now
  pub ahead : now ≤ next_of n

-- a node that isn't there has no row
pub record IsAbsent (log : Log) (i : ℕ) : Type 0 where
  pub starts : start_of i log ≡ None
  pub rows : chronicle_of i log ≡ []

-- the nodes are those of the log, each at the place of its number
pub record NodesStand {R A : Type 0} (stream : R → Stream) (list : List (Node R A)) (log : Log) (now : ℕ) : Type 0 where
  pub count : length list ≡ nodes log
  pub each : (i : ℕ) (n : Node R A) → slice_get list i ≡ Some n → NodeStands stream log now i n
  pub absent : (i : ℕ) → length list ≤ i → IsAbsent log i

-- the same of all but that of a number
pub record OthersStand {R A : Type 0} (stream : R → Stream) (list : List (Node R A)) (log : Log) (now but : ℕ) : Type 0 where
  pub count : length list ≡ nodes log
  pub each : (i : ℕ) (n : Node R A) → i ≢ but → slice_get list i ≡ Some n → NodeStands stream log now i n
  pub absent : (i : ℕ) → length list ≤ i → IsAbsent log i

-- and the link keeps each frame that was sent
pub record Stands {W R A : Type 0} (stream : R → Stream) (link : Link W R A) (log : Log) : Type 0 where
  pub nodes : NodesStand stream link.nodes.items log (last_moment log)
  pub frames : kept_frames link.frames.items ≡ frames log
  pub last : link.last ≡ last_moment log
