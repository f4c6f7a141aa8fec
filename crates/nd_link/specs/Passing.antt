-- Time passes at the nodes of a link where nothing is due.
use Rattle.std.specs.Prelude.{◌≡◌, ◌≢◌, ℕ, ◌≤◌, List, ◌∷◌, length, slice_get, Some}
use Rattle.rand_core.specs.Stream.{Stream}
use Rattle.nd_chronicle.specs.Start.{Start}
use Rattle.nd_chronicle.specs.Happening.{Chronicle, Passed, last_moment}
use Rattle.nd_node.specs.declared.node.Node.{Node}
use Rattle.nd_node.specs.NodeKept.{Stands}

-- up to a moment at one node
pub record PassesTo {R A : Type 0} (stream : R → Stream) (now : ℕ) (old new : Node R A) : Type 0 where
  pub each : (start : Start) (c : Chronicle) → Stands stream start old c → last_moment start.at c ≤ now → Stands stream start new ((now, Passed) ∷ c)

-- and at each of a list but that at a place
pub record OthersPass {R A : Type 0} (stream : R → Stream) (now but : ℕ) (old new : List (Node R A)) : Type 0 where
  pub count : length new ≡ length old
  pub passed : (i : ℕ) (m : Node R A) → i ≢ but → slice_get new i ≡ Some m → (n : Node R A) × (slice_get old i ≡ Some n) × PassesTo stream now n m
  pub own : slice_get new but ≡ slice_get old but
