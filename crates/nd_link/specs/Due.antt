-- Which node of a link turns first, by what is due at each.
use Rattle.std.specs.Prelude.{◌≡◌, ℕ, ◌<◌, ◌≤◌, nat_lt, if◌then◌else◌, List, [], length, slice_get, Option, Some, None}
use Rattle.rand_core.specs.Stream.{Stream}
use Rattle.nd_chronicle.specs.Start.{Start}
use Rattle.nd_chronicle.specs.Happening.{Chronicle}
use Rattle.nd_node.specs.declared.node.Node.{Node}
use Rattle.nd_node.specs.Node.{NextDue}
use Rattle.nd_node.specs.NodeKept.{Stands, next_of}

-- the moment of each is that of which its chronicle says that nothing is due before
abbrev pub AreDated : {R A : Type 0} → (R → Stream) → List (Node R A) → Type 0
AreDated {R} {A} stream nodes = (i : ℕ) (node : Node R A) → slice_get nodes i ≡ Some node → (start : Start) (c : Chronicle) → Stands stream start node c → NextDue start c (next_of node)

-- the node at this place has the least moment, and none before it has the same
pub record IsFirst {R A : Type 0} (stream : R → Stream) (nodes : List (Node R A)) (place moment : ℕ) : Type 0 where
  pub within : place < length nodes
  pub is : (node : Node R A) → slice_get nodes place ≡ Some node → next_of node ≡ moment
  pub least : (i : ℕ) (node : Node R A) → slice_get nodes i ≡ Some node → moment ≤ next_of node
  pub first : (i : ℕ) (node : Node R A) → i < place → slice_get nodes i ≡ Some node → moment < next_of node
  pub dated : AreDated stream nodes

-- there is such a node, if there is any
abbrev pub FirstDue : {R A : Type 0} → (R → Stream) → List (Node R A) → Option (ℕ × ℕ) → Type 0
FirstDue stream nodes None = nodes ≡ []
FirstDue stream nodes (Some found) = IsFirst stream nodes found.0 found.1

-- the first of those so far and of the next one: the next one only where it is earlier
abbrev pub earlier : Option (ℕ × ℕ) → ℕ → ℕ → Option (ℕ × ℕ)
earlier None place due = Some (place, due)
earlier (Some first) place due = if nat_lt due first.1 then Some (place, due) else Some first

-- nothing is due at any of them up to the moment
abbrev pub AreSettled : {R A : Type 0} → ℕ → List (Node R A) → Type 0
AreSettled {R} {A} now nodes = (i : ℕ) (node : Node R A) → slice_get nodes i ≡ Some node → now < next_of node
