-- The start of a node, and its next date.
use Rattle.std.specs.Prelude.{ℕ, ◌<◌, ◌≤◌, None}
use Rattle.rand_core.specs.Stream.{Stream}
use Rattle.nd_addr.specs.declared.mac.Mac.{Mac}
use Rattle.nd_addr.specs.declared.role.Role.{Role}
use Rattle.nd_chronicle.specs.Start.{Start, Limits, Policies, no_policies}
use Rattle.nd_chronicle.specs.Happening.{Chronicle, last_moment}
use Rattle.nd_chronicle.specs.Due.{Due}
use Rattle.nd_node.specs.declared.node.Node.{Node}

abbrev pub starting : ℕ → Role → Mac → ℕ → Limits → Stream → Start
starting at role mac transmits limits stream = record { at = at; role = role; mac = mac; transmits = transmits; stream = stream; limits = limits; policies = no_policies }

-- the same with these policies
abbrev pub with_policies : Policies → Start → Start
with_policies policies start = record start { policies = policies }

-- the moment up to which time has passed
abbrev pub last_of : {R A : Type 0} → Node R A → ℕ
last_of node = node.last

-- Nothing is due before the moment, which isn't past, and something is due at it.
pub record NextDue (start : Start) (c : Chronicle) (next : ℕ) : Type 0 where
  pub not_past : last_moment start.at c ≤ next
  pub nothing_before : (moment : ℕ) → moment < next → Due start c moment None
  pub something_then : Due start c next None → ⊥
