-- What a session remembers of paths, and its node (RFC 4861, sections 5.2 and 7.3.3).
use Rattle.std.specs.Prelude.{◌≡◌, ℕ, ◌<◌, ◌≤◌, ◌-◌, nat_lt, if◌then◌else◌, Option, Some, None, Contains}
use Rattle.std.specs.Global.{Global}
use Rattle.nd_addr.specs.Number.{number_of}
use Rattle.nd_node.specs.declared.node.Node.{Node}
use Rattle.nd_node.specs.PathKept.{left_kept, path_kept, towards}
use Rattle.nd_random.specs.declared.source.Source.{Source}
use Rattle.nd_session.specs.declared.paths.LeasedPath.{LeasedPath}
use Rattle.nd_session.specs.Slots.{Slots}

-- what is left of a state that ends at this moment
abbrev pub left_at : ℕ → ℕ → Option ℕ
left_at end now = if nat_lt now end then Some (end - now) else None

-- in the lease it is the path of its destination, at this node
abbrev pub IsPathAt : Node Source Global → LeasedPath → ℕ → Type 0
IsPathAt node path now =
    ((path_kept node now path.destination).until ≡ path.until) × (towards (path_kept node now path.destination).next path.destination ≡ number_of path.to.0)
    × ((path_kept node now path.destination).mac ≡ Some (number_of path.mac.0)) × ((path_kept node now path.destination).state ≡ path.state)
    × (left_kept node now path.destination ≡ left_at path.reachable_until now)

-- what is remembered and not forgotten is what the node would answer
abbrev pub AreRemembered : Slots → Node Source Global → Type 0
AreRemembered slots node = (path : LeasedPath) → Contains slots.paths path → path.version ≡ slots.version → (now : ℕ) → path.from ≤ now → now < path.until → IsPathAt node path now
