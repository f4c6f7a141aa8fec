-- How long a lease of a path holds, whatever calls come in between.
use Rattle.std.specs.Prelude.{◌≡◌, ◌<◌, ◌≤◌, ◌^◌, ◌-◌}
use Rattle.nd_node.specs.PathKept.{LeavesPaths}
use Rattle.nd_session.specs.declared.session.Session.{Session}

-- The version never falls. As long as it is the same, and not the last one, the paths of the node are left.
pub record KeepsLeases (old new : Session) : Type 0 where
  pub grows : old.paths.leases ≤ new.paths.leases
  pub keeps : new.paths.leases ≡ old.paths.leases → old.paths.leases < 2 ^ 64 - 1 → LeavesPaths old.node new.node
