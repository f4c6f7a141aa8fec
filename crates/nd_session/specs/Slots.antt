-- The paths that are remembered, each in the slot of its destination.
use Rattle.std.specs.Prelude.{◌≡◌, ℕ, ◌<◌, ◌≤◌, ◌^◌, ◌-◌, List, Contains}
use Rattle.nd_addr.specs.declared.addr.Addr.{Addr}
use Rattle.nd_session.specs.declared.paths.LeasedPath.{LeasedPath}

-- what is in the slots, the version of what is remembered, and that of all leases
pub record Slots : Type 0 where
  pub paths : List LeasedPath
  pub version : ℕ
  pub leases : ℕ

-- none is of a later version, or of the last one
abbrev pub AreOlder : ℕ → List LeasedPath → Type 0
AreOlder version paths = (path : LeasedPath) → Contains paths path → (path.version ≤ version) × (path.version < 2 ^ 64 - 1)

-- nothing is remembered
abbrev pub AreForgotten : Slots → Type 0
AreForgotten slots = (path : LeasedPath) → Contains slots.paths path → path.version ≡ slots.version → ⊥

-- it is remembered of the destination, and in its lease at the moment
pub record IsRecalled (slots : Slots) (now : ℕ) (destination : Addr) (path : LeasedPath) : Type 0 where
  pub there : Contains slots.paths path
  pub version : path.version ≡ slots.version
  pub destination_is : path.destination ≡ destination
  pub from : path.from ≤ now
  pub until : now < path.until
