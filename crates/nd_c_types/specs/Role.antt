-- The roles by their numbers in C: enum nd_role.
use Rattle.std.specs.Prelude.{ℕ, ◌==◌, if◌then◌else◌, Option, Some, None}
use Rattle.nd_addr.specs.declared.role.Role.{Role}
use Rattle.nd_addr.specs.declared.role.Role.TheVariants as roles

abbrev pub role_of : ℕ → Option Role
role_of number = if number == 0 then Some roles.Host else (if number == 1 then Some roles.Router else None)
