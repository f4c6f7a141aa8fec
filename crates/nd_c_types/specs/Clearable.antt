-- The tables that can be cleared by their numbers in C: enum nd_clearable.
use Rattle.std.specs.Prelude.{ℕ, ◌==◌, if◌then◌else◌, Option, Some, None}
use Rattle.nd_node.specs.declared.clearing.Clearable.{Clearable}
use Rattle.nd_node.specs.declared.clearing.Clearable.TheVariants.{Neighbours, Routers, Prefixes, Redirects, Dns}

abbrev pub clearable_in : ℕ → Option Clearable
clearable_in n =
    if n == 1 then Some Neighbours else
    if n == 2 then Some Routers else
    if n == 3 then Some Prefixes else
    if n == 4 then Some Redirects else
    if n == 5 then Some Dns else None
