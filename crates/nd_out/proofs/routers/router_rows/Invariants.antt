use Rattle.std.proofs.Common.{◌≡◌, ◌++◌}
use Rattle.std.specs.Prelude.{map, string_bytes}
use Rattle.nd_routers.specs.Left.{routers_left}
use Rattle.nd_chronicle.specs.Shown.{router_row}
use Rattle.nd_out.proofs.routers.router_rows.Given as goal

-- those so far, and those that are left
abbrev pub invariant-loop-router : goal.invariant-loop-router
invariant-loop-router g l =
    map string_bytes l.rows.items ++ map router_row (routers_left l.router-iterator) ≡ map router_row (routers_left l.initial.router-iterator)
