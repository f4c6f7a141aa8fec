use Rattle.std.proofs.Common.{◌≡◌, ◌++◌}
use Rattle.std.specs.Prelude.{map, string_bytes}
use Rattle.nd_forwarding.specs.KeptRoutes.{routes_left}
use Rattle.nd_chronicle.specs.Shown.{route_row}
use Rattle.nd_out.proofs.static_routes.add_routes.Given as goal

-- those so far, and those that are left
abbrev pub invariant-loop-route : goal.invariant-loop-route
invariant-loop-route g l =
    map string_bytes l.rows.items ++ map route_row (routes_left l.route-iterator) ≡ map string_bytes l.fn.rows.items ++ map route_row (routes_left l.initial.route-iterator)
