use Rattle.std.proofs.Common.{◌≡◌, ◌++◌}
use Rattle.std.specs.Prelude.{map, string_bytes}
use Rattle.nd_nexthop.specs.Left.{redirects_left}
use Rattle.nd_chronicle.specs.Shown.{redirect_row}
use Rattle.nd_out.proofs.redirects.redirect_rows.Given as goal

-- those so far, and those that are left
abbrev pub invariant-loop-redirect : goal.invariant-loop-redirect
invariant-loop-redirect g l =
    map string_bytes l.rows.items ++ map redirect_row (redirects_left l.redirect-iterator) ≡ map redirect_row (redirects_left l.initial.redirect-iterator)
