use Rattle.std.proofs.Common.{◌≡◌, ◌++◌}
use Rattle.std.specs.Prelude.{map, string_bytes}
use Rattle.nd_slaac.specs.Left.{addresses_left}
use Rattle.nd_chronicle.specs.Shown.{address_row}
use Rattle.nd_out.proofs.addresses.address_rows.Given as goal

-- those so far, and those that are left
abbrev pub invariant-loop-address : goal.invariant-loop-address
invariant-loop-address g l =
    map string_bytes l.rows.items ++ map address_row (addresses_left l.address-iterator) ≡ map address_row (addresses_left l.initial.address-iterator)
