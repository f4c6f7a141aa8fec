use Rattle.std.proofs.Common.{◌≡◌, ◌-◌, ◌/◌, ◌^◌}
use Rattle.std.specs.Prelude.{nat_eq}
use Rattle.std.specs.List.{list_any}
use Rattle.nd_addr.specs.Number.{number_of}
use Rattle.nd_table.specs.Left.{standing_left}
use Rattle.nd_routers.proofs.on_link.any_holds.Given as goal

-- one of the rest holds it where one of all does
abbrev pub invariant-loop-entry : goal.invariant-loop-entry
invariant-loop-entry l =
    list_any (λ e. nat_eq (l.number / 2 ^ (128 - e.key.length)) (number_of e.key.address.0 / 2 ^ (128 - e.key.length))) (standing_left l.entry-iterator)
    ≡ list_any (λ e. nat_eq (l.number / 2 ^ (128 - e.key.length)) (number_of e.key.address.0 / 2 ^ (128 - e.key.length))) (standing_left l.initial.entry-iterator)
