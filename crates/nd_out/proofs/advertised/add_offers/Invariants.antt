use Rattle.std.proofs.Common.{◌≡◌, ◌++◌}
use Rattle.std.specs.Prelude.{map, string_bytes}
use Rattle.nd_chronicle.specs.Shown.{offer_row}
use Rattle.nd_out.proofs.advertised.add_offers.Given as goal

-- those so far, and those that are left
abbrev pub invariant-loop-offer : goal.invariant-loop-offer
invariant-loop-offer g l =
    map string_bytes l.rows.items ++ map offer_row l.offer-iterator ≡ map string_bytes l.fn.rows.items ++ map offer_row l.initial.offer-iterator
