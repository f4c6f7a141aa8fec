use Rattle.std.proofs.Common.{arith, length, ap}
use Rattle.nd_search_list.specs.Names.{names_in}
use Rattle.nd_search_list.proofs.Walk.{names_in_step, padded_behind}
use Rattle.nd_search_list.proofs.names.Names.len.Goals as goal

pub loop-after-preserved : goal.loop-after-preserved
loop-after-preserved c =
    let e = c.in-Some.ensures in
    let i = c.loop-after.invariant in
    let rest = c.loop-after.rest.now in
    let step = ap length (names_in_step rest e.0) in
    let behind = ap (λ t. length (names_in t)) e.2 in
    record { counted = omega (arith, i.counted, step, behind); fewer = omega (arith, i.fewer, e.3); padded = padded_behind rest c.in-Some.after.now e.0 e.2 i.padded }
