use Rattle.std.proofs.Common.{◌≡◌, true, eqb, arith}
use Rattle.std.proofs.lemmas.Bool.Decides.{nat_tests}
use Rattle.nd_addr.specs.Number.{number_of}
use Rattle.nd_routers.proofs.Planning.{end_here}
use Rattle.nd_routers.proofs.due.end_of.Goals as goal

pub returns-then-is_eq : goal.returns-then-is_eq
returns-then-is_eq c =
    let e = c.entry-item.result in
    let here : eqb e.key (number_of c.args.source.0) ≡ true = grind (arith, nat_tests, c.addr.ensures, c.compare.ensures, c.is_eq.ensures, c.if-is_eq.true) in
    end_here (number_of c.args.source.0) c.args.entries.now c.loop-entry.entry-index e c.loop-entry-test.true c.entry-item.is here c.loop-entry.invariant
