use Rattle.std.proofs.Common.{◌∙◌, sym}
use Rattle.nd_addr.specs.Number.{number_of}
use Rattle.nd_table.proofs.Searching.{same, found_at}
use Rattle.nd_table.proofs.table.locate_near.Goals as goal

pub returns-then-is_eq-clause-found : goal.returns-then-is_eq-clause-found
returns-then-is_eq-clause-found g c =
    let k = number_of c.args.addr.0 in
    let key = sym c.addr.ensures ∙ same (number_of c.addr.result.0) k c.compare.result c.is_eq.result c.compare.ensures c.is_eq.ensures c.if-is_eq.true in
    found_at g.E.Addressed.key k c.args.entries.now c.args.near c.index-entries-near.result c.requires c.if-near-entries.true c.index-entries-near.is key
