use Rattle.std.proofs.Common.{◌∙◌, ap}
use Rattle.nd_addr.specs.Number.{number_of}
use Rattle.nd_nexthop.proofs.Recalled.{pair_found, pair_kept}
use Rattle.nd_nexthop.proofs.memo.Memo.recall.Goals as goal

pub returns-clause-found : goal.returns-clause-found
returns-clause-found g c =
    pair_found (number_of c.args.destination.0) c.to_bits.result c.copied.result c.self.inside.hops.entries c.args.self.now.hops (c.copied.ensures ∙ c.get.ensures.value) c.to_bits.ensures (ap (λ m. m.hops) c.self.view_is)

pub returns-clause-hops : goal.returns-clause-hops
returns-clause-hops g c =
    pair_kept c.to_bits.result c.self.inside.hops.entries c.args.self.now.hops c.get.follows.lender-at-none.entries (ap (λ r. r.entries) c.get.follows.holds-at-none) (ap (λ m. m.hops) c.self.view_is)
