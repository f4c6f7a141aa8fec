use Rattle.std.proofs.Common.{ap, sym, ◌∙◌}
use Rattle.nd_addr.specs.Number.{number_of}
use Rattle.nd_nexthop.proofs.Recalled.{pair_remembered}
use Rattle.nd_nexthop.proofs.memo.Memo.remember.Goals as goal

pub returns-then-is_asked-clause-hops : goal.returns-then-is_asked-clause-hops
returns-then-is_asked-clause-hops g c =
    pair_remembered c.put.result (number_of c.args.destination.0) c.to_bits.result c.args.now c.args.hop c.self.inside.hops c.put.new.self c.args.self.now c.put.ensures.entries c.put.ensures.err c.to_bits.ensures (ap (λ m. m.hops) c.self.view_is)
    (sym c.is_asked.ensures ∙ c.if-is_asked.true)
