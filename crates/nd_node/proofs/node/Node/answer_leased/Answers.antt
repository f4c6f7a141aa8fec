use Rattle.nd_node.proofs.Leases.{leased_answer}
use Rattle.nd_node.proofs.node.Node.answer_leased.Goals as goal

pub returns-clause-adds : goal.returns-clause-adds
returns-clause-adds g c = rw c.advance_to.ensures (λ outs. leased_answer g.R.Rng.stream c.args.self.now outs c.args.now c.args.destination c.args.to c.args.mac c.requires.in_lease)
