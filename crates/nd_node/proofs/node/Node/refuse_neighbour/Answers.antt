use Rattle.std.proofs.Common.{ℕ, List}
use Rattle.nd_addr.specs.Number.{number_of}
use Rattle.nd_node.proofs.OutgoingPackets.{refused_full}
use Rattle.nd_node.specs.declared.answer.Answer.TheVariants.{Refused}
use Rattle.nd_out.specs.declared.out.Refusal.TheVariants.{Full}
use Rattle.nd_out.specs.declared.out.Limit.TheVariants.{Neighbours}
use Rattle.nd_node.proofs.Reporting.{answered}
use Rattle.nd_node.proofs.node.Node.refuse_neighbour.Goals as goal

pub returns-clause-adds : goal.returns-clause-adds
returns-clause-adds g c =
    answered c.refuse.result (Refused (Full Neighbours)) _ (λ adds (packet : List ℕ). refused_full g.R.Rng.stream c.args.self.now c.refuse.new.self c.args.outs.now.items c.refuse.new.outs.items c.args.now (number_of c.args.to.0) packet c.requires.settled
    c.full_by_history.ensures c.requires.full adds) c.refuse.ensures.adds c.refuse.ensures.answer
