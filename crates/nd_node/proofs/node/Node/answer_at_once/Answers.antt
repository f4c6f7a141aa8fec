use Rattle.nd_node.proofs.Wishes.{answer_alone}
use Rattle.nd_node.proofs.node.Node.answer_at_once.Goals as goal

pub returns-clause-adds : goal.returns-clause-adds
returns-clause-adds g c = λ destination.
    answer_alone g.R.Rng.stream c.args.self.now c.advance_to.new.self c.args.outs.now.items c.reserve.new.self.items c.args.now destination c.args.resolution c.requires.settled c.advance_to.ensures c.in_ok-reserve.ensures.items
