use Rattle.nd_node.proofs.Leaving.{leave_both, passing_leaves}
use Rattle.nd_node.proofs.node.Node.take_turn.Goals as goal

pub returns-clause-stands : goal.returns-clause-stands
returns-clause-stands g c = rw c.advance_to.ensures c.do_first_due-turned.ensures.stands

pub returns-clause-fewer : goal.returns-clause-fewer
returns-clause-fewer g c = rw c.advance_to.ensures c.do_first_due-turned.ensures.fewer

pub returns-clause-leaves : goal.returns-clause-leaves
returns-clause-leaves g c = λ leaves.
    rw c.advance_to.ensures (leave_both c.args.self.now c.do_first_due-turned.new.self (record c.do_first_due-turned.new.self { last = c.args.now }) (c.do_first_due-turned.ensures.leaves leaves) (passing_leaves c.do_first_due-turned.new.self c.args.now))
