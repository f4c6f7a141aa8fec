use Rattle.std.proofs.Common.{◌+◌, sym, subst, take, arith}
use Rattle.std.proofs.lemmas.List.{take_all}
use Rattle.nd_link.specs.Due.{FirstDue}
use Rattle.nd_node.specs.Node.{NextDue}
use Rattle.nd_link.proofs.FirstNode.{first_more}
use Rattle.nd_link.proofs.due.first_due.Goals as goal

pub loop-i-preserved : goal.loop-i-preserved
loop-i-preserved g c =
    subst (FirstDue g.R.Rng.stream (take (c.loop-i.i + 1) c.args.nodes.now)) (sym c.earlier-first.ensures)
    (first_more g.R.Rng.stream c.args.nodes.now c.loop-i.i c.index-nodes-i.result c.loop-i.first c.next_due.result c.loop-i-test.true c.index-nodes-i.is c.next_due.ensures.value
    (λ start chronicle s. subst (NextDue start chronicle) c.next_due.ensures.value (c.next_due.ensures.due start chronicle s)) c.loop-i.invariant)

pub returns : goal.returns
returns g c = subst (λ l. FirstDue g.R.Rng.stream l c.loop-i.first) (take_all c.loop-i.i c.args.nodes.now (let no = c.loop-i-test.false in omega (arith, no))) c.loop-i.invariant
