use Rattle.std.proofs.lemmas.Result.{IfOk-weaker}
use Rattle.nd_addr.specs.Number.{number_of}
use Rattle.nd_out.specs.declared.out.Way.TheVariants.{NoRoute}
use Rattle.nd_node.specs.declared.resolve.Resolution.TheVariants as answers
use Rattle.nd_node.proofs.Wishes.{answered_with, path_by_router, path_of_none}
use Rattle.nd_node.specs.ResolveKept.{IsWay}
use Rattle.nd_node.proofs.Ways.{way_by_router}
use Rattle.nd_node.proofs.node.Node.resolve_by_hop.Goals as goal

pub returns-in-Via-clause-adds : goal.returns-in-Via-clause-adds
returns-in-Via-clause-adds g c =
    rw c.in-Via.is (IfOk-weaker c.want_neighbour.result _ _ (λ a adds. path_by_router g.R.Rng.stream c.args.self.now c.want_neighbour.new.self c.args.outs.now.items _ c.args.now c.args.destination (number_of c.in-Via.router.0) (adds c.args.destination)) c.want_neighbour.ensures.adds)

pub returns-in-Via-clause-refused : goal.returns-in-Via-clause-refused
returns-in-Via-clause-refused g c = rw c.in-Via.is (λ start c' s adds place. c.want_neighbour.ensures.refused c.args.destination start c' s adds place)

pub returns-in-NoRoute-clause-adds : goal.returns-in-NoRoute-clause-adds
returns-in-NoRoute-clause-adds g c =
    rw c.in-NoRoute.is (answered_with c.answer_at_once.result (answers.Path NoRoute) _ _ (λ adds. path_of_none g.R.Rng.stream c.args.self.now c.answer_at_once.new.self c.args.outs.now.items _ c.args.now c.args.destination (adds c.args.destination))
    c.answer_at_once.ensures.adds c.answer_at_once.ensures.answer)

pub returns-in-Via-clause-way : goal.returns-in-Via-clause-way
returns-in-Via-clause-way g c =
    rw c.in-Via.is (λ goes. IfOk-weaker c.want_neighbour.result _ _ (λ a leads. way_by_router c.args.self.now c.want_neighbour.new.self c.args.now c.args.destination c.in-Via.router goes a leads) c.want_neighbour.ensures.way)

pub returns-in-NoRoute-clause-way : goal.returns-in-NoRoute-clause-way
returns-in-NoRoute-clause-way g c = λ goes.
    answered_with c.answer_at_once.result (answers.Path NoRoute) _ (IsWay c.answer_at_once.new.self c.args.now c.args.destination) (λ _. tt) c.answer_at_once.ensures.clock c.answer_at_once.ensures.answer
