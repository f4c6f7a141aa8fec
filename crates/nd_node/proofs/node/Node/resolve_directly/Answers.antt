use Rattle.std.proofs.Common.{ℕ, List, Some, refl, sym, ap, ◌∙◌}
use Rattle.nd_addr.specs.Number.{number_of}
use Rattle.std.proofs.lemmas.Result.{IfOk-weaker}
use Rattle.nd_out.specs.declared.out.Way.TheVariants.{To}
use Rattle.nd_node.specs.declared.resolve.Resolution.TheVariants as answers
use Rattle.nd_node.proofs.Refusals.{path_to_destination}
use Rattle.nd_node.proofs.Wishes.{answered_with, path_to_all, path_to_one}
use Rattle.nd_node.specs.ResolveKept.{IsWay}
use Rattle.nd_node.proofs.Ways.{way_to_all, way_to_one}
use Rattle.nd_node.proofs.node.Node.resolve_directly.Goals as goal

pub returns-then-is_multicast-clause-adds : goal.returns-then-is_multicast-clause-adds
returns-then-is_multicast-clause-adds g c =
    answered_with c.answer_at_once.result (answers.Path (To c.args.destination (Some c.multicast-mac.result))) _ _ (λ adds. path_to_all g.R.Rng.stream c.args.self.now c.answer_at_once.new.self c.args.outs.now.items _ c.args.now c.args.destination
    (number_of c.args.destination.0) (number_of c.multicast-mac.result.0) refl (ap (λ (bytes : List ℕ). number_of bytes) c.multicast-mac.ensures) (sym c.is_multicast.ensures.exactly ∙ c.if-is_multicast.true) (adds c.args.destination))
    c.answer_at_once.ensures.adds c.answer_at_once.ensures.answer

pub returns-clause-adds : goal.returns-clause-adds
returns-clause-adds g c =
    IfOk-weaker c.want_neighbour.result _ _ (λ a adds. path_to_one g.R.Rng.stream c.args.self.now c.want_neighbour.new.self c.args.outs.now.items _ c.args.now c.args.destination
    (sym c.is_multicast.ensures.exactly ∙ c.if-is_multicast.false) (adds c.args.destination)) c.want_neighbour.ensures.adds

pub returns-clause-refused : goal.returns-clause-refused
returns-clause-refused g c = λ start c' s adds place.
    c.want_neighbour.ensures.refused c.args.destination start c' s (path_to_destination start c.args.now c.args.destination c' (sym c.is_multicast.ensures.exactly ∙ c.if-is_multicast.false) adds) place

pub returns-then-is_multicast-clause-way : goal.returns-then-is_multicast-clause-way
returns-then-is_multicast-clause-way g c = λ goes.
    answered_with c.answer_at_once.result (answers.Path (To c.args.destination (Some c.multicast-mac.result))) _ (IsWay c.answer_at_once.new.self c.args.now c.args.destination)
    (λ same. way_to_all c.args.self.now c.answer_at_once.new.self c.args.now c.args.destination c.multicast-mac.result goes (sym c.is_multicast.ensures.exactly ∙ c.if-is_multicast.true) c.multicast-mac.ensures same)
    c.answer_at_once.ensures.clock c.answer_at_once.ensures.answer

pub returns-clause-way : goal.returns-clause-way
returns-clause-way g c = λ goes.
    IfOk-weaker c.want_neighbour.result _ _ (λ a leads. way_to_one c.args.self.now c.want_neighbour.new.self c.args.now c.args.destination goes (sym c.is_multicast.ensures.exactly ∙ c.if-is_multicast.false) a leads)
    c.want_neighbour.ensures.way
