use Rattle.std.proofs.Common.{sym, ◌∙◌, subst}
use Rattle.nd_chronicle.specs.Histories.{neighbour_history}
use Rattle.nd_steps.specs.GivingWay.{PlacedByWay}
use Rattle.nd_steps.proofs.GivingWay.{placed_by_way}
use Rattle.nd_steps.proofs.neighbour_cache.has_place.Goals as goal

pub returns-in-Some-clause-placed : goal.returns-in-Some-clause-placed
returns-in-Some-clause-placed g c = λ start c' times limit speakers s.
    rw c.in-Some.is (placed_by_way start c' c.args.now c.in-Some.news times c.has_way_with.result (sym speakers ∙ c.if-speakers.true)
    (subst (λ l. PlacedByWay l c.args.now c.in-Some.news (neighbour_history c') c.has_way_with.result) limit (c.has_way_with.ensures.placed (neighbour_history c') s)))
