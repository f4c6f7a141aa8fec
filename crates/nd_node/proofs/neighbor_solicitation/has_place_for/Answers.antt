use Rattle.nd_addr.specs.Number.{number_of}
use Rattle.std.proofs.Common.{Some}
use Rattle.nd_chronicle.specs.Message.{makes_way}
use Rattle.nd_steps.specs.NeighbourCache.{said_by}
use Rattle.nd_node.proofs.Asking.{asker_placed}
use Rattle.nd_node.proofs.neighbor_solicitation.has_place_for.Goals as goal

pub returns-in-Some-clause-placed : goal.returns-in-Some-clause-placed
returns-in-Some-clause-placed g c = λ start c' times limit speakers s.
    rw c.in-Some.is (asker_placed start c' c.args.now (number_of c.args.asker.0) (makes_way start (Some (said_by times c.in-Some.field-0))) c.in-Some.field-0 times c.has_place.result (rw c.in-Some.is at c.requires)
    (rw c.in-Some.is at (c.has_place.ensures.placed start c' times limit speakers s)))
