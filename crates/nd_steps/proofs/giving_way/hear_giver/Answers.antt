use Rattle.std.proofs.Common.{◌∙◌, subst}
use Rattle.std.specs.Option.{option_map}
use Rattle.nd_addr.specs.Number.{number_of}
use Rattle.nd_steps.specs.NeighbourCache.{HearsOf, said_by}
use Rattle.nd_steps.proofs.GivingWay.{hears_giver, way_may}
use Rattle.nd_steps.proofs.giving_way.hear_giver.Goals as goal

pub returns-clause-hears : goal.returns-clause-hears
returns-clause-hears g c =
    let limit = c.args.neighbours.now.limit in
    let said = option_map (said_by c.args.times) c.args.news in
    let mid = c.make_way-gone.new.neighbours.entries in
    let new = c.hear_of_neighbour.new.neighbours.entries in
    let between = c.make_way-gone.new.outs.items in
    let after = c.hear_of_neighbour.new.outs.items in
    hears_giver c.args.speakers limit c.args.now said c.args.neighbours.now.entries mid new c.args.outs.now.items between after (option_map (λ gone. number_of gone.0) c.make_way-gone.result) c.hear_of_neighbour.result
    (c.make_way-gone.ensures.ways c.args.times)
    (subst (λ l. HearsOf l c.args.now said mid new between after c.hear_of_neighbour.result) c.make_way-gone.ensures.limit c.hear_of_neighbour.ensures.hears)

pub returns-clause-remembers : goal.returns-clause-remembers
returns-clause-remembers g c =
    way_may _ c.make_way-gone.result c.args.choice.now c.make_way-gone.new.choice c.hear_of_neighbour.new.choice c.args.neighbours.now c.make_way-gone.new.neighbours c.hear_of_neighbour.new.neighbours.entries
    c.make_way-gone.ensures.same c.make_way-gone.ensures.forgets c.hear_of_neighbour.ensures.remembers

pub returns-clause-unsaid : goal.returns-clause-unsaid
returns-clause-unsaid g c = λ none. c.hear_of_neighbour.ensures.unsaid none ∙ c.make_way-gone.ensures.unsaid none
