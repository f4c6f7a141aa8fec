use Rattle.std.proofs.Common.{◌∙◌, ap}
use Rattle.std.specs.List.{insert}
use Rattle.nd_neighbour.specs.EntryKept.{NeighbourEntry}
use Rattle.nd_neighbour.specs.TableKept.{place_in}
use Rattle.nd_neighbour.specs.PlaceKept.{Came}
use Rattle.nd_neighbour.proofs.wanting.begin_wished.Goals as goal

pub returns-clause-gives : goal.returns-clause-gives
returns-clause-gives g c =
    let enters = c.enter.ensures.enters in
    Came enters.mid c.requires.absent enters.places (enters.new_is ∙ ap (λ (x : NeighbourEntry). insert enters.mid (place_in x.key enters.mid) x) c.wished-entry.ensures)
