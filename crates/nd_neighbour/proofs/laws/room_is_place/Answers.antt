use Rattle.nd_neighbour.proofs.Second.{room_has_place}
use Rattle.nd_neighbour.proofs.laws.room_is_place.Goals as goal

pub returns : goal.returns
returns c = room_has_place
