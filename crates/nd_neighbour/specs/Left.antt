-- What an iterator over the neighbours has left.
use Rattle.std.specs.Prelude.{List, map}
use Rattle.nd_neighbour.specs.declared.shown.Neighbours.{Neighbours}
use Rattle.nd_neighbour.specs.Shown.{Seen}
use Rattle.nd_neighbour.specs.ShownKept.{seen}

abbrev pub neighbours_left : {A : Type 0} → Neighbours A → List Seen
neighbours_left n = map (seen n.moment) n.rest.now
