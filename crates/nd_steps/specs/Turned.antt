-- What was due, as a turn returns it.
use Rattle.nd_addr.specs.Number.{number_of}
use Rattle.nd_slaac.specs.View as addresses
use Rattle.nd_neighbour.specs.View as neighbours
use Rattle.nd_chronicle.specs.Due.{What, RouterEnds, AddressFalls, NeighbourFalls, RoutersSolicited, RouterAdvertises, Redraws}
use Rattle.nd_steps.specs.declared.turned.Turned.{Turned}
use Rattle.nd_steps.specs.declared.turned.Turned.TheVariants.{EndedRouter, Address, Neighbour, SolicitedRouters, RouterAdvertised, Redrawn}

abbrev pub what_of : {A : Type 0} → Turned A → What
what_of (EndedRouter addr) = RouterEnds (number_of addr.0)
what_of (Address due) = AddressFalls (addresses.falls_of due)
what_of (Neighbour due) = NeighbourFalls (neighbours.falls_of due)
what_of SolicitedRouters = RoutersSolicited
what_of RouterAdvertised = RouterAdvertises
what_of Redrawn = Redraws
