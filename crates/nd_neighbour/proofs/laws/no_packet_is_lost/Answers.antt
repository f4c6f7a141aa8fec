use Rattle.nd_neighbour.proofs.LastThree.{few_wait, nothing_lost, none_lost}
use Rattle.nd_neighbour.proofs.laws.no_packet_is_lost.Goals as goal

pub returns-clause-few : goal.returns-clause-few
returns-clause-few c = few_wait

pub returns-clause-kept : goal.returns-clause-kept
returns-clause-kept c = nothing_lost

pub returns-clause-history : goal.returns-clause-history
returns-clause-history c = none_lost
