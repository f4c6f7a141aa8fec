use Rattle.nd_neighbour.proofs.Releasing.{awaited_is_given, few_released, released_to_given}
use Rattle.nd_neighbour.proofs.laws.released_to_the_given_address.Goals as goal

pub returns-clause-few : goal.returns-clause-few
returns-clause-few c = few_released

pub returns-clause-given : goal.returns-clause-given
returns-clause-given c = released_to_given

pub returns-clause-awaited : goal.returns-clause-awaited
returns-clause-awaited c = awaited_is_given
