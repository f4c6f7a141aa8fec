use Rattle.nd_forwarding.proofs.Looks.{is_longest, none_longest}
use Rattle.nd_forwarding.proofs.laws.longest_route.Goals as goal

pub returns-clause-longest : goal.returns-clause-longest
returns-clause-longest c = is_longest

pub returns-clause-none : goal.returns-clause-none
returns-clause-none c = none_longest
