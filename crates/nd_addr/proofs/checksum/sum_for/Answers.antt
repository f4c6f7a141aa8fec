use Rattle.std.proofs.Common.{arith}
use Rattle.nd_addr.proofs.WordSums.{written_is_good}
use Rattle.nd_addr.proofs.checksum.sum_for.Goals as goal

pub returns-clause-exact : goal.returns-clause-exact
returns-clause-exact c = omega (arith, c.sum_without_field-rest.ensures)

pub returns-clause-good : goal.returns-clause-good
returns-clause-good c = λ long.
    written_is_good c.args.source.0 c.args.destination.0 c.args.message.now _ (omega arith) (omega arith) long (omega arith) (returns-clause-exact c)
