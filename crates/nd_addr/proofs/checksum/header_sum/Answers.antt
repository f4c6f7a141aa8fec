use Rattle.std.proofs.Common.{arith}
use Rattle.nd_addr.proofs.WordSums.{header_rest}
use Rattle.nd_addr.proofs.checksum.header_sum.Goals as goal

pub returns-clause-rest : goal.returns-clause-rest
returns-clause-rest c =
    header_rest c.args.source.0 c.args.destination.0 c.args.length _ _ (omega arith) (omega arith) c.address_sum.ensures.rest c.address_sum-2.ensures.rest
