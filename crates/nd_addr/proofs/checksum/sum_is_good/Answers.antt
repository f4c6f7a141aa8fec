use Rattle.std.proofs.Common.{arith}
use Rattle.nd_addr.proofs.WordSums.{total_some, total_rest}
use Rattle.nd_addr.proofs.checksum.sum_is_good.Goals as goal

pub returns : goal.returns
returns c =
    let some = total_some c.args.source.0 c.args.destination.0 c.args.message.now (omega arith) (omega arith) in
    let rest = total_rest c.args.source.0 c.args.destination.0 c.args.message.now c.header_sum.result c.add_words.result (omega arith) (omega arith) c.header_sum.ensures.rest c.add_words.ensures in
    grind (arith, some, rest)
