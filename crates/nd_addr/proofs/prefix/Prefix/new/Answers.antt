use Rattle.std.proofs.Common.{arith}
use Rattle.nd_addr.proofs.Masking.{masked_is_prefix}
use Rattle.nd_addr.proofs.prefix.Prefix.new.Goals as goal

pub invariant_of-result : goal.invariant_of-result
invariant_of-result c =
    masked_is_prefix c.args.length c.args.address.0 c.first_bits.result c.if-length-gt128.false (omega arith) c.first_bits.ensures.masked c.first_bits.ensures.bytes
