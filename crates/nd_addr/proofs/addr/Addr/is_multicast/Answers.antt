use Rattle.nd_addr.proofs.Numbers.{first_byte, tested, same_test}
use Rattle.nd_addr.proofs.addr.Addr.is_multicast.Goals as goal

pub returns-clause-says : goal.returns-clause-says
returns-clause-says c =
    let first = first_byte c.args.self.now.0 c.as_bytes-bytes.ensures.bytes.len_is c.as_bytes-bytes.ensures.bytes.each in
    rw c.as_bytes-bytes.ensures.value (tested _ _ 255 first)

pub returns-clause-exactly : goal.returns-clause-exactly
returns-clause-exactly c =
    let first = first_byte c.args.self.now.0 c.as_bytes-bytes.ensures.bytes.len_is c.as_bytes-bytes.ensures.bytes.each in
    rw c.as_bytes-bytes.ensures.value (same_test _ _ _ (tested _ _ 255 first))
