use Rattle.nd_addr.proofs.Written.{headers_first, length-headers}
use Rattle.nd_addr.proofs.laws.headers_come_first.Goals as goal

pub returns-clause-frame : goal.returns-clause-frame
returns-clause-frame c = headers_first

pub returns-clause-len : goal.returns-clause-len
returns-clause-len c = length-headers
