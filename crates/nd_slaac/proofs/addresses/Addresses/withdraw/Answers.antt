use Rattle.std.proofs.Common.{subst}
use Rattle.nd_addr.specs.Number.{number_of}
use Rattle.nd_slaac.specs.TableKept.{Table}
use Rattle.nd_slaac.specs.Calls.{Leaves}
use Rattle.nd_slaac.proofs.Altering.{leaves_gains}
use Rattle.nd_slaac.proofs.addresses.Addresses.withdraw.Goals as goal

pub returns-clause-gains : goal.returns-clause-gains
returns-clause-gains g c = λ yes at.
    let key = number_of c.args.addr.0 in
    let new = c.leave.new.entries.items in
    let l = c.leave.ensures.leaves yes in
    leaves_gains l.0 key at c.args.self.now.addresses new (subst (λ (t : Table). Leaves l.0 key t.addresses new) c.self.view_is l.1)
