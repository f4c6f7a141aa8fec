use Rattle.std.proofs.Common.{ℕ, ap, subst}
use Rattle.nd_addr.specs.declared.addr.Addr.{Addr}
use Rattle.nd_addr.specs.Number.{number_of}
use Rattle.nd_slaac.specs.TableKept.{Table}
use Rattle.nd_slaac.specs.Calls.{Sets}
use Rattle.nd_slaac.proofs.Altering.{gains_set}
use Rattle.nd_slaac.proofs.addresses.Addresses.set_by_hand.Goals as goal

pub returns-clause-gains : goal.returns-clause-gains
returns-clause-gains g c =
    let key = number_of c.args.own.now.address.0 in
    let lifetimes = c.args.own.now.lifetimes in
    let new = c.set.new.entries.items in
    gains_set c.args.now key c.args.retrans lifetimes c.set.result c.args.self.now.addresses new
    (subst (λ (k : ℕ). Sets c.args.now k lifetimes c.args.retrans c.set.result c.args.self.now.addresses new) (ap (λ (a : Addr). number_of a.0) c.addr-addr.ensures.value)
    (subst (λ (t : Table). Sets c.args.now (number_of c.addr-addr.result.0) lifetimes c.args.retrans c.set.result t.addresses new) c.self.view_is c.set.ensures.sets))
