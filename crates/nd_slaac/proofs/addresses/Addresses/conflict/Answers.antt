use Rattle.std.proofs.Common.{ℕ, ◌≤◌, subst, sym}
use Rattle.nd_slaac.proofs.Planning.{failed_rises, failed_ends_stay}
use Rattle.nd_addr.specs.Number.{number_of}
use Rattle.nd_slaac.specs.TableKept.{Table}
use Rattle.nd_slaac.specs.Calls.{Alters, failed}
use Rattle.nd_slaac.proofs.Altering.{conflict_gains}
use Rattle.nd_slaac.proofs.addresses.Addresses.conflict.Goals as goal

pub returns-clause-gains : goal.returns-clause-gains
returns-clause-gains g c = λ yes' at.
    let key = number_of c.args.addr.0 in
    let new = c.fail.new.entries.items in
    conflict_gains key at c.args.self.now.addresses new (subst (λ (t : Table). Alters key failed t.addresses new) c.self.view_is (c.fail.ensures.alters yes'))

pub invariant_of-self : goal.invariant_of-self
invariant_of-self g c =
    let key = number_of c.args.addr.0 in
    let old = c.self.inside.entries.items in
    let new = c.fail.new.entries.items in
    let limit = c.self.inside.limit in
    let planned = c.self.invariant.2 in (
      subst (λ (n : ℕ). n ≤ limit) (sym c.fail.ensures.len) c.self.invariant.0,
      subst (λ (n : ℕ). limit ≤ n) (sym c.fail.ensures.capacity) c.self.invariant.1,
      record {
        order = failed_rises key old new planned.order c.fail.result c.fail.ensures.alters c.fail.ensures.same;
        end_dates = failed_ends_stay key old new planned.order c.fail.result c.fail.ensures.alters c.fail.ensures.same c.self.inside.ends.dates planned.end_dates;
        step_dates = c.fail.ensures.dates;
      },
      c.self.invariant.3,
      c.self.invariant.4,
      subst (λ (n : ℕ). limit ≤ n) (sym c.fail.ensures.room) c.self.invariant.5,
      c.self.invariant.6,
    )
