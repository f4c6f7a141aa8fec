use Rattle.std.proofs.Common.{◌≡◌, ◌+◌, ◌∙◌, ap, subst, sym, true}
use Rattle.nd_addr.specs.Number.{number_of}
use Rattle.nd_neighbour.specs.ReachabilityConfirmationKept.{confirmed}
use Rattle.nd_neighbour.specs.LeaseKept.{outlasts}
use Rattle.nd_neighbour.specs.TableKept.{Alters, Rises, Table, entry_in}
use Rattle.nd_neighbour.proofs.Leases.{confirmed_leaves}
use Rattle.nd_neighbour.proofs.NewsCalls.{confirmed_gains}
use Rattle.nd_neighbour.proofs.cache.Cache.confirmed.Goals as goal

pub returns-clause-stands : goal.returns-clause-stands
returns-clause-stands g c =
    let key = number_of c.args.addr.0 in
    let new = c.confirm.new.entries.items in
    confirmed_gains key c.args.now c.args.reachable c.args.self.now.entries new
    (subst (λ (t : Table). Alters key (λ n. confirmed c.args.now c.args.reachable n) t.entries new) c.self.view_is c.confirm.ensures.alters)

pub returns-clause-leaves : goal.returns-clause-leaves
returns-clause-leaves g c = λ leaves.
    let key = number_of c.args.addr.0 in
    let new = c.confirm.new.entries.items in
    let within : outlasts (c.args.now + c.args.reachable) (entry_in key c.args.self.now.entries) ≡ true =
    ap (λ (t : Table). outlasts (c.args.now + c.args.reachable) (entry_in key t.entries)) (sym c.self.view_is) ∙ (sym (c.outlasts-leaves.ensures ∙ ap (λ l. outlasts (c.args.now + c.args.reachable) (entry_in key l)) c.deref.ensures.value) ∙ leaves) in
    confirmed_leaves c.args.now c.args.reachable key c.args.self.now.entries new (subst (λ (t : Table). Rises t.entries) c.self.view_is c.self.invariant.3.order) within
    (subst (λ (t : Table). Alters key (λ n. confirmed c.args.now c.args.reachable n) t.entries new) c.self.view_is c.confirm.ensures.alters)
