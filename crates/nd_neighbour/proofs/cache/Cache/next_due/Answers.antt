use Rattle.std.proofs.Common.{◌≡◌, ◌∙◌, sym, ap}
use Rattle.nd_neighbour.specs.TableKept.{Table}
use Rattle.nd_neighbour.specs.DueKept.{next_in}
use Rattle.nd_neighbour.proofs.Dues.{next_is_due}
use Rattle.nd_neighbour.proofs.Planning.{next_planned}
use Rattle.nd_neighbour.proofs.cache.Cache.next_due.Goals as goal

pub returns-clause-value : goal.returns-clause-value
returns-clause-value g c =
    c.next.ensures.moment ∙ (next_planned c.self.inside.entries.items c.self.inside.dates c.self.invariant.3 c.next.ensures.order c.next.ensures.addresses ∙ ap (λ (t : Table). next_in t.entries) c.self.view_is)

pub returns-clause-due : goal.returns-clause-due
returns-clause-due g c = λ history s.
    let value : c.next.result ≡ next_in c.args.self.now.entries =
    c.next.ensures.moment ∙ (next_planned c.self.inside.entries.items c.self.inside.dates c.self.invariant.3 c.next.ensures.order c.next.ensures.addresses ∙ ap (λ (t : Table). next_in t.entries) c.self.view_is) in
    next_is_due c.args.self.now.entries history s c.next.result (sym value)
