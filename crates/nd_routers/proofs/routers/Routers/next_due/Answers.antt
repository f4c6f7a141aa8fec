use Rattle.std.proofs.Common.{◌≡◌, ◌∙◌, sym, ap}
use Rattle.nd_routers.specs.RoutersKept.{next_end}
use Rattle.nd_routers.proofs.Dues.{next_is_due}
use Rattle.nd_routers.proofs.Planning.{next_planned}
use Rattle.nd_routers.proofs.routers.Routers.next_due.Goals as goal

pub returns-clause-value : goal.returns-clause-value
returns-clause-value g c =
    c.next.ensures.moment ∙ (next_planned c.self.inside.entries.items c.self.inside.dates c.self.invariant.6 c.next.ensures.order c.next.ensures.addresses ∙ ap (λ t. next_end t.entries) c.self.view_is)

pub returns-clause-due : goal.returns-clause-due
returns-clause-due g c = λ history s.
    let value : c.next.result ≡ next_end c.args.self.now.entries =
    c.next.ensures.moment ∙ (next_planned c.self.inside.entries.items c.self.inside.dates c.self.invariant.6 c.next.ensures.order c.next.ensures.addresses ∙ ap (λ t. next_end t.entries) c.self.view_is) in
    next_is_due c.args.self.now.entries history s.routers c.next.result (sym value)
