use Rattle.std.proofs.Common.{◌≡◌, ◌∙◌, sym, ap}
use Rattle.nd_table.specs.Due.{lesser}
use Rattle.nd_table.specs.Dates.{first_moment}
use Rattle.nd_slaac.specs.TableKept.{Table}
use Rattle.nd_slaac.specs.Dates.{next_in}
use Rattle.nd_slaac.proofs.Dues.{next_is_due}
use Rattle.nd_slaac.proofs.Planning.{next_planned}
use Rattle.nd_slaac.proofs.addresses.Addresses.next_due.Goals as goal

pub returns-clause-value : goal.returns-clause-value
returns-clause-value g c =
    let xs = c.self.inside.entries.items in
    let planned = next_planned xs c.self.inside.ends c.self.inside.steps c.self.invariant.2 c.next.ensures.order c.next.ensures.addresses c.next-2.ensures.order c.next-2.ensures.addresses in
    c.lesser.ensures ∙ (ap (λ o. lesser o c.next-2.result) c.next.ensures.moment ∙ (ap (lesser (first_moment c.self.inside.ends.dates)) c.next-2.ensures.moment
    ∙ (planned ∙ ap (λ (t : Table). next_in t.addresses) c.self.view_is)))

pub returns-clause-due : goal.returns-clause-due
returns-clause-due g c = λ history s.
    let xs = c.self.inside.entries.items in
    let planned = next_planned xs c.self.inside.ends c.self.inside.steps c.self.invariant.2 c.next.ensures.order c.next.ensures.addresses c.next-2.ensures.order c.next-2.ensures.addresses in
    let value : c.lesser.result ≡ next_in c.args.self.now.addresses =
    c.lesser.ensures ∙ (ap (λ o. lesser o c.next-2.result) c.next.ensures.moment ∙ (ap (lesser (first_moment c.self.inside.ends.dates)) c.next-2.ensures.moment
    ∙ (planned ∙ ap (λ (t : Table). next_in t.addresses) c.self.view_is))) in
    next_is_due c.args.self.now.transmits c.args.self.now.addresses history s c.lesser.result (sym value)
