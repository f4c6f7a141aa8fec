use Rattle.std.proofs.Common.{◌∙◌, ap}
use Rattle.nd_nexthop.specs.History.{those_left}
use Rattle.nd_nexthop.proofs.choice.Choice.rows.Goals as goal

pub returns-clause-by_history : goal.returns-clause-by_history
returns-clause-by_history g c = λ history s.
    c.new.ensures ∙ (ap those_left (c.iter.ensures.rest ∙ ap (λ t. t.redirects.entries) c.self.view_is) ∙ ap those_left s.entries_are)
