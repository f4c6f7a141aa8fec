use Rattle.std.proofs.Common.{ℕ, ◌∙◌, ap}
use Rattle.nd_nexthop.specs.History.{redirects}
use Rattle.nd_chronicle.specs.Histories.{redirect_history}
use Rattle.nd_node.proofs.node.Node.redirects.Goals as goal

pub returns : goal.returns
returns g c = λ start c' s.
    c.rows.ensures.by_history (redirect_history c') s.redirects ∙ ap (λ (limit : ℕ). redirects limit (redirect_history c')) s.limits.redirects
