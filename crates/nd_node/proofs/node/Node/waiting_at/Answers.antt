use Rattle.std.proofs.Common.{ℕ, ◌≤◌, subst}
use Rattle.nd_node.proofs.node.Node.waiting_at.Goals as goal

pub returns-clause-limit : goal.returns-clause-limit
returns-clause-limit g c start d s = subst (λ (limit : ℕ). c.waiting_at.result ≤ limit) s.limits.waiting c.waiting_at.ensures.limit
