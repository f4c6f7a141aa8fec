use Rattle.std.proofs.Common.{◌∙◌, ap, None, map}
use Rattle.nd_nexthop.specs.Choice.{ended}
use Rattle.nd_nexthop.specs.Memo.{forgotten}
use Rattle.nd_nexthop.proofs.Steps.{gains_clear}
use Rattle.nd_nexthop.proofs.choice.Choice.clear.Goals as goal

pub returns : goal.returns
returns g c = record {
  memory = c.forget.ensures ∙ ap (λ t. forgotten t.memory) c.self.view_is;
  limit = ap (λ r. r.cap) c.end_each.ensures ∙ ap (λ t. t.redirects.limit) c.self.view_is;
  destinations = ap (λ m. m.limit) c.forget.ensures ∙ ap (λ t. t.redirects.destinations) c.self.view_is;
  stands = λ at.
      gains_clear c.args.self.now _ at (ap (λ r. r.cap) c.end_each.ensures ∙ ap (λ t. t.redirects.limit) c.self.view_is)
      (ap (λ r. r.entries) c.end_each.ensures ∙ ap (λ t. map (ended None) t.redirects.entries) c.self.view_is);
}
