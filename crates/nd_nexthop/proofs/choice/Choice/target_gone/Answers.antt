use Rattle.std.proofs.Common.{◌∙◌, ap, Some, map}
use Rattle.nd_addr.specs.Number.{number_of}
use Rattle.nd_nexthop.specs.Choice.{ended}
use Rattle.nd_nexthop.specs.Memo.{forgotten}
use Rattle.nd_nexthop.proofs.Steps.{gains_gone}
use Rattle.nd_nexthop.proofs.choice.Choice.target_gone.Goals as goal

pub returns : goal.returns
returns g c = record {
  memory = c.forget.ensures ∙ ap (λ t. forgotten t.memory) c.self.view_is;
  limit = ap (λ r. r.cap) c.end_each.ensures ∙ ap (λ t. t.redirects.limit) c.self.view_is;
  destinations = ap (λ m. m.limit) c.forget.ensures ∙ ap (λ t. t.redirects.destinations) c.self.view_is;
  stands = λ at.
      gains_gone c.args.self.now _ at (number_of c.args.target.0) (ap (λ r. r.cap) c.end_each.ensures ∙ ap (λ t. t.redirects.limit) c.self.view_is)
      (ap (λ r. r.entries) c.end_each.ensures ∙ ap (λ t. map (ended (Some (number_of c.args.target.0))) t.redirects.entries) c.self.view_is);
}
