use Rattle.std.proofs.Common.{refl, sym, ◌∙◌, ap}
use Rattle.std.specs.Prelude.{is_ok}
use Rattle.nd_node.proofs.RouterCommands.{puts_route}
use Rattle.nd_node.proofs.node.Node.put_route.Goals as goal

pub returns-in-Ok-clause-adds : goal.returns-in-Ok-clause-adds
returns-in-Ok-clause-adds g c =
    rw c.advance_to.ensures (puts_route g.R.Rng.stream c.args.self.now _ c.args.now c.requires.settled c.in-Router.is (record c.args.self.now.router { routes = c.put.new.self }) refl c.args.outs.now.items
    c.args.kept.prefix c.args.kept.route (λ history s. sym (ap is_ok c.in-Ok.is) ∙ c.put.ensures.by_history history s) refl c.in-Ok.ensures.stands c.put.ensures.limit)
