use Rattle.std.proofs.Common.{◌∙◌, sym}
use Rattle.nd_chronicle.specs.Histories.{address_history, route_history}
use Rattle.nd_chronicle.specs.OwnAddress.{is_own}
use Rattle.nd_node.proofs.InTransit.{redirects_another, redirects_none}
use Rattle.nd_node.proofs.node.Node.redirect_target.Goals as goal

pub returns-in_err-target : goal.returns-in_err-target
returns-in_err-target g c = λ start c' packet s is mine.
    c.from_residual.ensures ∙ redirects_none start c.args.now packet c.args.header.now is c' (c.in_err-target.ensures.by_history (is_own c') mine (route_history c') s.router.routes)

pub returns : goal.returns
returns g c = λ start c' packet s is mine.
    redirects_another start c.args.now packet c.args.header.now is c' c.in_ok-target.target (sym c.if-counts.false ∙ c.counts.ensures.by_history (address_history c') s.addresses)
    (c.in_ok-target.ensures.by_history (is_own c') mine (route_history c') s.router.routes)
