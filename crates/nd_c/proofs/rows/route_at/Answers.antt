use Rattle.std.proofs.Common.{◌∙◌, Some, None, sym, ap}
use Rattle.std.specs.Prelude.{slice_get}
use Rattle.nd_forwarding.specs.KeptRoutes.{entry_of, routes_left}
use Rattle.nd_c.proofs.Nth.{nth_is}
use Rattle.nd_c.proofs.rows.route_at.Goals as goal

pub returns-in-Some : goal.returns-in-Some
returns-in-Some c = record {
  each = λ start chronicle stands. (c.in-Some.route, ap (λ l. slice_get l c.args.index) (sym (c.routes.ensures start chronicle stands)) ∙ nth_is entry_of routes_left c.args.index c.routes.result c.nth.new.self (Some c.in-Some.route) c.in-Some.ensures.ran, c.of.ensures.value);
}

pub returns-in-None : goal.returns-in-None
returns-in-None c = record {
  each = λ start chronicle stands. ap (λ l. slice_get l c.args.index) (sym (c.routes.ensures start chronicle stands)) ∙ nth_is entry_of routes_left c.args.index c.routes.result c.nth.new.self None c.in-None.ensures.ran;
}
