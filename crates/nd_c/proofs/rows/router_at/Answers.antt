use Rattle.std.proofs.Common.{Some, None}
use Rattle.nd_routers.specs.View.{seen_in}
use Rattle.nd_routers.specs.Left.{routers_left}
use Rattle.nd_c.proofs.Nth.{nth_is}
use Rattle.nd_c.proofs.rows.router_at.Goals as goal

pub returns-in-Some : goal.returns-in-Some
returns-in-Some c = record {
  each = λ start chronicle stands. (routers_left c.default_routers.result, c.default_routers.ensures start chronicle stands, (c.in-Some.router, nth_is seen_in routers_left c.args.index c.default_routers.result c.nth.new.self (Some c.in-Some.router) c.in-Some.ensures.ran, c.of.ensures));
}

pub returns-in-None : goal.returns-in-None
returns-in-None c = record {
  each = λ start chronicle stands. (routers_left c.default_routers.result, c.default_routers.ensures start chronicle stands, nth_is seen_in routers_left c.args.index c.default_routers.result c.nth.new.self None c.in-None.ensures.ran);
}
