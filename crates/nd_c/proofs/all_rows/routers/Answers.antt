use Rattle.std.proofs.Common.{arith}
use Rattle.nd_routers.specs.View.{seen_in}
use Rattle.nd_routers.specs.Left.{routers_left}
use Rattle.nd_c_types.specs.Router.{router_row}
use Rattle.nd_c.specs.Rows.{RouterAt}
use Rattle.nd_c.proofs.Filled.{filled}
use Rattle.nd_c.proofs.all_rows.routers.Goals as goal

pub returns : goal.returns
returns c =
    let f = c.fill.ensures in
    record {
      early = λ early. absurd (omega (arith, early, c.if-is_past.ensures));
      rows = λ late. filled seen_in routers_left router_row (λ index row. RouterAt c.args.now index c.args.session.now row) c.default_routers.result f.1 f.2
          (λ index row is. record { each = λ start chronicle stands. (routers_left c.default_routers.result, c.default_routers.ensures start chronicle stands, is) }) f.0 _ _ _ _ f.3 f.4 f.5 f.6;
    }
