use Rattle.std.proofs.Common.{arith, subst}
use Rattle.std.specs.Prelude.{slice_get}
use Rattle.nd_forwarding.specs.KeptRoutes.{entry_of, routes_left}
use Rattle.nd_c_types.specs.Route.{route_row}
use Rattle.nd_c.specs.Rows.{IsRowOf, RouteAt}
use Rattle.nd_c.proofs.Filled.{filled}
use Rattle.nd_c.proofs.all_rows.routes.Goals as goal

pub returns : goal.returns
returns c =
    let f = c.fill.ensures in
    record {
      early = λ early. absurd (omega (arith, early, c.if-is_past.ensures));
      rows = λ late. filled entry_of routes_left route_row (λ index row. RouteAt index c.args.session.now row) c.routes.result f.1 f.2
          (λ index row is. record { each = λ start chronicle stands. subst (λ l. IsRowOf entry_of route_row (slice_get l index) row) (c.routes.ensures start chronicle stands) is }) f.0 _ _ _ _ f.3 f.4 f.5 f.6;
    }
