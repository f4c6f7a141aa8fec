use Rattle.std.proofs.Common.{arith, subst}
use Rattle.std.specs.Prelude.{slice_get}
use Rattle.nd_nexthop.specs.Left.{redirect_of, redirects_left}
use Rattle.nd_c_types.specs.Redirect.{redirect_row}
use Rattle.nd_c.specs.Rows.{IsRowOf, RedirectAt}
use Rattle.nd_c.proofs.Filled.{filled}
use Rattle.nd_c.proofs.all_rows.redirects.Goals as goal

pub returns : goal.returns
returns c =
    let f = c.fill.ensures in
    record {
      early = λ early. absurd (omega (arith, early, c.if-is_past.ensures));
      rows = λ late. filled redirect_of redirects_left redirect_row (λ index row. RedirectAt index c.args.session.now row) c.redirects.result f.1 f.2
          (λ index row is. record { each = λ start chronicle stands. subst (λ l. IsRowOf redirect_of redirect_row (slice_get l index) row) (c.redirects.ensures start chronicle stands) is }) f.0 _ _ _ _ f.3 f.4 f.5 f.6;
    }
