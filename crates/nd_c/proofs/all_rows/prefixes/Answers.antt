use Rattle.std.proofs.Common.{arith}
use Rattle.nd_table.specs.Left.{seen_in, lifetimes_left}
use Rattle.nd_c_types.specs.Prefix.{prefix_row}
use Rattle.nd_c.specs.Rows.{PrefixAt}
use Rattle.nd_c.proofs.Filled.{filled}
use Rattle.nd_c.proofs.all_rows.prefixes.Goals as goal

pub returns : goal.returns
returns c =
    let f = c.fill.ensures in
    record {
      early = λ early. absurd (omega (arith, early, c.if-is_past.ensures));
      rows = λ late. filled seen_in lifetimes_left prefix_row (λ index row. PrefixAt c.args.now index c.args.session.now row) c.prefixes.result f.1 f.2
          (λ index row is. record { each = λ start chronicle stands reached. (lifetimes_left c.prefixes.result, c.prefixes.ensures start chronicle stands reached, is) }) f.0 _ _ _ _ f.3 f.4 f.5 f.6;
    }
