use Rattle.std.proofs.Common.{arith}
use Rattle.nd_neighbour.specs.View.{seen_in}
use Rattle.nd_neighbour.specs.Left.{neighbours_left}
use Rattle.nd_c_types.specs.Neighbour.{neighbour_row}
use Rattle.nd_c.specs.Rows.{NeighbourAt}
use Rattle.nd_c.proofs.Filled.{filled}
use Rattle.nd_c.proofs.all_rows.neighbours.Goals as goal

pub returns : goal.returns
returns c =
    let f = c.fill.ensures in
    record {
      early = λ early. absurd (omega (arith, early, c.if-is_past.ensures));
      rows = λ late. filled seen_in neighbours_left neighbour_row (λ index row. NeighbourAt c.args.now index c.args.session.now row) c.neighbours.result f.1 f.2
          (λ index row is. record { each = λ start chronicle stands. (neighbours_left c.neighbours.result, c.neighbours.ensures start chronicle stands, is) }) f.0 _ _ _ _ f.3 f.4 f.5 f.6;
    }
