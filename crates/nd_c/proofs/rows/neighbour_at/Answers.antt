use Rattle.std.proofs.Common.{Some, None}
use Rattle.nd_neighbour.specs.View.{seen_in}
use Rattle.nd_neighbour.specs.Left.{neighbours_left}
use Rattle.nd_c.proofs.Nth.{nth_is}
use Rattle.nd_c.proofs.rows.neighbour_at.Goals as goal

pub returns-in-Some : goal.returns-in-Some
returns-in-Some c = record {
  each = λ start chronicle stands. (neighbours_left c.neighbours.result, c.neighbours.ensures start chronicle stands, (c.in-Some.neighbour, nth_is seen_in neighbours_left c.args.index c.neighbours.result c.nth.new.self (Some c.in-Some.neighbour) c.in-Some.ensures.ran, c.of.ensures));
}

pub returns-in-None : goal.returns-in-None
returns-in-None c = record {
  each = λ start chronicle stands. (neighbours_left c.neighbours.result, c.neighbours.ensures start chronicle stands, nth_is seen_in neighbours_left c.args.index c.neighbours.result c.nth.new.self None c.in-None.ensures.ran);
}
