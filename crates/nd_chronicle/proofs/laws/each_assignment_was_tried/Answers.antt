use Rattle.nd_chronicle.proofs.Holding.{assigned_in_rows}
use Rattle.nd_chronicle.proofs.laws.each_assignment_was_tried.Goals as goal

pub returns : goal.returns
returns c = λ start events c' over at key runs p. assigned_in_rows start events c' runs at key over p
