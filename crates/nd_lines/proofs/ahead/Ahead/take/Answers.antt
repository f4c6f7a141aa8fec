use Rattle.nd_lines.proofs.AheadLemmas.{in_hand-take}
use Rattle.nd_lines.proofs.ahead.Ahead.take.Goals as goal

pub returns-clause-rest : goal.returns-clause-rest
returns-clause-rest g c = in_hand-take _ _ _ _ c.requires
