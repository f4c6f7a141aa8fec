use Rattle.std.proofs.Common.{refl}
use Rattle.nd_link.proofs.Standing.{none_started}
use Rattle.nd_link.proofs.link.Link.new.Goals as goal

pub returns-clause-stands : goal.returns-clause-stands
returns-clause-stands g c = none_started g.R.Rng.stream _ c.new.ensures.items c.new-2.ensures.items refl
