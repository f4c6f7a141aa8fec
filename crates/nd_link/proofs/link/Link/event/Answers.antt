use Rattle.std.proofs.Common.{refl}
use Rattle.nd_link.proofs.Answering.{told_nothing}
use Rattle.nd_link.proofs.link.Link.event.Goals as goal

pub returns-then-self-clause-told : goal.returns-then-self-clause-told
returns-then-self-clause-told g c = told_nothing g.R.Rng.stream c.args.self.now c.args.told.now.items c.args.told.now.items c.args.now refl
