use Rattle.nd_link.proofs.Answering.{passes_leads}
use Rattle.nd_link.proofs.link.Link.add.Goals as goal

pub returns-in-Passes-clause-leads : goal.returns-in-Passes-clause-leads
returns-in-Passes-clause-leads g c = λ faithful. rw c.in-Passes.is (passes_leads g.R.Rng.stream c.args.self.now c.reach.new.self c.args.told.now.items c.args.now c.reach.ensures.reaches)
