use Rattle.std.proofs.Common.{refl}
use Rattle.nd_chronicle.specs.Event as events
use Rattle.nd_node.proofs.Steps.{too_late}
use Rattle.nd_node.proofs.node.Node.refuse_past.Goals as goal

pub returns-clause-past : goal.returns-clause-past
returns-clause-past g c = λ (event : events.Event). too_late g.R.Rng.stream c.args.self.now c.args.outs.now.items c.push.new.self.items c.args.now event _ refl c.requires c.in_ok-push.ensures.items
