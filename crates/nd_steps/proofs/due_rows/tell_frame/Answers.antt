use Rattle.std.proofs.Common.{[], ◌∷◌, refl}
use Rattle.nd_chronicle.specs.Happening.{Sent}
use Rattle.nd_out.specs.declared.out.Out.TheVariants.{Frame}
use Rattle.nd_steps.proofs.Telling.{one_more}
use Rattle.nd_steps.proofs.due_rows.tell_frame.Goals as goal

pub returns-clause-sends : goal.returns-clause-sends
returns-clause-sends g c = (
  (c.args.at, Sent c.args.frame) ∷ [],
  one_more c.args.outs.now.items c.push_reserved.new.self.items c.args.at (Frame c.args.frame) c.push_reserved.ensures.items,
  ([], [], c.args.at, c.args.frame, refl),
)
