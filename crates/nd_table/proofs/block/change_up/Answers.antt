use Rattle.nd_table.proofs.Moving.{moved_up}
use Rattle.nd_table.proofs.block.change_up.Goals as goal

pub returns : goal.returns
returns c = moved_up c.args.dates.now c.rotate_left.new.self c.args.from c.args.to c.args.date c.requires.up c.requires.within c.rotate_left.ensures.after
