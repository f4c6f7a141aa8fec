use Rattle.nd_table.proofs.Moving.{moved_down}
use Rattle.nd_table.proofs.block.change_down.Goals as goal

pub returns : goal.returns
returns c = moved_down c.args.dates.now c.rotate_right.new.self c.args.to c.args.from c.args.date c.requires.down c.requires.within c.rotate_right.ensures.after
