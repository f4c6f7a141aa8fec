use Rattle.std.proofs.Common.{arith}
use Rattle.nd_table.proofs.Joining.{filled_around}
use Rattle.nd_table.proofs.blocks.Blocks.settle.Goals as goal

pub returns-clause-kept : goal.returns-clause-kept
returns-clause-kept g c = record {
  some = c.join-2.ensures.some (c.join.ensures.some (omega arith));
  short = c.join-2.ensures.short;
  filled = filled_around c.args.at _ c.join-2.new.self.blocks (omega arith)
      (c.join-2.ensures.before c.args.at (omega arith) (c.join.ensures.before c.args.at (omega arith) c.requires.before))
      c.join-2.ensures.filled;
}
