use Rattle.std.proofs.Common.{◌≡◌, ◌+◌, ◌++◌, ◌≤◌, length}
use Rattle.nd_out.specs.Out.{loss_of}
use Rattle.nd_steps.specs.Outputs.{happenings}
use Rattle.nd_steps.proofs.Telling.{lost_at}
use Rattle.nd_steps.proofs.due_rows.tell_lost.Given as goal

-- what was reported and what is left is all that is to be reported
abbrev pub invariant-loop-packet : goal.invariant-loop-packet
invariant-loop-packet g l = record {
  room : length l.rest ≤ l.outs.free;
  len : l.fn.outs.free + length l.rest ≤ l.outs.free + length l.fn.packets;
  told : happenings l.outs.items ++ lost_at l.at (loss_of l.why) l.rest ≡ happenings l.fn.outs.items ++ lost_at l.fn.at (loss_of l.fn.why) l.fn.packets;
}

abbrev pub decreases-loop-packet : goal.decreases-loop-packet
decreases-loop-packet g l = length l.rest
