use Rattle.std.proofs.Common.{◌≡◌, ◌+◌, ◌++◌, ◌≤◌, length}
use Rattle.nd_steps.specs.Outputs.{happenings}
use Rattle.nd_steps.proofs.Released.{sent_at}
use Rattle.nd_steps.proofs.neighbour_cache.send_each.Given as goal

-- what was reported and what is left is all that is to be reported
abbrev pub invariant-loop-packet : goal.invariant-loop-packet
invariant-loop-packet g l = record {
  room : length l.rest ≤ l.outs.free;
  len : l.fn.outs.free + length l.rest ≤ l.outs.free + length l.fn.packets;
  told : happenings l.outs.items ++ sent_at l.at l.mac l.rest ≡ happenings l.fn.outs.items ++ sent_at l.fn.at l.fn.mac l.fn.packets;
}

abbrev pub decreases-loop-packet : goal.decreases-loop-packet
decreases-loop-packet g l = length l.rest
