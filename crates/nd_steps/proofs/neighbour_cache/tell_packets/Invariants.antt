use Rattle.std.proofs.Common.{◌≡◌, ◌+◌, ◌++◌, ◌≤◌, length}
use Rattle.std.specs.Vec.Iter.{into_iter_items}
use Rattle.nd_chronicle.specs.Happening.{Forgotten}
use Rattle.nd_steps.specs.Outputs.{happenings}
use Rattle.nd_steps.proofs.Telling.{lost_at}
use Rattle.nd_steps.proofs.neighbour_cache.tell_packets.Given as goal

-- what was reported and what is left is all that is to be reported
abbrev pub invariant-loop-packet : goal.invariant-loop-packet
invariant-loop-packet g l = record {
  room : length (into_iter_items l.packet-iterator) ≤ l.outs.free;
  told : happenings l.outs.items ++ lost_at l.at Forgotten (into_iter_items l.packet-iterator) ≡ happenings l.fn.outs.items ++ lost_at l.fn.at Forgotten l.fn.packets.items;
}
