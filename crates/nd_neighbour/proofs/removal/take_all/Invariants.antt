use Rattle.std.proofs.Common.{◌≡◌, ◌+◌, ◌≤◌, ◌++◌, length, vec_len, vec_capacity}
use Rattle.nd_neighbour.specs.Removal.{all_waiting}
use Rattle.nd_neighbour.proofs.removal.take_all.Given as goal

-- those that were reported and those of the rest are all
abbrev pub invariant-loop-entries : goal.invariant-loop-entries
invariant-loop-entries g l = record {
  all : l.packets.items ++ all_waiting l.entries.items ≡ all_waiting l.fn.entries.items;
  room : vec_len l.packets + length (all_waiting l.entries.items) ≤ vec_capacity l.packets;
  few : vec_len l.entries ≤ vec_len l.fn.entries;
  capacity : vec_capacity l.entries ≡ vec_capacity l.fn.entries;
}

abbrev pub decreases-loop-entries : goal.decreases-loop-entries
decreases-loop-entries g l = vec_len l.entries
