use Rattle.std.proofs.Common.{◌≡◌, ◌+◌, ◌++◌, length, vec_len, vec_capacity}
use Rattle.nd_neighbour.proofs.removal.move_all.Given as goal

-- those that were moved and those that are left are all
abbrev pub invariant-loop-packet : goal.invariant-loop-packet
invariant-loop-packet g l = record {
  all : l.to.items ++ l.from ≡ l.fn.to.items ++ l.fn.from;
  room : vec_len l.to + length l.from ≡ vec_len l.fn.to + length l.fn.from;
  capacity : vec_capacity l.to ≡ vec_capacity l.fn.to;
}

abbrev pub decreases-loop-packet : goal.decreases-loop-packet
decreases-loop-packet g l = length l.from
