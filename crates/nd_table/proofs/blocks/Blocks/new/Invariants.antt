use Rattle.std.proofs.Common.{◌≡◌, ◌≤◌, vec_len, vec_capacity}
use Rattle.nd_table.proofs.blocks.Blocks.new.Given as goal

-- so many blocks are to spare, and there is room for all
abbrev pub invariant-loop : goal.invariant-loop
invariant-loop g l = record {
  number : vec_len l.spare ≡ l.counter;
  room : l.count ≤ vec_capacity l.spare;
}
