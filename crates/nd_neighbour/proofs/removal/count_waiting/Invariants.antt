use Rattle.std.proofs.Common.{◌≡◌, ◌+◌, ◌*◌, ◌≤◌, drop, length}
use Rattle.nd_neighbour.specs.Removal.{all_waiting}
use Rattle.nd_neighbour.proofs.removal.count_waiting.Given as goal

-- those so far and those of the rest are all
abbrev pub invariant-loop-entry : goal.invariant-loop-entry
invariant-loop-entry g l = record {
  all : l.count + length (all_waiting (drop l.entry-index l.entries)) ≡ length (all_waiting l.entries);
  few : l.count ≤ 8 * l.entry-index;
}
