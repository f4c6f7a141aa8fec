use Rattle.std.proofs.Common.{◌≡◌, ◌+◌, ◌≤◌, true, length}
use Rattle.nd_search_list.specs.Reading.{are_zeros}
use Rattle.nd_search_list.specs.Names.{names_in, rest_in}
use Rattle.nd_search_list.proofs.names.Names.len.Given as goal

abbrev pub invariant-loop-after : goal.invariant-loop-after
invariant-loop-after l = record {
  counted : l.count + length (names_in l.rest) ≡ length (names_in l.self.rest.now);
  fewer : l.count + length l.rest ≤ length l.self.rest.now;
  padded : are_zeros (rest_in l.rest) ≡ true;
}

abbrev pub decreases-loop-after : goal.decreases-loop-after
decreases-loop-after l = length l.rest
