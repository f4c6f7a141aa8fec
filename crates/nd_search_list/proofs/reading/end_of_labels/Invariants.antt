use Rattle.std.proofs.Common.{◌≡◌, ◌+◌, length}
use Rattle.nd_search_list.specs.Reading.{end_from}
use Rattle.nd_search_list.proofs.reading.end_of_labels.Given as goal

-- what is left gives what all gives
abbrev pub invariant-loop-rest : goal.invariant-loop-rest
invariant-loop-rest l = record {
  same : l.before + end_from 0 l.rest ≡ end_from 0 l.bytes;
  count : l.before + length l.rest ≡ length l.bytes;
}

abbrev pub decreases-loop-rest : goal.decreases-loop-rest
decreases-loop-rest l = length l.rest
