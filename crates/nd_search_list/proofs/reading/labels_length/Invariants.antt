use Rattle.std.proofs.Common.{◌≡◌, ◌+◌, ◌≤◌, length}
use Rattle.nd_search_list.specs.Reading.{labels_from}
use Rattle.nd_search_list.proofs.reading.labels_length.Given as goal

-- what is left gives what all gives
abbrev pub invariant-loop-rest : goal.invariant-loop-rest
invariant-loop-rest l = record {
  same : labels_from l.before 0 l.rest ≡ labels_from 0 0 l.bytes;
  within : l.before + length l.rest ≤ length l.bytes;
}

abbrev pub decreases-loop-rest : goal.decreases-loop-rest
decreases-loop-rest l = length l.rest
