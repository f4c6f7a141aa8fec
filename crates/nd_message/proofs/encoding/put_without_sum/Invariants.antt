use Rattle.std.proofs.Common.{map, drop}
use Rattle.std.specs.List.{flat_map, AllByRecursion}
use Rattle.nd_message.specs.Owned.{said, whole_of}
use Rattle.nd_message.specs.Spelling.{piece_of, spelling}
use Rattle.nd_message.specs.Fitting.{FitsOption}
use Rattle.nd_message.proofs.Putting.{IsPutting}
use Rattle.nd_message.proofs.encoding.put_without_sum.Given as goal

abbrev pub invariant-loop-option : goal.invariant-loop-option
invariant-loop-option g l =
    IsPutting l.fn.out l.out (flat_map piece_of (map said (drop l.option-index l.options))) (spelling 0 (whole_of l.body l.options))
    × AllByRecursion FitsOption (map said (drop l.option-index l.options))
