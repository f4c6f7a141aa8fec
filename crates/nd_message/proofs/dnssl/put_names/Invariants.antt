use Rattle.std.proofs.Common.{map, drop}
use Rattle.nd_message.specs.Owned.{labels_of}
use Rattle.nd_message.specs.Dnssl.{names_data}
use Rattle.nd_message.proofs.Putting.{IsPutting}
use Rattle.nd_message.proofs.dnssl.put_names.Given as goal

abbrev pub invariant-loop-name : goal.invariant-loop-name
invariant-loop-name g l = IsPutting l.fn.out l.out (names_data (map labels_of (drop l.name-index l.names))) (names_data (map labels_of l.names))
