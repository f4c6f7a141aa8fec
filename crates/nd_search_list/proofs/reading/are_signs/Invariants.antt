use Rattle.std.proofs.Common.{◌≡◌, drop}
use Rattle.std.specs.List.{list_all}
use Rattle.nd_search_list.specs.Label.{is_sign}
use Rattle.nd_search_list.proofs.reading.are_signs.Given as goal

abbrev pub invariant-loop-byte : goal.invariant-loop-byte
invariant-loop-byte l = list_all is_sign (drop l.byte-index l.bytes) ≡ list_all is_sign l.bytes
