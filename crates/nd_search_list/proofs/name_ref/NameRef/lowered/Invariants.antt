use Rattle.std.proofs.Common.{◌≡◌, map, take}
use Rattle.std.specs.Char.{to_ascii_lowercase}
use Rattle.nd_search_list.proofs.name_ref.NameRef.lowered.Given as goal

abbrev pub invariant-loop-byte : goal.invariant-loop-byte
invariant-loop-byte g l = l.name.items ≡ map to_ascii_lowercase (take l.byte-index l.bytes)
