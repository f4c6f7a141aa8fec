use Rattle.std.proofs.Common.{◌≡◌, ◌+◌, ◌≤◌, ◌↔◌, length, map, drop}
use Rattle.std.specs.List.{AllByRecursion}
use Rattle.nd_search_list.specs.Name.{IsName}
use Rattle.nd_message.specs.Owned.{labels_of}
use Rattle.nd_message.specs.Dnssl.{names_data}
use Rattle.nd_message.proofs.dnssl.names_length.Given as goal

-- the names that are left decide, and their bytes are what the length lacks
abbrev pub invariant-loop-name : goal.invariant-loop-name
invariant-loop-name g l =
    (l.length ≤ 2032) × (AllByRecursion IsName (map labels_of (drop l.name-index l.names)) ↔ AllByRecursion IsName (map labels_of l.names))
    × (l.length + length (names_data (map labels_of (drop l.name-index l.names))) ≡ length (names_data (map labels_of l.names)))
