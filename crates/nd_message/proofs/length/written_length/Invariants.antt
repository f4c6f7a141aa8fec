use Rattle.std.proofs.Common.{◌≡◌, ◌+◌, ◌≤◌, ◌↔◌, length, map, drop}
use Rattle.std.specs.List.{flat_map}
use Rattle.nd_message.specs.Owned.{said}
use Rattle.nd_message.specs.Spelling.{piece_of, fields_of}
use Rattle.nd_message.specs.Fitting.{FitsBody, FitsBehind}
use Rattle.nd_message.proofs.length.written_length.Given as goal

-- the options that are left decide, and their pieces are what the length lacks
abbrev pub invariant-loop-option : goal.invariant-loop-option
invariant-loop-option g l =
    (l.length ≤ 65535) × (FitsBehind l.length (map said (drop l.option-index l.options)) ↔ FitsBehind (length (fields_of 0 l.body)) (map said l.options)) × FitsBody l.body
    × (l.length + length (flat_map piece_of (map said (drop l.option-index l.options))) ≡ length (fields_of 0 l.body) + length (flat_map piece_of (map said l.options)))
