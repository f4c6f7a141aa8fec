use Rattle.std.proofs.Common.{◌≡◌, ◌+◌, ◌++◌, ◌<◌, ◌≤◌, length}
use Rattle.std.specs.Prelude.{string_bytes, string_len}
use Rattle.std.specs.String.{string_capacity}
use Rattle.std.specs.List.{AllByRecursion}
use Rattle.nd_search_list.specs.Name.{lowered}
use Rattle.nd_search_list.specs.Text.{text_from}
use Rattle.nd_search_list.proofs.text.push_from.Given as goal

abbrev pub invariant-loop-rest : goal.invariant-loop-rest
invariant-loop-rest g l = (string_bytes l.text ++ text_from l.left (lowered l.rest) ≡ string_bytes l.fn.text ++ text_from l.first (lowered l.bytes))
    × AllByRecursion (λ byte. byte < 128) l.rest × (l.left < 256) × (string_len l.text + length l.rest ≤ string_capacity l.text)

abbrev pub decreases-loop-rest : goal.decreases-loop-rest
decreases-loop-rest g l = length l.rest
