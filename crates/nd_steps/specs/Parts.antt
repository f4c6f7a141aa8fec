-- What a message says of a neighbour for which the table is full: with the policy `parts` its link-layer address is passed over (RFC 8106, section 5.3.1).
use Rattle.std.specs.Prelude.{ℕ, Bool, true, false, Option, Some, None}
use Rattle.std.specs.Option.{option_map}
use Rattle.nd_neighbour.specs.History as neighbours

-- without the address: whether it is a router is left of one that gives it
abbrev pub without_address : ℕ → neighbours.RowKind → Option (ℕ × neighbours.RowKind)
without_address key (neighbours.Given mac mark) = option_map (λ router. (key, neighbours.Marked router)) mark
without_address key (neighbours.Advertised flags mac reachable) = Some (key, neighbours.Advertised flags None reachable)
without_address key kind = Some (key, kind)

abbrev pub said_in_place : Bool → Option (ℕ × neighbours.RowKind) → Option (ℕ × neighbours.RowKind)
said_in_place true said = said
said_in_place false None = None
said_in_place false (Some said) = without_address said.0 said.1
