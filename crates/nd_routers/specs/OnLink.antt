-- What is asked of the prefixes that stand.
use Rattle.std.specs.Prelude.{ℕ, Bool, ◌||◌, List}
use Rattle.std.specs.List.{list_any}
use Rattle.nd_addr.specs.Kind.{link_local_subnet}
use Rattle.nd_addr.specs.Number.{holds}
use Rattle.nd_addr.specs.Prefix.{PrefixValue}
use Rattle.nd_table.specs.declared.lasting.Lasting.{Lasting}

-- an address is on the link, where these prefixes are: fe80::/64 always is
abbrev pub is_held : List ℕ → List (Lasting PrefixValue) → Bool
is_held address es = holds link_local_subnet address || list_any (λ e. holds e.key address) es
