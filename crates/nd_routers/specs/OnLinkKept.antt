-- Only what is kept, in the code's terms: the earliest end of the prefixes.
use Rattle.std.specs.Prelude.{ℕ, List, [], ◌∷◌, Option, None}
use Rattle.nd_addr.specs.Prefix.{PrefixValue}
use Rattle.nd_table.specs.declared.lasting.Lasting.{Lasting}
use Rattle.nd_table.specs.Due.{lesser}

-- the earliest end
abbrev pub least_end : List (Lasting PrefixValue) → Option ℕ
least_end [] = None
least_end (e ∷ es) = lesser e.end (least_end es)
