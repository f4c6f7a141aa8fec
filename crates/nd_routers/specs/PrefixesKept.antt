-- Only what is kept, in the code's terms: the prefixes on the link.
use Rattle.std.specs.Prelude.{ℕ, List}
use Rattle.nd_addr.specs.Prefix.{PrefixValue}
use Rattle.nd_table.specs.declared.lasting.Lasting.{Lasting}

-- how many there is room for, and those that there are with their ends, in the order in which they came
pub record Prefixes : Type 0 where
  pub limit : ℕ
  pub entries : List (Lasting PrefixValue)
