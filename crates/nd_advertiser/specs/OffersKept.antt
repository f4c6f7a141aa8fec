-- Only what is kept, in the code's terms: the prefixes that are offered.
use Rattle.std.specs.Prelude.{ℕ, List}
use Rattle.nd_decode.specs.declared.prefix_info.PrefixInfo.{PrefixInfo}

-- how many there is room for, and those that there are, in the order in which each was first put
pub record Offers : Type 0 where
  pub limit : ℕ
  pub offers : List PrefixInfo
