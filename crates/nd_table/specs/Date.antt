-- A date of an entry.
use Rattle.std.specs.Prelude.{ℕ}

-- the moment at which something is due for it, and its address as a number
pub record Date : Type 0 where
  pub moment : ℕ
  pub number : ℕ
