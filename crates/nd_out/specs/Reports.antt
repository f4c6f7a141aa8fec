-- The reports of a node that its caller has not taken yet.
use Rattle.std.specs.Prelude.{ℕ, List}
use Rattle.nd_out.specs.declared.out.Out.{Out}

-- the reports with their moments, in milliseconds, the oldest first, and for how many more there is room
pub record Reported (A : Type 0) : Type 0 where
  pub items : List (ℕ × Out A)
  pub free : ℕ
