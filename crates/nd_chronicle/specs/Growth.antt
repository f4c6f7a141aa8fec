-- A chronicle only grows: what happened stays, with what happens later on top.
use Rattle.std.specs.Prelude.{◌≡◌, ◌++◌}
use Rattle.nd_chronicle.specs.Happening.{Chronicle}

pub record Grows (c d : Chronicle) : Type 0 where
  pub newer : Chronicle
  pub all : d ≡ newer ++ c
