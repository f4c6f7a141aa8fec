-- The lines of a script (the texts are this project's own).
use Rattle.std.specs.Prelude.{◌≡◌, ℕ, ◌<◌, ◌^◌, List, ◌∷◌, ◌++◌}
use Rattle.std.specs.Fmt.{decimal}
use Rattle.nd_chronicle.specs.Event.{Event}
use Rattle.ndpctl_run.specs.Command.{IsCommand}

-- the bytes spell a moment in milliseconds and an event: a decimal number below 2^62 with no leading zero, one space, and its command
pub record IsLine (bytes : List ℕ) (at : ℕ) (event : Event) : Type 0 where
  pub words : List ℕ
  pub bytes_are : bytes ≡ decimal at ++ 32 ∷ words
  pub early : at < 2 ^ 62
  pub spelled : IsCommand words event
