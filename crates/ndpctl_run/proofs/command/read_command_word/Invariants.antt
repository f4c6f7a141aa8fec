use Rattle.std.proofs.Common.{◌≡◌, ℕ, ◌<◌, Some}
use Rattle.std.specs.Prelude.{slice_get}
use Rattle.ndpctl_run.specs.declared.command.Command.{Command}
use Rattle.ndpctl_run.specs.Command.{command_word}
use Rattle.ndpctl_run.proofs.command.read_command_word.Given as goal

-- the commands so far have other words
abbrev pub invariant-loop-command : goal.invariant-loop-command
invariant-loop-command l = (k : ℕ) (command : Command) → k < l.command-index → slice_get l.command-items k ≡ Some command → l.word ≡ command_word command → ⊥
