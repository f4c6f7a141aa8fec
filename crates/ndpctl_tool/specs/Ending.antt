-- How the program ends: the status that it exits with, and whether it was asked for help.
use Rattle.std.specs.Prelude.{ℕ, Bool, true, false, Result, Ok, Err}
use Rattle.std.specs.IoError.{error_kind}
use Rattle.std.specs.declared.io.Error.{Error}
use Rattle.std.specs.declared.io.ErrorKind.{ErrorKind}
use Rattle.std.specs.declared.io.ErrorKind.TheVariants.{OutOfMemory}
use Rattle.clap.specs.Words.{kind_of}
use Rattle.clap.specs.declared.error.kind.ErrorKind.{ErrorKind as FaultKind}
use Rattle.clap.specs.declared.error.kind.ErrorKind.TheVariants.{DisplayHelp, DisplayVersion}
use Rattle.nd_lines.specs.ToolFault.{status_of}
use Rattle.nd_lines.specs.declared.tool_fault.ToolFault.{ToolFault}
use Rattle.nd_lines.specs.declared.tool_fault.ToolFault.TheVariants as faults
use Rattle.ndpctl_args.specs.declared.asked.Refused.{Refused}
use Rattle.ndpctl_args.specs.declared.asked.Refused.TheVariants.{Told, Memory}
use Rattle.ndpctl_tool.specs.declared.ending.Ending.{Ending}
use Rattle.ndpctl_tool.specs.declared.ending.Ending.TheVariants as endings

-- 0 where it was done
abbrev pub status_of_done : {D : Type 0} → Result D ToolFault → ℕ
status_of_done (Ok done) = 0
status_of_done (Err fault) = status_of fault

-- 0 where the words ask for a help, 2 where they are wrong
abbrev pub status_of_words : FaultKind → ℕ
status_of_words DisplayHelp = 0
status_of_words DisplayVersion = 0
status_of_words k = 2

-- that of the words, 2 for a bad value, or that of running out of memory
abbrev pub status_of_refusal : Refused → ℕ
status_of_refusal (Told error) = status_of_words (kind_of error)
status_of_refusal Memory = status_of faults.Memory
status_of_refusal bad = 2

-- 2 where a word is no UTF-8
abbrev pub status_of_kind : ErrorKind → ℕ
status_of_kind OutOfMemory = status_of faults.Memory
status_of_kind k = 2

-- that of the kind of error with which the words can't be read
abbrev pub status_of_unread : Error → ℕ
status_of_unread error = status_of_kind (error_kind error)

-- that of how the program ends
abbrev pub status_of_ending : Ending → ℕ
status_of_ending endings.Done = 0
status_of_ending (endings.Faulty fault) = status_of fault
status_of_ending (endings.Refused refused) = status_of_refusal refused
status_of_ending endings.NotText = 2

-- the words ask for a help
abbrev pub is_help_of_words : FaultKind → Bool
is_help_of_words DisplayHelp = true
is_help_of_words DisplayVersion = true
is_help_of_words k = false

-- the program was asked for a help
abbrev pub is_help : Ending → Bool
is_help (endings.Refused (Told error)) = is_help_of_words (kind_of error)
is_help ending = false
