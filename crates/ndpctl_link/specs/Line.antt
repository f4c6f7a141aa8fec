-- The lines of a link (the texts are this project's own).
use Rattle.std.specs.Prelude.{◌^◌, ℕ, List}
use Rattle.ndpctl_run.specs.Number.{IsNumberWord}
use Rattle.ndpctl_run.specs.Words.{Parts}
use Rattle.nd_link_log.specs.Event.{Event}
use Rattle.ndpctl_link.specs.Command.{IsLinkCommand}

-- the bytes spell a moment in milliseconds and an event: a decimal number below 2^62 with no leading zero, one space, and its command
abbrev pub IsLinkLine : List ℕ → ℕ → Event → Type 0
IsLinkLine bytes at event = Parts bytes (λ word. IsNumberWord (2 ^ 62) word at) (λ words. IsLinkCommand words event)
