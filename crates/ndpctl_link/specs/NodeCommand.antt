-- The words that pass a command to a node of a link (the texts are this project's own).
use Rattle.std.specs.Prelude.{◌≢◌, ◌^◌, ℕ, List}
use Rattle.nd_chronicle.specs.Event.{Event, Receives}
use Rattle.ndpctl_run.specs.Command.{IsCommand}
use Rattle.ndpctl_run.specs.Number.{IsNumberWord}
use Rattle.ndpctl_run.specs.Words.{Parts}

-- it is a command of a node that stands alone, by which no frame is heard: on a link a node hears what is carried to it
pub record IsOwnCommand (bytes : List ℕ) (event : Event) : Type 0 where
  pub spelled : IsCommand bytes event
  pub unheard : (frame : List ℕ) → event ≢ Receives frame

-- the words are the number of the node, and such a command
abbrev pub IsNodeCommand : List ℕ → ℕ → Event → Type 0
IsNodeCommand words node event = Parts words (λ word. IsNumberWord (2 ^ 64) word node) (λ bytes. IsOwnCommand bytes event)
