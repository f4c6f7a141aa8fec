-- The words by which a frame is carried to a node (the texts are this project's own).
use Rattle.std.specs.Prelude.{◌^◌, ℕ, List}
use Rattle.ndpctl_run.specs.Number.{IsNumberWord}
use Rattle.ndpctl_run.specs.Words.{Parts}

-- the words are the number of the node, and that of the frame
abbrev pub IsDelivery : List ℕ → ℕ → ℕ → Type 0
IsDelivery words node frame = Parts words (λ word. IsNumberWord (2 ^ 64) word node) (λ word. IsNumberWord (2 ^ 64) word frame)
