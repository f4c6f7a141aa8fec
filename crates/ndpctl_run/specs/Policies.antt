-- The policies that a text names (the texts are this project's own).
use Rattle.std.specs.Prelude.{◌==◌, ◌∷◌, ℕ, true, ◌&&◌, not, List, [], Option, Some, None, codes, bytes_eq, if◌then◌else◌}
use Rattle.std.specs.List.{slice_split}
use Rattle.nd_chronicle.specs.Start.{Policies, no_policies}

-- the policies with the one that a word names, unless it names none, or one that is among them
abbrev pub with_named : List ℕ → Option Policies → Option Policies
with_named word None = None
with_named word (Some policies) =
    if bytes_eq word (codes "parts") && not policies.parts then Some (record policies { parts = true }) else
    if bytes_eq word (codes "speakers") && not policies.speakers then Some (record policies { speakers = true }) else
    if bytes_eq word (codes "timers") && not policies.timers then Some (record policies { timers = true }) else
    if bytes_eq word (codes "self") && not policies.own then Some (record policies { own = true }) else
    if bytes_eq word (codes "unicast") && not policies.unicast then Some (record policies { unicast = true }) else
    if bytes_eq word (codes "unformed") && not policies.unformed then Some (record policies { unformed = true }) else
    if bytes_eq word (codes "asked") && not policies.asked then Some (record policies { asked = true }) else
    if bytes_eq word (codes "lifetimes") && not policies.lifetimes then Some (record policies { lifetimes = true }) else
    if bytes_eq word (codes "unredirected") && not policies.unredirected then Some (record policies { unredirected = true }) else
    if bytes_eq word (codes "strict") && not policies.strict then Some (record policies { strict = true }) else
    None

-- with those that words name
abbrev pub with_all : List (List ℕ) → Option Policies → Option Policies
with_all [] policies = policies
with_all (word ∷ words) policies = with_all words (with_named word policies)

-- the words of a text, parted by commas: between two of them in a row stands an empty one
abbrev pub words_in : List ℕ → List (List ℕ)
words_in text = slice_split (λ byte. byte == 44) text

-- the policies that the words of a text name
abbrev pub policies_of : List ℕ → Option Policies
policies_of text = with_all (words_in text) (Some no_policies)
