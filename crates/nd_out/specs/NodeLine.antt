-- The lines of what is reported of a node of a link (the texts are this project's own).
use Rattle.std.specs.Prelude.{ℕ, List, [], ◌++◌, Option, Some, None, codes}
use Rattle.std.specs.Fmt.{decimal}
use Rattle.nd_chronicle.specs.Told.{line_at, node_line}

-- what a line begins with: `n` and the number of its node, or nothing where it is of a node that stands alone
abbrev pub front : Option ℕ → List ℕ
front None = []
front (Some node) = codes "n" ++ decimal node ++ codes " "

-- a line of a node that may stand alone, or on a link
abbrev pub line_from : Option ℕ → ℕ → List ℕ → List ℕ
line_from None at told = line_at at told
line_from (Some node) at told = node_line node at told
