-- What an iterator over names has left.
use Rattle.std.specs.Prelude.{ℕ, List}
use Rattle.nd_search_list.specs.Names.{names_in}
use Rattle.nd_search_list.specs.declared.names.Names.{Names}

abbrev pub names_left : Names → List (List ℕ)
names_left n = names_in n.rest.now
