-- Only what is kept, in the code's terms: what an iterator over the names that are announced has left.
use Rattle.std.specs.Prelude.{ℕ, List, [], ◌++◌, Option, Some, None}
use Rattle.nd_search_list.specs.declared.names.Names.{Names}
use Rattle.nd_search_list.specs.NamesLeft.{names_left}
use Rattle.nd_decode.specs.Pieces.{options_left}
use Rattle.nd_dns.specs.declared.announced_names.AnnouncedNames.{AnnouncedNames}
use Rattle.nd_dns.specs.AnnouncedNames.{for_lifetime, names_told}

-- what is left of the option at hand
abbrev pub at_hand : Option Names → List (List ℕ)
at_hand None = []
at_hand (Some names) = names_left names

-- what an iterator over them has left
abbrev pub names_to_come : AnnouncedNames → List (List ℕ × ℕ)
names_to_come t = for_lifetime t.lifetime (at_hand t.names) ++ names_told (options_left t.options)
