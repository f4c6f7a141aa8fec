use Rattle.std.proofs.Common.{◌≡◌, ◌++◌, List, ℕ, length}
use Rattle.nd_search_list.specs.NameRef.{name_of}
use Rattle.nd_table.specs.declared.lasting.Lasting.{Lasting}
use Rattle.nd_table.specs.Listing.{with_room}
use Rattle.nd_table.specs.ListingKept.{entered}
use Rattle.nd_table.specs.WalkKept.{LeadsTo}
use Rattle.nd_dns.specs.AnnouncedNames.{same_name}
use Rattle.nd_dns.specs.AnnouncedNamesKept.{names_to_come}
use Rattle.nd_dns.proofs.new_names.copies.Given as goal

-- the walk has come to entries at which what there is room for of what is left enters what isn't copied yet
abbrev pub invariant-loop-name : goal.invariant-loop-name
invariant-loop-name g l =
    (at : List (Lasting (List ℕ))) × LeadsTo same_name name_of l.walk l.kept at
    × (l.copies ++ entered same_name l.walk.now (with_room same_name l.walk.limit l.walk.now (names_to_come l.rest) at) at
    ≡ entered same_name l.now (with_room same_name l.limit l.now (names_to_come l.announced) l.entries) l.entries)

abbrev pub decreases-loop-name : goal.decreases-loop-name
decreases-loop-name g l = length (names_to_come l.rest)
