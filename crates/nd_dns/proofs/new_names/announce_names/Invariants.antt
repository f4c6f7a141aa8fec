use Rattle.std.proofs.Common.{◌≡◌, ◌≤◌, length}
use Rattle.std.specs.Prelude.{vec_len, vec_capacity}
use Rattle.nd_table.specs.Listing.{with_room}
use Rattle.nd_table.specs.ListingKept.{announced_all, entered}
use Rattle.nd_dns.specs.AnnouncedNames.{same_name}
use Rattle.nd_dns.specs.AnnouncedNamesKept.{names_to_come}
use Rattle.nd_dns.proofs.new_names.announce_names.Given as goal

-- what there is room for of what is left leads from what there is to the same end, and enters what is left of the copies
abbrev pub invariant-loop-name : goal.invariant-loop-name
invariant-loop-name g l =
    (announced_all same_name l.now (with_room same_name l.limit l.now (names_to_come l.rest) l.entries.items) l.entries.items
    ≡ announced_all same_name l.now (with_room same_name l.limit l.now (names_to_come l.initial.rest) l.initial.entries.items) l.initial.entries.items)
    × (vec_len l.entries ≤ l.limit) × (vec_capacity l.entries ≡ vec_capacity l.initial.entries)
    × (l.copies ≡ entered same_name l.now (with_room same_name l.limit l.now (names_to_come l.rest) l.entries.items) l.entries.items)

abbrev pub decreases-loop-name : goal.decreases-loop-name
decreases-loop-name g l = length (names_to_come l.rest)
