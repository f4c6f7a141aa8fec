use Rattle.std.proofs.Common.{◌≡◌, ◌≤◌, length}
use Rattle.std.specs.Prelude.{◌&&◌, vec_len, vec_capacity}
use Rattle.nd_table.specs.Listing.{with_room}
use Rattle.nd_table.specs.ListingKept.{announced_all}
use Rattle.nd_table.specs.Refreshing.{only_refreshes}
use Rattle.nd_table.proofs.announcements.announce_all.Given as goal

-- so far nothing but refreshes, and what there is room for of what is left leads from what there is to the same end
abbrev pub invariant-loop-key : goal.invariant-loop-key
invariant-loop-key g l =
    ((l.refreshes && only_refreshes g.K.NamesKey.same l.now (with_room g.K.NamesKey.same l.limit l.now (g.I.Announces.told l.rest) l.entries.items) l.entries.items)
    ≡ only_refreshes g.K.NamesKey.same l.now (with_room g.K.NamesKey.same l.limit l.now (g.I.Announces.told l.initial.rest) l.initial.entries.items) l.initial.entries.items)
    × (announced_all g.K.NamesKey.same l.now (with_room g.K.NamesKey.same l.limit l.now (g.I.Announces.told l.rest) l.entries.items) l.entries.items
    ≡ announced_all g.K.NamesKey.same l.now (with_room g.K.NamesKey.same l.limit l.now (g.I.Announces.told l.initial.rest) l.initial.entries.items) l.initial.entries.items)
    × (vec_len l.entries ≤ l.limit) × (vec_capacity l.entries ≡ vec_capacity l.initial.entries)

abbrev pub decreases-loop-key : goal.decreases-loop-key
decreases-loop-key g l = length (g.I.Announces.told l.rest)
