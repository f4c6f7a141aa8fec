use Rattle.std.proofs.Common.{◌∙◌, sym, ap, refl, Option}
use Rattle.nd_addr.specs.Number.{number_of}
use Rattle.nd_neighbour.specs.EntryKept.{NeighbourEntry}
use Rattle.nd_neighbour.specs.WantingKept.{wished, wanting_in}
use Rattle.nd_neighbour.proofs.WishCalls.{wished_key}
use Rattle.nd_neighbour.proofs.Finds.{alters, there}
use Rattle.nd_neighbour.proofs.Planning.{had_date, changed_planned, no_room}
use Rattle.nd_neighbour.proofs.wanting.wish.Goals as goal

pub returns-clause-alters : goal.returns-clause-alters
returns-clause-alters g c =
    alters (number_of c.args.addr.0) (λ n. wished c.args.now c.args.retrans n) c.args.entries.now.items c.args.entries.now.items c.args.i c.index_mut-entry.result.now c.want-want.new.self refl c.requires.within c.requires.found c.index_mut-entry.ensures.value c.want-want.ensures.entry

pub returns-clause-want : goal.returns-clause-want
returns-clause-want g c =
    c.want-want.ensures.want ∙ sym (ap (λ (o : Option NeighbourEntry). wanting_in o)
    (there (number_of c.args.addr.0) (λ n. wished c.args.now c.args.retrans n) c.args.entries.now.items c.args.entries.now.items c.args.i c.index_mut-entry.result.now c.want-want.new.self refl c.requires.within c.requires.found c.index_mut-entry.ensures.value c.want-want.ensures.entry))

pub change-requires-clause-was : goal.change-requires-clause-was
change-requires-clause-was g c =
    had_date (number_of c.args.addr.0) (λ n. wished c.args.now c.args.retrans n) (λ n. wished_key c.args.now c.args.retrans n n.stage) c.args.entries.now.items c.args.entries.now.items c.args.i c.index_mut-entry.result.now c.want-want.new.self refl c.requires.within c.requires.found c.index_mut-entry.ensures.value c.want-want.ensures.entry
    c.args.dates.now c.date-was.result c.requires.planned c.date-was.ensures

pub change-requires-clause-room : goal.change-requires-clause-room
change-requires-clause-room g c = no_room _ c.date-was.result _ c.date-was.ensures

pub returns-clause-planned : goal.returns-clause-planned
returns-clause-planned g c =
    changed_planned (number_of c.args.addr.0) (λ n. wished c.args.now c.args.retrans n) (λ n. wished_key c.args.now c.args.retrans n n.stage) c.args.entries.now.items c.args.entries.now.items c.args.i c.index_mut-entry.result.now c.want-want.new.self refl c.requires.within c.requires.found c.index_mut-entry.ensures.value c.want-want.ensures.entry
    c.args.dates.now c.change.new.self c.date.result c.requires.planned c.date.ensures c.change.ensures.dates c.change.ensures.room
