use Rattle.std.proofs.Common.{◌∙◌, sym, ap, refl, Option}
use Rattle.nd_addr.specs.Number.{number_of}
use Rattle.nd_neighbour.specs.EntryKept.{NeighbourEntry}
use Rattle.nd_neighbour.specs.SendingKept.{used, sending_in}
use Rattle.nd_neighbour.proofs.PacketCalls.{used_key}
use Rattle.nd_neighbour.proofs.Finds.{alters, there}
use Rattle.nd_neighbour.proofs.Planning.{had_date, changed_planned, no_room}
use Rattle.nd_neighbour.proofs.sending.pass.Goals as goal

pub returns-clause-alters : goal.returns-clause-alters
returns-clause-alters g c =
    alters (number_of c.args.addr.0) (λ n. used c.args.now c.args.retrans c.args.packet n) c.args.entries.now.items c.args.entries.now.items c.args.i c.index_mut-entry.result.now c.send-sent.new.self refl c.requires.within c.requires.found c.index_mut-entry.ensures.value c.send-sent.ensures.entry

pub returns-clause-sending : goal.returns-clause-sending
returns-clause-sending g c =
    c.send-sent.ensures.sending ∙ sym (ap (λ (o : Option NeighbourEntry). sending_in o c.args.packet)
    (there (number_of c.args.addr.0) (λ n. used c.args.now c.args.retrans c.args.packet n) c.args.entries.now.items c.args.entries.now.items c.args.i c.index_mut-entry.result.now c.send-sent.new.self refl c.requires.within c.requires.found c.index_mut-entry.ensures.value c.send-sent.ensures.entry))

pub change-requires-clause-was : goal.change-requires-clause-was
change-requires-clause-was g c =
    had_date (number_of c.args.addr.0) (λ n. used c.args.now c.args.retrans c.args.packet n) (λ n. used_key c.args.now c.args.retrans c.args.packet n n.stage) c.args.entries.now.items c.args.entries.now.items c.args.i c.index_mut-entry.result.now c.send-sent.new.self refl c.requires.within c.requires.found c.index_mut-entry.ensures.value c.send-sent.ensures.entry
    c.args.dates.now c.date-was.result c.requires.planned c.date-was.ensures

pub change-requires-clause-room : goal.change-requires-clause-room
change-requires-clause-room g c = no_room _ c.date-was.result _ c.date-was.ensures

pub returns-clause-planned : goal.returns-clause-planned
returns-clause-planned g c =
    changed_planned (number_of c.args.addr.0) (λ n. used c.args.now c.args.retrans c.args.packet n) (λ n. used_key c.args.now c.args.retrans c.args.packet n n.stage) c.args.entries.now.items c.args.entries.now.items c.args.i c.index_mut-entry.result.now c.send-sent.new.self refl c.requires.within c.requires.found c.index_mut-entry.ensures.value c.send-sent.ensures.entry
    c.args.dates.now c.change.new.self c.date.result c.requires.planned c.date.ensures c.change.ensures.dates c.change.ensures.room
