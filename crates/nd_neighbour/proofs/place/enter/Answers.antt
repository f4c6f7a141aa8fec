use Rattle.std.proofs.Common.{◌<◌, ◌∙◌, length, ap, sym, arith}
use Rattle.nd_addr.specs.Number.{number_of}
use Rattle.nd_table.proofs.Keyed.{place_of-le}
use Rattle.nd_table.proofs.Stays.{no_date}
use Rattle.nd_neighbour.specs.TableKept.{address, entry_in}
use Rattle.nd_neighbour.specs.DueKept.{date_of}
use Rattle.nd_neighbour.proofs.Planning.{absent_then, came_planned, came_room}
use Rattle.nd_neighbour.proofs.place.enter.Goals as goal

pub returns-clause-enters : goal.returns-clause-enters
returns-clause-enters g c = record { mid = c.make_place-at.new.entries.items; places = c.make_place-at.ensures.places; new_is = c.put.ensures.items }

pub put-requires-clause-within : goal.put-requires-clause-within
put-requires-clause-within g c =
    let mid = c.make_place-at.new.entries.items in
    let le = place_of-le address (number_of c.addr-addr.result.0) mid in
    omega (arith, le, c.make_place-at.ensures.at, c.make_place-at.new.entries.ok.0)

pub change-requires-clause-was : goal.change-requires-clause-was
change-requires-clause-was g c =
    let mid = c.make_place-at.new.entries.items in
    let key = number_of c.addr-addr.result.0 in
    let absent = absent_then c.args.limit c.args.now key c.args.entries.now.items mid c.requires.planned.order (ap (λ k. entry_in k c.args.entries.now.items) c.addr-addr.ensures ∙ c.requires.absent) c.make_place-at.ensures.places in
    no_date address key mid date_of c.make_place-at.new.dates.dates absent c.make_place-at.ensures.planned.dates

pub change-requires-clause-room : goal.change-requires-clause-room
change-requires-clause-room g c =
    let mid = c.make_place-at.new.entries.items in
    let left : length mid < c.make_place-at.new.dates.room = omega (arith, c.make_place-at.ensures.left, c.requires.roomy, c.make_place-at.ensures.room, c.make_place-at.new.entries.ok.0) in
    came_room mid c.make_place-at.new.dates c.date-date.result c.make_place-at.ensures.planned left

pub returns-clause-planned : goal.returns-clause-planned
returns-clause-planned g c =
    let m = c.args.entry in
    let mid = c.make_place-at.new.entries.items in
    let absent = absent_then c.args.limit c.args.now m.key c.args.entries.now.items mid c.requires.planned.order c.requires.absent c.make_place-at.ensures.places in
    came_planned mid c.put.new.entries.items m c.make_place-at.new.dates c.change.new.self c.make_place-at.ensures.planned absent c.put.ensures.items
    (number_of c.addr-addr.result.0) c.date-date.result (sym c.addr-addr.ensures) c.date-date.ensures c.change.ensures.dates c.change.ensures.room
    (omega (arith, c.put.new.entries.ok.0, c.put.ensures.len, c.make_place-at.ensures.left, c.requires.roomy, c.make_place-at.ensures.room))
