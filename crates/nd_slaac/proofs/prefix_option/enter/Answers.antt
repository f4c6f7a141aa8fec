use Rattle.std.proofs.Common.{◌<◌, length, sym, arith}
use Rattle.nd_addr.specs.Number.{number_of}
use Rattle.nd_table.proofs.Keyed.{place_of-le}
use Rattle.nd_slaac.specs.TableKept.{key_of}
use Rattle.nd_slaac.proofs.Planning.{room_for_new_end, room_for_new_step, came_planned}
use Rattle.nd_slaac.proofs.prefix_option.enter.Goals as goal

pub put-requires-clause-within : goal.put-requires-clause-within
put-requires-clause-within g c =
    let le = place_of-le key_of c.args.entry.key c.args.entries.now.items in
    omega (arith, le, c.requires.at, c.args.entries.now.ok.0)

pub change-requires-clause-room : goal.change-requires-clause-room
change-requires-clause-room g c =
    let old = c.args.entries.now.items in
    let few : length old < c.args.ends.now.room = omega (arith, c.requires.room_for_ends, c.args.entries.now.ok.0) in
    room_for_new_end old old c.args.entry c.args.ends.now c.args.steps.now c.requires.planned _ few

pub change-requires-2-clause-room : goal.change-requires-2-clause-room
change-requires-2-clause-room g c =
    let old = c.args.entries.now.items in
    let few : length old < c.args.steps.now.room = omega (arith, c.requires.room_for_steps, c.args.entries.now.ok.0) in
    room_for_new_step old old c.args.entry c.args.ends.now c.args.steps.now c.requires.planned _ few

pub returns-clause-planned : goal.returns-clause-planned
returns-clause-planned g c =
    came_planned c.args.entries.now.items c.put.new.entries.items c.args.entry c.args.ends.now c.args.steps.now c.requires.planned
    (number_of c.addr-addr.result.0) c.change.new.self c.change-2.new.self c.date-end.result c.date-step.result c.requires.absent (sym c.addr-addr.ensures) c.put.ensures.items
    c.date-end.ensures c.date-step.ensures c.change.ensures.dates c.change-2.ensures.dates
