use Rattle.std.proofs.Common.{◌<◌, length, sym, arith}
use Rattle.nd_addr.specs.Number.{number_of}
use Rattle.nd_slaac.proofs.Planning.{had_end, had_step, gone_planned}
use Rattle.nd_slaac.proofs.due.remove_at.Goals as goal

pub change-requires-clause-was : goal.change-requires-clause-was
change-requires-clause-was g c =
    let xs = c.args.entries.now.items in
    let within : c.args.i < length xs = omega (arith, c.requires.within, c.args.entries.now.ok.0) in
    had_end (number_of c.addr-addr.result.0) c.args.i xs xs c.remove-entry.result c.args.ends.now c.args.steps.now c.requires.planned within c.remove-entry.ensures.value (sym c.addr-addr.ensures) c.date.result c.date.ensures

pub change-requires-2-clause-was : goal.change-requires-2-clause-was
change-requires-2-clause-was g c =
    let xs = c.args.entries.now.items in
    let within : c.args.i < length xs = omega (arith, c.requires.within, c.args.entries.now.ok.0) in
    had_step (number_of c.addr-addr.result.0) c.args.i xs xs c.remove-entry.result c.args.ends.now c.args.steps.now c.requires.planned within c.remove-entry.ensures.value (sym c.addr-addr.ensures) c.date-2.result c.date-2.ensures

pub returns-clause-planned : goal.returns-clause-planned
returns-clause-planned g c =
    let xs = c.args.entries.now.items in
    let within : c.args.i < length xs = omega (arith, c.requires.within, c.args.entries.now.ok.0) in
    gone_planned (number_of c.addr-addr.result.0) c.args.i xs _ c.remove-entry.result c.args.ends.now c.args.steps.now c.requires.planned within c.remove-entry.ensures.value (sym c.addr-addr.ensures)
    c.change.new.self c.change-2.new.self c.remove-entry.ensures.items c.change.ensures.dates c.change-2.ensures.dates

pub returns-clause-leaves : goal.returns-clause-leaves
returns-clause-leaves g c =
    let xs = c.args.entries.now.items in
    record {
      address = c.remove-entry.result;
      within = omega (arith, c.requires.within, c.args.entries.now.ok.0);
      is = c.remove-entry.ensures.value;
      key_is = sym c.addr-addr.ensures;
      new_is = c.remove-entry.ensures.items;
    }
