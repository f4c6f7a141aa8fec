use Rattle.std.proofs.Common.{◌<◌, ◌≤◌, false, List, length, set, refl, ap, sym, subst, arith}
use Rattle.std.specs.Prelude.{is_some}
use Rattle.nd_addr.specs.Number.{number_of}
use Rattle.nd_table.proofs.Keyed.{key_is, found_is}
use Rattle.nd_slaac.specs.AddressKept.{Address}
use Rattle.nd_slaac.specs.TableKept.{key_of}
use Rattle.nd_slaac.specs.Dates.{next_step}
use Rattle.nd_slaac.specs.Calls.{set_of}
use Rattle.nd_slaac.proofs.Planning.{had_end, ended_planned, room_for_end}
use Rattle.nd_slaac.proofs.by_hand.set.Goals as goal

pub returns-in-Ok-clause-value : goal.returns-in-Ok-clause-value
returns-in-Ok-clause-value g c =
    let key = number_of c.args.addr.0 in
    let old = c.args.entries.now.items in
    let there = found_is key_of key old c.deref.result.now c.in-Ok.i c.index_mut-entry.result.now c.deref.ensures.value c.in-Ok.ensures.within c.in-Ok.ensures.found c.index_mut-entry.ensures.value in
    ap (λ b. set_of c.args.limit false b (length old)) (sym (ap is_some there))

pub returns-in-Ok-clause-sets : goal.returns-in-Ok-clause-sets
returns-in-Ok-clause-sets g c =
    let key = number_of c.args.addr.0 in
    let old = c.args.entries.now.items in
    let n = c.index_mut-entry.result.now in
    record {
      at = c.in-Ok.i;
      address = n;
      within = subst (λ (l : List Address). c.in-Ok.i < length l) c.deref.ensures.value c.in-Ok.ensures.within;
      is = c.index_mut-entry.ensures.value;
      found = found_is key_of key old c.deref.result.now c.in-Ok.i n c.deref.ensures.value c.in-Ok.ensures.within c.in-Ok.ensures.found c.index_mut-entry.ensures.value;
      new_is = ap (set old c.in-Ok.i) c.set_by_hand.ensures;
    }

pub change-requires-clause-was : goal.change-requires-clause-was
change-requires-clause-was g c =
    let key = number_of c.args.addr.0 in
    let old = c.args.entries.now.items in
    let n = c.index_mut-entry.result.now in
    let within : c.in-Ok.i < length old = subst (λ (l : List Address). c.in-Ok.i < length l) c.deref.ensures.value c.in-Ok.ensures.within in
    let n_key = key_is key_of key old n (found_is key_of key old c.deref.result.now c.in-Ok.i n c.deref.ensures.value c.in-Ok.ensures.within c.in-Ok.ensures.found c.index_mut-entry.ensures.value) in
    had_end key c.in-Ok.i old old n c.args.ends.now c.args.steps.now c.requires.planned within c.index_mut-entry.ensures.value n_key c.date-was.result c.date-was.ensures

pub change-requires-clause-room : goal.change-requires-clause-room
change-requires-clause-room g c =
    let key = number_of c.args.addr.0 in
    let old = c.args.entries.now.items in
    let n = c.index_mut-entry.result.now in
    let within : c.in-Ok.i < length old = subst (λ (l : List Address). c.in-Ok.i < length l) c.deref.ensures.value c.in-Ok.ensures.within in
    let n_key = key_is key_of key old n (found_is key_of key old c.deref.result.now c.in-Ok.i n c.deref.ensures.value c.in-Ok.ensures.within c.in-Ok.ensures.found c.index_mut-entry.ensures.value) in
    let few : length old ≤ c.args.ends.now.room = omega (arith, c.requires.few, c.requires.room_for_ends, c.args.entries.now.ok.0) in
    room_for_end key c.in-Ok.i old old n c.args.ends.now c.args.steps.now c.requires.planned within c.index_mut-entry.ensures.value n_key c.date-was.result c.date.result c.date-was.ensures few

pub returns-in-Ok-clause-planned : goal.returns-in-Ok-clause-planned
returns-in-Ok-clause-planned g c =
    let key = number_of c.args.addr.0 in
    let old = c.args.entries.now.items in
    let n = c.index_mut-entry.result.now in
    let within : c.in-Ok.i < length old = subst (λ (l : List Address). c.in-Ok.i < length l) c.deref.ensures.value c.in-Ok.ensures.within in
    let n_key = key_is key_of key old n (found_is key_of key old c.deref.result.now c.in-Ok.i n c.deref.ensures.value c.in-Ok.ensures.within c.in-Ok.ensures.found c.index_mut-entry.ensures.value) in
    ended_planned key c.in-Ok.i old _ n c.args.ends.now c.args.steps.now c.requires.planned within c.index_mut-entry.ensures.value n_key
    c.set_by_hand.new.self (ap key_of c.set_by_hand.ensures) refl c.change.new.self c.date.result (ap next_step c.set_by_hand.ensures) c.date.ensures c.change.ensures.dates
