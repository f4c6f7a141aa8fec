use Rattle.std.proofs.Common.{◌<◌, ◌≤◌, List, length, set, refl, ap, sym, ◌∙◌, subst, arith}
use Rattle.nd_addr.specs.Number.{number_of}
use Rattle.nd_table.proofs.Keyed.{key_is, found_is}
use Rattle.nd_slaac.specs.AddressKept.{Address}
use Rattle.nd_slaac.specs.TableKept.{key_of, address_in}
use Rattle.nd_slaac.specs.Dates.{next_step}
use Rattle.nd_slaac.proofs.Planning.{had_end, ended_planned, room_for_end}
use Rattle.nd_slaac.proofs.Counting.{renews}
use Rattle.nd_slaac.proofs.prefix_option.take.Goals as goal

pub returns-in-Ok-clause-value : goal.returns-in-Ok-clause-value
returns-in-Ok-clause-value g c =
    let key = number_of c.args.addr.0 in
    let old = c.args.entries.now.items in
    let there = found_is key_of key old c.deref.result.now c.in-Ok.i c.index.result.now c.deref.ensures.value c.in-Ok.ensures.within c.in-Ok.ensures.found c.index.ensures in
    renews c.args.limit c.args.info.now.valid_lifetime (length old) (address_in key old) _ there (sym (ap (λ (a : Address). a.by_hand) c.behind-entries.view_is) ∙ c.if-index.false)

pub returns-in-Ok-clause-changes : goal.returns-in-Ok-clause-changes
returns-in-Ok-clause-changes g c =
    let key = number_of c.args.addr.0 in
    let old = c.args.entries.now.items in
    let n = c.index_mut-entry.result.now in
    record {
      at = c.in-Ok.i;
      address = n;
      within = subst (λ (l : List Address). c.in-Ok.i < length l) c.deref.ensures.value c.in-Ok.ensures.within;
      is = c.index_mut-entry.ensures.value;
      found = found_is key_of key old c.deref.result.now c.in-Ok.i n c.deref.ensures.value c.in-Ok.ensures.within c.in-Ok.ensures.found c.index_mut-entry.ensures.value;
      new_is = ap (set old c.in-Ok.i) c.announce.ensures;
    }

pub change-requires-clause-was : goal.change-requires-clause-was
change-requires-clause-was g c =
    let key = number_of c.args.addr.0 in
    let old = c.args.entries.now.items in
    let n = c.index_mut-entry.result.now in
    let within : c.in-Ok.i < length old = subst (λ (l : List Address). c.in-Ok.i < length l) c.deref.ensures.value c.in-Ok.ensures.within in
    let n_key = key_is key_of key old n (found_is key_of key old c.deref.result.now c.in-Ok.i n c.deref.ensures.value c.in-Ok.ensures.within c.in-Ok.ensures.found c.index_mut-entry.ensures.value) in
    had_end key c.in-Ok.i old old n c.args.ends.now c.args.steps.now c.requires.planned within c.index_mut-entry.ensures.value n_key c.date-was.result c.date-was.ensures

pub change-requires-clause-room : goal.change-requires-clause-room
change-requires-clause-room g c =
    let key = number_of c.args.addr.0 in
    let old = c.args.entries.now.items in
    let n = c.index_mut-entry.result.now in
    let within : c.in-Ok.i < length old = subst (λ (l : List Address). c.in-Ok.i < length l) c.deref.ensures.value c.in-Ok.ensures.within in
    let n_key = key_is key_of key old n (found_is key_of key old c.deref.result.now c.in-Ok.i n c.deref.ensures.value c.in-Ok.ensures.within c.in-Ok.ensures.found c.index_mut-entry.ensures.value) in
    let few : length old ≤ c.args.ends.now.room = omega (arith, c.requires.few, c.requires.room_for_ends, c.args.entries.now.ok.0) in
    room_for_end key c.in-Ok.i old old n c.args.ends.now c.args.steps.now c.requires.planned within c.index_mut-entry.ensures.value n_key c.date-was.result c.date.result c.date-was.ensures few

pub returns-in-Ok-clause-planned : goal.returns-in-Ok-clause-planned
returns-in-Ok-clause-planned g c =
    let key = number_of c.args.addr.0 in
    let old = c.args.entries.now.items in
    let n = c.index_mut-entry.result.now in
    let within : c.in-Ok.i < length old = subst (λ (l : List Address). c.in-Ok.i < length l) c.deref.ensures.value c.in-Ok.ensures.within in
    let n_key = key_is key_of key old n (found_is key_of key old c.deref.result.now c.in-Ok.i n c.deref.ensures.value c.in-Ok.ensures.within c.in-Ok.ensures.found c.index_mut-entry.ensures.value) in
    ended_planned key c.in-Ok.i old _ n c.args.ends.now c.args.steps.now c.requires.planned within c.index_mut-entry.ensures.value n_key
    c.announce.new.self (ap key_of c.announce.ensures) refl c.change.new.self c.date.result (ap next_step c.announce.ensures) c.date.ensures c.change.ensures.dates
