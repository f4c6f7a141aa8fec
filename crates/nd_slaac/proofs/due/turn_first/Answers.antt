use Rattle.std.proofs.Common.{◌≡◌, ◌<◌, ap, sym, subst, refl, length, List, None, arith}
use Rattle.nd_addr.specs.Number.{number_of}
use Rattle.nd_table.specs.DueKept.{NotBefore, least_date}
use Rattle.nd_slaac.specs.TableKept.{key_of}
use Rattle.nd_slaac.proofs.Planning.{none_of_ends, none_of_steps, had_step, stepped_planned}
use Rattle.std.specs.Prelude.{slice_get}
use Rattle.nd_slaac.specs.AddressKept.{Address}
use Rattle.nd_slaac.specs.Due.{Ends}
use Rattle.nd_slaac.specs.Dates.{end_date, next_step, first_at}
use Rattle.nd_slaac.proofs.Turns.{went, goes_on, stepped_on}
use Rattle.nd_slaac.proofs.due.turn_first.Goals as goal

pub remove_at-requires-clause-within : goal.remove_at-requires-clause-within
remove_at-requires-clause-within g c =
    let le : c.in-Some.i < length c.args.entries.now.items = subst (λ (l : List Address). c.in-Some.i < length l) c.deref.ensures.value c.in-Some.ensures.within in
    omega (arith, le, c.args.entries.now.ok.0)

pub returns-in-Some-clause-turns : goal.returns-in-Some-clause-turns
returns-in-Some-clause-turns g c =
    let xs = c.args.entries.now.items in
    let i = c.in-Some.i in
    let within : i < length xs = subst (λ (l : List Address). i < length l) c.deref.ensures.value c.in-Some.ensures.within in
    let first : first_at end_date c.args.now xs ≡ slice_get xs i = subst (λ (l : List Address). first_at end_date c.args.now l ≡ slice_get l i) c.deref.ensures.value c.in-Some.ensures.found in
    let l = c.remove_at.ensures.leaves in
    went c.args.transmits c.args.now xs _ i l.address _ within first l.is (ap Ends (sym l.key_is)) l.new_is

pub step-due-requires-clause-detecting : goal.step-due-requires-clause-detecting
step-due-requires-clause-detecting g c =
    let xs = c.args.entries.now.items in
    let i = c.in_ok-i.i in
    let within : i < length xs = subst (λ (l : List Address). i < length l) c.deref-2.ensures.value c.in_ok-i.ensures.within in
    let first : first_at next_step c.args.now xs ≡ slice_get xs i = subst (λ (l : List Address). first_at next_step c.args.now l ≡ slice_get l i) c.deref-2.ensures.value c.in_ok-i.ensures.found in
    goes_on c.args.now xs i c.index_mut-entry.result.now within first c.index_mut-entry.ensures.value

pub returns-clause-turns : goal.returns-clause-turns
returns-clause-turns g c =
    let xs = c.args.entries.now.items in
    let i = c.in_ok-i.i in
    let within : i < length xs = subst (λ (l : List Address). i < length l) c.deref-2.ensures.value c.in_ok-i.ensures.within in
    let none : first_at end_date c.args.now xs ≡ None = subst (λ (l : List Address). first_at end_date c.args.now l ≡ None) c.deref.ensures.value c.in_default.ensures.none in
    let first : first_at next_step c.args.now xs ≡ slice_get xs i = subst (λ (l : List Address). first_at next_step c.args.now l ≡ slice_get l i) c.deref-2.ensures.value c.in_ok-i.ensures.found in
    stepped_on c.args.transmits c.args.now xs _ i c.index_mut-entry.result.now c.step-due.new.self _ within none first c.index_mut-entry.ensures.value c.step-due.ensures.entry c.step-due.ensures.due refl

pub first_at-requires-clause-none_before : goal.first_at-requires-clause-none_before
first_at-requires-clause-none_before g c =
    subst (λ (l : List Address). NotBefore c.args.now (least_date end_date l)) (sym c.deref.ensures.value) (none_of_ends c.args.now c.args.entries.now.items c.requires.none_before)

pub first_at-requires-2-clause-none_before : goal.first_at-requires-2-clause-none_before
first_at-requires-2-clause-none_before g c =
    subst (λ (l : List Address). NotBefore c.args.now (least_date next_step l)) (sym c.deref-2.ensures.value) (none_of_steps c.args.now c.args.entries.now.items c.requires.none_before)

pub change-requires-clause-was : goal.change-requires-clause-was
change-requires-clause-was g c =
    let xs = c.args.entries.now.items in
    let i = c.in_ok-i.i in
    let within : i < length xs = subst (λ (l : List Address). i < length l) c.deref-2.ensures.value c.in_ok-i.ensures.within in
    had_step (number_of c.addr-addr.result.0) i xs xs c.index_mut-entry.result.now c.args.ends.now c.args.steps.now c.requires.planned within c.index_mut-entry.ensures.value (sym c.addr-addr.ensures) c.date-was.result c.date-was.ensures

pub returns-clause-planned : goal.returns-clause-planned
returns-clause-planned g c =
    let xs = c.args.entries.now.items in
    let i = c.in_ok-i.i in
    let within : i < length xs = subst (λ (l : List Address). i < length l) c.deref-2.ensures.value c.in_ok-i.ensures.within in
    stepped_planned (number_of c.addr-addr.result.0) i xs _ c.index_mut-entry.result.now c.args.ends.now c.args.steps.now c.requires.planned within c.index_mut-entry.ensures.value (sym c.addr-addr.ensures)
    c.step-due.new.self (ap key_of c.step-due.ensures.entry) refl c.change.new.self c.date.result (ap end_date c.step-due.ensures.entry) c.date.ensures c.change.ensures.dates
