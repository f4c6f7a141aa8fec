use Rattle.std.proofs.Common.{◌<◌, List, length, refl, sym, ◌∙◌, ap, subst}
use Rattle.nd_addr.specs.Number.{number_of}
use Rattle.nd_table.specs.Dates.{Redated}
use Rattle.nd_table.proofs.Keyed.{key_is, found_is}
use Rattle.nd_table.proofs.Stays.{set_dates}
use Rattle.nd_slaac.specs.AddressKept.{Address}
use Rattle.nd_slaac.specs.TableKept.{key_of}
use Rattle.nd_slaac.specs.Dates.{next_step}
use Rattle.nd_slaac.proofs.duplicate.fail.Goals as goal

pub returns-clause-dates : goal.returns-clause-dates
returns-clause-dates g c =
    let key = number_of c.args.addr.0 in
    let old = c.args.entries.now.items in
    let n = c.index_mut-entry.result.now in
    let within : c.in-Some.i < length old = subst (λ (l : List Address). c.in-Some.i < length l) c.deref.ensures.value c.in-Some.ensures.within in
    let n_key = key_is key_of key old n (found_is key_of key old c.deref.result.now c.in-Some.i n c.deref.ensures.value c.in-Some.ensures.within c.in-Some.ensures.found c.index_mut-entry.ensures.value) in
    set_dates key_of key old _ c.in-Some.i n c.requires.order within c.index_mut-entry.ensures.value n_key next_step c.args.steps.now.dates c.change.new.self.dates c.requires.dates
    c.fail.new.self (ap key_of c.fail.ensures ∙ n_key) refl
    (subst (λ o. Redated key o c.args.steps.now.dates c.change.new.self.dates) (sym (ap next_step c.fail.ensures)) c.change.ensures.dates)
