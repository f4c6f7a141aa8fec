use Rattle.std.proofs.Common.{◌≡◌, ◌<◌, ◌-◌, ◌∙◌, List, None, length, subst, ap, arith}
use Rattle.std.specs.Prelude.{slice_get}
use Rattle.std.specs.List.{insert, remove}
use Rattle.nd_table.specs.Date.{Date}
use Rattle.nd_table.specs.Keyed.{at_key}
use Rattle.nd_table.specs.Dates.{rank}
use Rattle.nd_table.proofs.Dates.{some_found}
use Rattle.nd_table.proofs.Moving.{back_changed, changed_up, changed_down}
use Rattle.nd_table.proofs.block.Block.change.Goals as goal

pub unreachable-requires : goal.unreachable-requires
unreachable-requires g c =
    let seen : c.deref.result.now ≡ c.args.self.now = c.deref.ensures.value ∙ c.self.view_is in
    some_found c.args.old.moment c.args.old.number c.args.self.now c.requires.there
    (subst (λ (l : List Date). at_key rank (rank c.args.old) l ≡ None) seen c.in_default.ensures.absent)

pub returns-then-from-to : goal.returns-then-from-to
returns-then-from-to g c =
    let ds = c.args.self.now in
    let same : c.self.inside.dates.items ≡ ds = c.self.view_is in
    let seen : c.deref.result.now ≡ ds = c.deref.ensures.value ∙ same in
    let lt : c.in-Ok.from < length ds = subst (λ (l : List Date). c.in-Ok.from < length l) seen c.in-Ok.ensures.within in
    let found : at_key rank (rank c.args.old) ds ≡ slice_get ds c.in-Ok.from = subst (λ (l : List Date). at_key rank (rank c.args.old) l ≡ slice_get l c.in-Ok.from) seen c.in-Ok.ensures.found in
    let lent : c.change_up.new.dates ≡ insert (remove ds c.in-Ok.from) (c.place-to.result - 1) c.args.new = c.change_up.ensures ∙ ap (λ (l : List Date). insert (remove l c.in-Ok.from) (c.place-to.result - 1) c.args.new) (c.deref_mut.ensures.value ∙ same) in
    back_changed c.args.old c.args.new ds c.in-Ok.from c.requires.order c.requires.addresses c.requires.address lt found c.requires.absent c.self.inside.dates.len c.self.inside.dates.items c.change_up.new.dates
    (omega (arith, c.self.inside.dates.ok.0)) same c.requires.there
    (lent ∙ changed_up c.args.old c.args.new ds c.in-Ok.from c.requires.order c.requires.addresses c.requires.address lt found c.requires.absent c.place-to.result c.place-to.ensures.place c.if-from-to.true)

pub returns-else-from-to : goal.returns-else-from-to
returns-else-from-to g c =
    let ds = c.args.self.now in
    let same : c.self.inside.dates.items ≡ ds = c.self.view_is in
    let seen : c.deref.result.now ≡ ds = c.deref.ensures.value ∙ same in
    let lt : c.in-Ok.from < length ds = subst (λ (l : List Date). c.in-Ok.from < length l) seen c.in-Ok.ensures.within in
    let found : at_key rank (rank c.args.old) ds ≡ slice_get ds c.in-Ok.from = subst (λ (l : List Date). at_key rank (rank c.args.old) l ≡ slice_get l c.in-Ok.from) seen c.in-Ok.ensures.found in
    let lent : c.change_down.new.dates ≡ insert (remove ds c.in-Ok.from) c.place-to.result c.args.new = c.change_down.ensures ∙ ap (λ (l : List Date). insert (remove l c.in-Ok.from) c.place-to.result c.args.new) (c.deref_mut-else-from-to.ensures.value ∙ same) in
    back_changed c.args.old c.args.new ds c.in-Ok.from c.requires.order c.requires.addresses c.requires.address lt found c.requires.absent c.self.inside.dates.len c.self.inside.dates.items c.change_down.new.dates
    (omega (arith, c.self.inside.dates.ok.0)) same c.requires.there
    (lent ∙ changed_down c.args.old c.args.new ds c.in-Ok.from c.requires.order c.requires.addresses c.requires.address lt found c.requires.absent c.place-to.result c.place-to.ensures.place (omega (arith, c.if-from-to.false)))
