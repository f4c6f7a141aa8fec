use Rattle.std.proofs.Common.{◌≡◌, ◌∙◌, subst, sym, Option, None}
use Rattle.std.specs.Prelude.{IfSome, IfNone, slice_get}
use Rattle.std.proofs.lemmas.Option.{IfSome_then}
use Rattle.nd_addr.specs.Number.{number_of}
use Rattle.nd_table.specs.Date.{Date}
use Rattle.nd_table.specs.Dates.{Planned, AreDates}
use Rattle.nd_table.specs.Blocks.{all_of}
use Rattle.nd_table.proofs.Dates.{first_found, none_found_now}
use Rattle.nd_table.proofs.schedule.Schedule.first_at.Goals as goal

pub returns-in_default-clause-none : goal.returns-in_default-clause-none
returns-in_default-clause-none g c =
    let ds = all_of c.self.inside.blocks.blocks in
    let are : AreDates g.E.Addressed.key g.E.Dated.date ds c.args.entries.now = subst (λ (p : Planned). AreDates g.E.Addressed.key g.E.Dated.date p.dates c.args.entries.now) (sym c.self.view_is) c.requires.dates in
    none_found_now g.E.Addressed.key g.E.Dated.date c.args.now ds c.args.entries.now c.self.invariant.order c.self.invariant.addresses c.requires.order are c.requires.none_before
    (λ e. c.in_default.ensures.none (c.front.ensures.moment ∙ e))

pub returns-clause-found : goal.returns-clause-found
returns-clause-found g c =
    let ds = all_of c.self.inside.blocks.blocks in
    let key = g.E.Addressed.key in
    let date = g.E.Dated.date in
    let are : AreDates key date ds c.args.entries.now = subst (λ (p : Planned). AreDates key date p.dates c.args.entries.now) (sym c.self.view_is) c.requires.dates in
    let here : IfSome (slice_get ds 0) (λ d. (d.moment ≡ c.args.now) × (d.number ≡ number_of c.in-Some.addr.0)) = subst (λ (o : Option Date). IfSome o (λ d. (d.moment ≡ c.args.now) × (d.number ≡ number_of c.in-Some.addr.0))) c.front.ensures.first c.in-Some.ensures.here in
    let e = first_found key date c.args.now ds c.args.entries.now (number_of c.in-Some.addr.0) c.self.invariant.order c.self.invariant.addresses c.requires.order are here (sym c.front.ensures.moment ∙ c.in-Some.ensures.some) in
    IfSome_then c.find.result c.find.ensures.found (λ i h. e ∙ h)

pub returns-clause-none : goal.returns-clause-none
returns-clause-none g c =
    let ds = all_of c.self.inside.blocks.blocks in
    let key = g.E.Addressed.key in
    let date = g.E.Dated.date in
    let are : AreDates key date ds c.args.entries.now = subst (λ (p : Planned). AreDates key date p.dates c.args.entries.now) (sym c.self.view_is) c.requires.dates in
    let here : IfSome (slice_get ds 0) (λ d. (d.moment ≡ c.args.now) × (d.number ≡ number_of c.in-Some.addr.0)) = subst (λ (o : Option Date). IfSome o (λ d. (d.moment ≡ c.args.now) × (d.number ≡ number_of c.in-Some.addr.0))) c.front.ensures.first c.in-Some.ensures.here in
    let e = first_found key date c.args.now ds c.args.entries.now (number_of c.in-Some.addr.0) c.self.invariant.order c.self.invariant.addresses c.requires.order are here (sym c.front.ensures.moment ∙ c.in-Some.ensures.some) in
    subst (λ o. IfNone c.find.result (o ≡ None)) (sym e) c.find.ensures.none
