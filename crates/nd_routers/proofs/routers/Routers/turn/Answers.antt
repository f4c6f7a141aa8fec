use Rattle.std.proofs.Common.{arith, ◌≡◌, ◌∙◌, sym, ap, Some, None}
use Rattle.std.specs.Option.{option_map}
use Rattle.nd_addr.specs.Number.{number_of}
use Rattle.nd_table.specs.Listing.{without}
use Rattle.nd_routers.specs.Preferences.{without_preference}
use Rattle.nd_routers.specs.RouterFailuresKept.{others}
use Rattle.nd_routers.specs.Routers.{same}
use Rattle.nd_routers.specs.RoutersKept.{keys, first_due}
use Rattle.nd_routers.proofs.Dues.{first_is_due, first_has, first_at_next, NoneBefore-without, length-without}
use Rattle.nd_routers.proofs.Steps.{gains_left}
use Rattle.nd_routers.proofs.Preferring.{aligned_without, routers_of}
use Rattle.nd_routers.proofs.Planning.{first_planned, due_date, had_date, without_planned}
use Rattle.nd_routers.proofs.routers.Routers.turn.Goals as goal

pub returns-in_err-source-clause-due : goal.returns-in_err-source-clause-due
returns-in_err-source-clause-due g c =
    let number = option_map (λ a. number_of a.0) in
    let none : first_due c.args.now c.args.self.now.entries ≡ number c.from_residual.result = first_planned c.args.now c.self.inside.entries.items c.args.self.now.entries c.self.inside.dates c.first_due.result (ap (λ t. t.entries) c.self.view_is) c.self.invariant.6 c.first_due.ensures.order c.first_due.ensures.addresses c.requires c.first_due.ensures.here c.first_due.ensures.some c.first_due.ensures.none ∙ ((ap number (c.in_err-source.was ∙ sym c.from_residual.ensures))) in
    λ history s. first_is_due c.args.self.now.entries history s.routers c.args.now _ none

pub returns-in_err-source-clause-none : goal.returns-in_err-source-clause-none
returns-in_err-source-clause-none g c =
    let number = option_map (λ a. number_of a.0) in
    let none : first_due c.args.now c.args.self.now.entries ≡ None = first_planned c.args.now c.self.inside.entries.items c.args.self.now.entries c.self.inside.dates c.first_due.result (ap (λ t. t.entries) c.self.view_is) c.self.invariant.6 c.first_due.ensures.order c.first_due.ensures.addresses c.requires c.first_due.ensures.here c.first_due.ensures.some c.first_due.ensures.none ∙ ((ap number c.in_err-source.was)) in
    rw c.from_residual.ensures (λ h. first_at_next c.args.now c.args.self.now.entries h none)

pub returns-clause-due : goal.returns-clause-due
returns-clause-due g c =
    let number = option_map (λ a. number_of a.0) in
    let some : first_due c.args.now c.args.self.now.entries ≡ Some (number_of c.in_ok-source.source.0) = first_planned c.args.now c.self.inside.entries.items c.args.self.now.entries c.self.inside.dates c.first_due.result (ap (λ t. t.entries) c.self.view_is) c.self.invariant.6 c.first_due.ensures.order c.first_due.ensures.addresses c.requires c.first_due.ensures.here c.first_due.ensures.some c.first_due.ensures.none ∙ ((ap number c.in_ok-source.was)) in
    λ history s. first_is_due c.args.self.now.entries history s.routers c.args.now _ some

pub returns-clause-gains : goal.returns-clause-gains
returns-clause-gains g c =
    let key = number_of c.in_ok-source.source.0 in
    gains_left c.args.self.now _ c.args.now key
    (c.remove.ensures.items ∙ ap (λ t. without same key t.entries) c.self.view_is)
    (c.forget_preference.ensures.items ∙ ap (λ t. without_preference key t.preferences) c.self.view_is)
    (c.forget.ensures.items ∙ ap (λ t. others key t.failed) c.self.view_is)

pub returns-clause-fewer : goal.returns-clause-fewer
returns-clause-fewer g c =
    let number = option_map (λ a. number_of a.0) in
    let key = number_of c.in_ok-source.source.0 in
    let some : first_due c.args.now c.args.self.now.entries ≡ Some key = first_planned c.args.now c.self.inside.entries.items c.args.self.now.entries c.self.inside.dates c.first_due.result (ap (λ t. t.entries) c.self.view_is) c.self.invariant.6 c.first_due.ensures.order c.first_due.ensures.addresses c.requires c.first_due.ensures.here c.first_due.ensures.some c.first_due.ensures.none ∙ ((ap number c.in_ok-source.was)) in
    let has = first_has c.args.now key c.args.self.now.entries some in
    rw (c.remove.ensures.items ∙ ap (λ t. without same key t.entries) c.self.view_is) (length-without key has.0 c.args.self.now.entries has.1)

pub returns-clause-later : goal.returns-clause-later
returns-clause-later g c =
    let key = number_of c.in_ok-source.source.0 in
    rw (c.remove.ensures.items ∙ ap (λ t. without same key t.entries) c.self.view_is) (NoneBefore-without c.args.now key c.args.self.now.entries c.requires)

pub invariant_of-self : goal.invariant_of-self
invariant_of-self g c =
    let was = c.self.invariant in
    let key = number_of c.in_ok-source.source.0 in (
      was.0,
      omega (arith, was.1, c.remove.ensures.shorter),
      omega (arith, was.2, c.remove.ensures.capacity),
      omega (arith, was.3, c.forget.ensures.shorter),
      omega (arith, was.4, c.forget.ensures.capacity),
      omega (arith, was.5, c.change.ensures.room),
      without_planned key c.self.inside.entries.items c.remove.new.entries.items c.self.inside.dates c.change.new.self was.6 c.remove.ensures.items c.change.ensures.dates,
      ap (λ ps. routers_of ps) c.forget_preference.ensures.items
          ∙ (aligned_without key c.self.inside.preferences.items c.self.inside.entries.items was.7 ∙ ap (λ l. keys l) (sym c.remove.ensures.items)),
      omega (arith, was.8, c.forget_preference.ensures.capacity),
    )

pub change-requires-clause-was : goal.change-requires-clause-was
change-requires-clause-was g c =
    let key = number_of c.in_ok-source.source.0 in
    had_date key c.self.inside.entries.items c.self.inside.dates (Some c.args.now) c.self.invariant.6
    (due_date c.args.now key c.self.inside.entries.items c.self.inside.dates c.self.invariant.6 c.in_ok-source.ensures.here c.in_ok-source.ensures.some)
