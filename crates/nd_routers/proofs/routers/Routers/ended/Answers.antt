use Rattle.std.proofs.Common.{arith, ◌∙◌, ap, sym}
use Rattle.std.specs.Prelude.{is_some}
use Rattle.nd_addr.specs.Number.{number_of}
use Rattle.nd_table.specs.Dates.{date_at}
use Rattle.nd_routers.specs.Planned.{key_of, date_of}
use Rattle.nd_table.specs.Listing.{end_in, without}
use Rattle.nd_routers.specs.Preferences.{without_preference}
use Rattle.nd_routers.specs.RouterFailuresKept.{others}
use Rattle.nd_routers.specs.Routers.{same}
use Rattle.nd_routers.specs.RoutersKept.{keys}
use Rattle.nd_routers.proofs.Preferring.{aligned_without, routers_of}
use Rattle.nd_routers.proofs.Planning.{had_date, without_planned}
use Rattle.nd_routers.proofs.Steps.{gains_left, settled_without}
use Rattle.nd_routers.proofs.routers.Routers.ended.Goals as goal

pub returns-clause-stands : goal.returns-clause-stands
returns-clause-stands g c = λ at.
    let key = number_of c.args.source.0 in
    gains_left c.args.self.now _ at key
    (c.remove.ensures.items ∙ ap (λ t. without same key t.entries) c.self.view_is)
    (c.forget_preference.ensures.items ∙ ap (λ t. without_preference key t.preferences) c.self.view_is)
    (c.forget.ensures.items ∙ ap (λ t. others key t.failed) c.self.view_is)

pub returns-clause-settled : goal.returns-clause-settled
returns-clause-settled g c = λ now h.
    let key = number_of c.args.source.0 in
    rw (c.remove.ensures.items ∙ ap (λ t. without same key t.entries) c.self.view_is) (settled_without c.args.self.now.entries now key h)

pub returns-clause-by_history : goal.returns-clause-by_history
returns-clause-by_history g c = λ history s.
    let key = number_of c.args.source.0 in
    c.has-listed.ensures ∙ (ap (λ es. is_some (end_in same key es)) c.deref.ensures.value
    ∙ (ap (λ t. is_some (end_in same key t.entries)) c.self.view_is ∙ ap is_some (s.routers.ends key)))

pub invariant_of-self : goal.invariant_of-self
invariant_of-self g c =
    let was = c.self.invariant in
    let key = number_of c.args.source.0 in (
      was.0,
      omega (arith, was.1, c.remove.ensures.shorter),
      omega (arith, was.2, c.remove.ensures.capacity),
      omega (arith, was.3, c.forget.ensures.shorter),
      omega (arith, was.4, c.forget.ensures.capacity),
      omega (arith, was.5, c.change.ensures.room),
      without_planned key c.self.inside.entries.items c.remove.new.entries.items c.self.inside.dates c.change.new.self was.6 c.remove.ensures.items c.change.ensures.dates,
      ap (λ ps. routers_of ps) c.forget_preference.ensures.items
          ∙ (aligned_without key c.self.inside.preferences.items c.self.inside.entries.items was.7 ∙ ap (λ l. keys l) (sym c.remove.ensures.items)),
      omega (arith, was.8, c.forget_preference.ensures.capacity),
    )

pub change-requires-clause-was : goal.change-requires-clause-was
change-requires-clause-was g c =
    let key = number_of c.args.source.0 in
    had_date key c.self.inside.entries.items c.self.inside.dates c.end_of-was.result c.self.invariant.6 (c.end_of-was.ensures ∙ ap (date_at key_of date_of key) c.deref-2.ensures.value)
