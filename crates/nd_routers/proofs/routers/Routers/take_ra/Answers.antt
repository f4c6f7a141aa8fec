use Rattle.std.proofs.Common.{◌≤◌, length, [], ◌∷◌, ◌≡◌, ◌∙◌, sym, ap, subst, true, false, ℕ, List, arith}
use Rattle.std.specs.Prelude.{is_some}
use Rattle.std.proofs.lemmas.Bool.{ne_eqb}
use Rattle.std.proofs.lemmas.Bool.Decides.{nat_tests}
use Rattle.nd_addr.specs.Number.{number_of}
use Rattle.nd_table.specs.Dates.{date_at}
use Rattle.nd_routers.specs.Planned.{key_of, date_of}
use Rattle.nd_routers.proofs.Planning.{had_date, announced_room, announced_planned, fits_length}
use Rattle.nd_table.specs.declared.lasting.Lasting.{Lasting}
use Rattle.nd_table.specs.Listing.{end_in, announced, fits}
use Rattle.nd_routers.specs.History.{Heard}
use Rattle.nd_routers.specs.Preferences.{with_preference, without_preference}
use Rattle.nd_routers.specs.RouterFailuresKept.{others}
use Rattle.nd_routers.specs.Routers.{same}
use Rattle.nd_routers.specs.RoutersKept.{Table, keys, IsSettled, GainsRow}
use Rattle.nd_routers.proofs.Preferring.{aligned_announced, aligned_removed, preference_room, routers_of}
use Rattle.nd_routers.proofs.Steps.{gains_removed, gains_heard, settled_announced, changes}
use Rattle.nd_routers.proofs.routers.Routers.take_ra.Goals as goal

pub returns-then-lifetime-eq0-clause-settled : goal.returns-then-lifetime-eq0-clause-settled
returns-then-lifetime-eq0-clause-settled g c =
    let key = number_of c.args.source.0 in
    subst (λ (es : List (Lasting ℕ)). IsSettled es c.args.now) (sym c.announce.ensures.items) (settled_announced c.self.inside.entries.items c.args.now key c.from.result)

pub returns-clause-settled : goal.returns-clause-settled
returns-clause-settled g c =
    let key = number_of c.args.source.0 in
    subst (λ (es : List (Lasting ℕ)). IsSettled es c.args.now) (sym c.announce.ensures.items) (settled_announced c.self.inside.entries.items c.args.now key c.from.result)

told_preferences : (g : _) (c : goal.After-change_by-2 g)
    → c.prefer.new.preferences.items ≡ with_preference (is_some (end_in same (number_of c.args.source.0) c.args.self.now.entries)) (number_of c.args.source.0) c.args.preference c.args.self.now.preferences
told_preferences g c =
    let key = number_of c.args.source.0 in
    let listed : c.has-before.result ≡ is_some (end_in same key c.args.self.now.entries) = c.has-before.ensures ∙ (ap (λ es. is_some (end_in same key es)) c.deref.ensures.value ∙ ap (λ t. is_some (end_in same key t.entries)) c.self.view_is) in
    c.prefer.ensures.items
    ∙ (ap (λ b. with_preference b key c.args.preference c.self.inside.preferences.items) listed ∙ ap (λ t. with_preference (is_some (end_in same key c.args.self.now.entries)) key c.args.preference t.preferences) c.self.view_is)

pub returns-clause-stands : goal.returns-clause-stands
returns-clause-stands g c =
    let key = number_of c.args.source.0 in
    gains_heard c.args.self.now _ c.args.now key c.args.lifetime c.args.preference (ne_eqb c.args.lifetime 0 c.if-lifetime-eq0.false) c.requires.settled
    (c.announce.ensures.items ∙ (ap (λ w. announced same c.args.now key w c.self.inside.entries.items) c.from.ensures ∙ ap (λ t. announced same c.args.now key c.args.lifetime t.entries) c.self.view_is))
    (told_preferences g c)
    (ap (λ t. t.failed) c.self.view_is)

pub returns-then-lifetime-eq0-clause-stands : goal.returns-then-lifetime-eq0-clause-stands
returns-then-lifetime-eq0-clause-stands g c =
    let key = number_of c.args.source.0 in
    subst (λ (w : ℕ). GainsRow c.args.self.now (record { limit = c.self.inside.limit; entries = c.announce.new.entries.items; preferences = c.forget_preference.new.preferences.items; failed = c.forget.new.failed.items }) (Heard c.args.now key w c.args.preference)) (sym c.if-lifetime-eq0.true)
    (gains_removed c.args.self.now _ c.args.now key c.args.preference c.requires.settled
    (c.announce.ensures.items ∙ (ap (λ w. announced same c.args.now key w c.self.inside.entries.items) (c.from.ensures ∙ c.if-lifetime-eq0.true) ∙ ap (λ t. announced same c.args.now key 0 t.entries) c.self.view_is))
    (c.forget_preference.ensures.items ∙ ap (λ t. without_preference key t.preferences) c.self.view_is)
    (c.forget.ensures.items ∙ ap (λ t. others key t.failed) c.self.view_is))

pub returns-then-lifetime-eq0-clause-change : goal.returns-then-lifetime-eq0-clause-change
returns-then-lifetime-eq0-clause-change g c = λ history s.
    let key = number_of c.args.source.0 in
    let listed : c.has-before.result ≡ is_some (end_in same key c.args.self.now.entries) = c.has-before.ensures ∙ (ap (λ es. is_some (end_in same key es)) c.deref.ensures.value ∙ ap (λ t. is_some (end_in same key t.entries)) c.self.view_is) in
    c.change_by.ensures ∙ changes c.args.self.now history c.args.now key c.args.lifetime c.args.preference c.has-before.result false s c.requires.settled listed (grind (arith, nat_tests, c.if-lifetime-eq0.true))

pub returns-clause-change : goal.returns-clause-change
returns-clause-change g c = λ history s.
    let key = number_of c.args.source.0 in
    let listed : c.has-before.result ≡ is_some (end_in same key c.args.self.now.entries) = c.has-before.ensures ∙ (ap (λ es. is_some (end_in same key es)) c.deref.ensures.value ∙ ap (λ t. is_some (end_in same key t.entries)) c.self.view_is) in
    c.change_by-2.ensures ∙ changes c.args.self.now history c.args.now key c.args.lifetime c.args.preference c.has-before.result true s c.requires.settled listed (grind (arith, nat_tests, c.if-lifetime-eq0.false))

pub change-requires-clause-was : goal.change-requires-clause-was
change-requires-clause-was g c =
    let key = number_of c.args.source.0 in
    had_date key c.self.inside.entries.items c.self.inside.dates c.end_of-was.result c.self.invariant.6 (c.end_of-was.ensures ∙ ap (date_at key_of date_of key) c.deref-2.ensures.value)

pub change-requires-clause-room : goal.change-requires-clause-room
change-requires-clause-room g c =
    let was = c.self.invariant in
    let key = number_of c.args.source.0 in
    let w = c.from.result in
    let es = c.self.inside.entries.items in
    let new = c.announce.new.entries.items in
    let settled : IsSettled es c.args.now = subst (λ (t : Table). IsSettled t.entries c.args.now) (sym c.self.view_is) c.requires.settled in
    let fit : fits same c.self.inside.limit c.args.now ((key, c.args.lifetime) ∷ []) es ≡ true = ap (λ (t : Table). fits same t.limit c.args.now ((key, c.args.lifetime) ∷ []) t.entries) c.self.view_is ∙ c.requires.fits in
    let few : length new ≤ c.self.inside.limit = subst (λ n. n ≤ c.self.inside.limit) (sym (ap length c.announce.ensures.items ∙ ap (λ x. length (announced same c.args.now key x es)) c.from.ensures)) (fits_length c.self.inside.limit c.args.now key c.args.lifetime es fit) in
    announced_room key c.args.now w es new c.self.inside.dates was.6 settled c.announce.ensures.items c.self.inside.dates.room c.end_of-was.result c.end_of.result
    (c.end_of-was.ensures ∙ ap (date_at key_of date_of key) c.deref-2.ensures.value) (c.end_of.ensures ∙ ap (date_at key_of date_of key) c.deref-3.ensures.value) (omega (arith, few, was.5))

pub invariant_of-self : goal.invariant_of-self
invariant_of-self g c =
    let was = c.self.invariant in
    let key = number_of c.args.source.0 in
    let w = c.from.result in
    let es = c.self.inside.entries.items in
    let new = c.announce.new.entries.items in
    let settled : IsSettled es c.args.now = subst (λ (t : Table). IsSettled t.entries c.args.now) (sym c.self.view_is) c.requires.settled in
    let fit : fits same c.self.inside.limit c.args.now ((key, c.args.lifetime) ∷ []) es ≡ true = ap (λ (t : Table). fits same t.limit c.args.now ((key, c.args.lifetime) ∷ []) t.entries) c.self.view_is ∙ c.requires.fits in
    let few : length new ≤ c.self.inside.limit = subst (λ n. n ≤ c.self.inside.limit) (sym (ap length c.announce.ensures.items ∙ ap (λ x. length (announced same c.args.now key x es)) c.from.ensures)) (fits_length c.self.inside.limit c.args.now key c.args.lifetime es fit) in (
      was.0,
      omega (arith, few, c.announce.new.entries.ok.0),
      omega (arith, was.2, c.announce.ensures.capacity),
      omega (arith, was.3, c.forget.ensures.shorter),
      omega (arith, was.4, c.forget.ensures.capacity),
      omega (arith, was.5, c.change.ensures.room),
      announced_planned key c.args.now w es new c.self.inside.dates was.6 settled c.announce.ensures.items c.change.new.self c.end_of.result
          (c.end_of.ensures ∙ ap (date_at key_of date_of key) c.deref-3.ensures.value) c.change.ensures.dates,
      ap (λ ps. routers_of ps) c.forget_preference.ensures.items
          ∙ (aligned_removed key c.args.now c.self.inside.preferences.items es settled was.7
          ∙ ap (λ l. keys l) (sym (c.announce.ensures.items ∙ ap (λ n. announced same c.args.now key n es) (c.from.ensures ∙ c.if-lifetime-eq0.true)))),
      omega (arith, was.8, c.forget_preference.ensures.capacity),
    )

pub invariant_of-self-2 : goal.invariant_of-self-2
invariant_of-self-2 g c =
    let was = c.self.invariant in
    let key = number_of c.args.source.0 in
    let w = c.from.result in
    let es = c.self.inside.entries.items in
    let new = c.announce.new.entries.items in
    let settled : IsSettled es c.args.now = subst (λ (t : Table). IsSettled t.entries c.args.now) (sym c.self.view_is) c.requires.settled in
    let fit : fits same c.self.inside.limit c.args.now ((key, c.args.lifetime) ∷ []) es ≡ true = ap (λ (t : Table). fits same t.limit c.args.now ((key, c.args.lifetime) ∷ []) t.entries) c.self.view_is ∙ c.requires.fits in
    let few : length new ≤ c.self.inside.limit = subst (λ n. n ≤ c.self.inside.limit) (sym (ap length c.announce.ensures.items ∙ ap (λ x. length (announced same c.args.now key x es)) c.from.ensures)) (fits_length c.self.inside.limit c.args.now key c.args.lifetime es fit) in (
      was.0,
      omega (arith, few, c.announce.new.entries.ok.0),
      omega (arith, was.2, c.announce.ensures.capacity),
      was.3,
      was.4,
      omega (arith, was.5, c.change.ensures.room),
      announced_planned key c.args.now w es new c.self.inside.dates was.6 settled c.announce.ensures.items c.change.new.self c.end_of.result
          (c.end_of.ensures ∙ ap (date_at key_of date_of key) c.deref-3.ensures.value) c.change.ensures.dates,
      ap (λ ps. routers_of ps) (c.prefer.ensures.items ∙ ap (λ b. with_preference b key c.args.preference c.self.inside.preferences.items) (c.has-before.ensures ∙ ap (λ l. is_some (end_in same key l)) c.deref.ensures.value))
          ∙ (aligned_announced key c.args.now c.args.lifetime c.args.preference c.self.inside.preferences.items es settled (ne_eqb c.args.lifetime 0 c.if-lifetime-eq0.false) was.7
          ∙ ap (λ l. keys l) (sym (c.announce.ensures.items ∙ ap (λ n. announced same c.args.now key n es) c.from.ensures))),
      omega (arith, was.8, c.prefer.ensures.capacity),
    )

pub returns-clause-preferences : goal.returns-clause-preferences
returns-clause-preferences g c = λ goes_on. told_preferences g c

pub prefer-requires : goal.prefer-requires
prefer-requires g c = λ absent.
    let was = c.self.invariant in
    let key = number_of c.args.source.0 in
    let es = c.self.inside.entries.items in
    let settled : IsSettled es c.args.now = subst (λ (t : Table). IsSettled t.entries c.args.now) (sym c.self.view_is) c.requires.settled in
    let fit : fits same c.self.inside.limit c.args.now ((key, c.args.lifetime) ∷ []) es ≡ true = ap (λ (t : Table). fits same t.limit c.args.now ((key, c.args.lifetime) ∷ []) t.entries) c.self.view_is ∙ c.requires.fits in
    let unlisted : is_some (end_in same key es) ≡ false = sym (c.has-before.ensures ∙ ap (λ l. is_some (end_in same key l)) c.deref.ensures.value) ∙ absent in
    let room = preference_room c.self.inside.limit key c.args.now c.args.lifetime c.self.inside.preferences.items es settled (ne_eqb c.args.lifetime 0 c.if-lifetime-eq0.false) was.7 unlisted (fits_length c.self.inside.limit c.args.now key c.args.lifetime es fit) in
    omega (arith, room, was.8, c.self.inside.preferences.ok.0)
