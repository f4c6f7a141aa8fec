use Rattle.std.proofs.Common.{◌≡◌, ◌≤◌, ◌+◌, Bool, false, refl, sym, ◌∙◌, ap, subst, arith, is_some, if◌then◌else◌}
use Rattle.indexmap.specs.IndexMap.{get, index_map_len, insert_entry, spare}
use Rattle.nd_addr.specs.Same.{same_prefix}
use Rattle.nd_forwarding.proofs.Steps.{gains_put}
use Rattle.nd_forwarding.proofs.routes.Routes.put.Goals as goal

pub returns-then-replace-clause-stands : goal.returns-then-replace-clause-stands
returns-then-replace-clause-stands g c =
    gains_put c.args.self.now _ c.args.prefix c.args.route
    (c.if-replace.ensures.entries refl ∙ ap (λ t. insert_entry same_prefix t.entries c.args.prefix c.args.route) c.self.view_is)
    (ap (λ t. t.redirected) c.self.view_is)

pub invariant_of-self-2 : goal.invariant_of-self-2
invariant_of-self-2 g c =
    let before = c.if-replace.ensures.same refl in
    let absent : is_some c.in-Ok.field-0 ≡ false =
    ap is_some c.in-Ok.ensures.old ∙ (ap (λ m. is_some (get same_prefix m c.args.prefix)) before ∙ sym c.if-replace.ensures.found) in
    let more : index_map_len c.insert.new.self ≡ index_map_len c.replace.new.entries + 1 =
    c.in-Ok.ensures.len ∙ ap (λ (b : Bool). index_map_len c.replace.new.entries + (if b then 0 else 1)) absent in
    let limit = c.self.inside.limit in
    let room : limit ≤ index_map_len c.replace.new.entries + spare c.replace.new.entries =
    subst (λ m. limit ≤ index_map_len m + spare m) (sym before) c.self.invariant.1 in
    (omega (arith, more, c.if-len-self.false, c.len.ensures.len), omega (arith, more, room, c.in-Ok.ensures.spare), c.self.invariant.2)

pub returns-clause-stands : goal.returns-clause-stands
returns-clause-stands g c =
    gains_put c.args.self.now _ c.args.prefix c.args.route
    (c.in-Ok.ensures.entries
    ∙ (ap (λ m. insert_entry same_prefix m.entries c.args.prefix c.args.route) (c.if-replace.ensures.same refl)
    ∙ ap (λ t. insert_entry same_prefix t.entries c.args.prefix c.args.route) c.self.view_is))
    (ap (λ t. t.redirected) c.self.view_is)
