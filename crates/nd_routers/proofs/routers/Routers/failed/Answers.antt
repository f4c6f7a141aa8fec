use Rattle.std.proofs.Common.{◌≡◌, ◌∙◌, ◌++◌, ◌∷◌, [], sym, ap, refl, arith}
use Rattle.std.specs.Prelude.{is_some, length}
use Rattle.nd_addr.specs.Number.{number_of}
use Rattle.nd_table.specs.Listing.{end_in}
use Rattle.nd_routers.specs.RouterFailuresKept.{others}
use Rattle.nd_routers.specs.Routers.{same}
use Rattle.nd_routers.proofs.Failing.{has_room}
use Rattle.nd_routers.proofs.Steps.{gains_failure, gains_no_failure}
use Rattle.nd_routers.proofs.routers.Routers.failed.Goals as goal

pub returns-then-not-has-clause-stands : goal.returns-then-not-has-clause-stands
returns-then-not-has-clause-stands g c = λ at.
    let key = number_of c.args.source.0 in
    let listed : c.has.result ≡ is_some (end_in same key c.args.self.now.entries) = c.has.ensures ∙ (ap (λ es. is_some (end_in same key es)) c.deref.ensures.value ∙ ap (λ t. is_some (end_in same key t.entries)) c.self.view_is) in
    gains_no_failure c.args.self.now _ at key (sym listed ∙ grind (arith, c.if-not-has.true, c.if-not-has.ensures)) refl

pub returns-then-len-self-clause-stands :
    goal.returns-then-len-self-clause-stands
returns-then-len-self-clause-stands g c = λ at. record {
  stands = λ history s.
      let key = number_of c.args.source.0 in
      let listed : c.has.result ≡ is_some (end_in same key c.args.self.now.entries) = c.has.ensures ∙ (ap (λ es. is_some (end_in same key es)) c.deref.ensures.value ∙ ap (λ t. is_some (end_in same key t.entries)) c.self.view_is) in
      gains_failure c.args.self.now _ at key history s (sym listed ∙ grind (arith, c.if-not-has.false, c.if-not-has.ensures))
      (ap (λ t. t.entries) c.self.view_is)
      (ap (λ t. t.preferences) c.self.view_is)
      (c.push_reserved.ensures.items ∙ (ap (λ k. c.forget.new.failed.items ++ k ∷ []) c.of.ensures ∙ (ap (λ ks. ks ++ key ∷ []) c.forget.ensures.items ∙ ap (λ t. others key t.failed ++ key ∷ []) c.self.view_is)));
}

pub returns-else-len-self-clause-stands :
    goal.returns-else-len-self-clause-stands
returns-else-len-self-clause-stands g c = λ at. record {
  stands = λ history s.
      let key = number_of c.args.source.0 in
      let listed : c.has.result ≡ is_some (end_in same key c.args.self.now.entries) = c.has.ensures ∙ (ap (λ es. is_some (end_in same key es)) c.deref.ensures.value ∙ ap (λ t. is_some (end_in same key t.entries)) c.self.view_is) in
      let room = has_room history c.args.self.now.failed c.args.self.now.entries key s.failures s.routers (sym listed ∙ grind (arith, c.if-not-has.false, c.if-not-has.ensures)) in
      let same_length = ap (λ t. length t.entries) c.self.view_is in
      let items = ap length c.deref.ensures.value in
      let left : c.forget.new.failed.items ≡ others key c.args.self.now.failed = c.forget.ensures.items ∙ ap (λ t. others key t.failed) c.self.view_is in
      absurd (omega (arith, room, same_length, items, c.deref.ensures.len, c.self.invariant.0, ap length left, c.len.ensures, c.if-len-self.false, c.forget.new.failed.ok.0));
}
