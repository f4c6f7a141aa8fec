use Rattle.std.proofs.Common.{◌≤◌, ◌∙◌, sym, ap, subst, eqb}
use Rattle.std.specs.Prelude.{not}
use Rattle.std.proofs.Math.Bool.{beq}
use Rattle.nd_table.proofs.Walking.{stood_is, stays_so, place_for, standing_later, leads_on}
use Rattle.nd_table.proofs.walk.Walk.adds.Goals as goal

pub returns-then-stood-stays-clause-adds : goal.returns-then-stood-stays-clause-adds
returns-then-stood-stays-clause-adds g c = λ es l.
    let same = g.Q.NamesKey.same in
    let tells = g.met.Q.NamesKey.tells in
    let named = g.Q.NamesKey.named in
    let w = c.args.self.now in
    let kept = c.args.kept.now in
    let stood = stood_is same tells named w kept es l c.args.name c.args.lifetime c.stands.result c.is_some.result c.place_in-place.result c.place_in-place.ensures c.stands.ensures c.is_some.ensures in
    stays_so same tells named w kept es l c.args.name c.args.lifetime (sym (ap (λ b. beq b (not (eqb c.args.lifetime 0))) stood) ∙ c.if-stood-stays.true)

pub change-self-requires-clause-place : goal.change-self-requires-clause-place
change-self-requires-clause-place g c =
    let same = g.Q.NamesKey.same in
    let tells = g.met.Q.NamesKey.tells in
    let named = g.Q.NamesKey.named in
    let w = c.args.self.now in
    let kept = c.args.kept.now in
    let es = c.requires.0 in
    let l = c.requires.1 in
    let stood = stood_is same tells named w kept es l c.args.name c.args.lifetime c.stands.result c.is_some.result c.place_in-place.result c.place_in-place.ensures c.stands.ensures c.is_some.ensures in
    let standing = c.count_after-standing.ensures ∙ standing_later same tells named w kept es l c.args.name c.args.lifetime _ stood in
    place_for same tells named w kept es l c.args.name c.args.lifetime c.place_in-place.result c.place_in-place.ensures (sym (ap (λ b. beq b (not (eqb c.args.lifetime 0))) stood) ∙ c.if-stood-stays.false)
    (subst (λ n. n ≤ w.limit) standing c.if-standing-self.false)

pub returns-clause-adds : goal.returns-clause-adds
returns-clause-adds g c = λ es l.
    let same = g.Q.NamesKey.same in
    let tells = g.met.Q.NamesKey.tells in
    let named = g.Q.NamesKey.named in
    let w = c.args.self.now in
    let kept = c.args.kept.now in
    let stood = stood_is same tells named w kept es l c.args.name c.args.lifetime c.stands.result c.is_some.result c.place_in-place.result c.place_in-place.ensures c.stands.ensures c.is_some.ensures in
    let standing = c.count_after-standing.ensures ∙ standing_later same tells named w kept es l c.args.name c.args.lifetime _ stood in
    leads_on same tells named w kept es l c.args.name c.args.lifetime c.change-self.result c.change-self.new.kept (sym (ap (λ b. beq b (not (eqb c.args.lifetime 0))) stood) ∙ c.if-stood-stays.false)
    c.place_in-place.result c.place_in-place.ensures c.change-self.ensures.names c.change-self.ensures.len c.change-self.ensures.within c.count_after-standing.result standing c.if-standing-self.false
