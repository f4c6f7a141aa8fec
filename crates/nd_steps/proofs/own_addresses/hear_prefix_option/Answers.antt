use Rattle.std.proofs.Common.{◌≡◌, ◌∙◌, sym, ap, subst, ltb, true, false, [], length, List, ◌⊎◌, inl, inr}
use Rattle.std.proofs.lemmas.Bool.{false≢true}
use Rattle.nd_decode.specs.declared.prefix_info.PrefixInfo.{PrefixInfo}
use Rattle.nd_slaac.specs.Room.{would_form}
use Rattle.nd_slaac.specs.Calls.{keys_in}
use Rattle.nd_slaac.proofs.Keys.{keys-length}
use Rattle.nd_chronicle.specs.RouterAdvertisement.{then_options}
use Rattle.nd_steps.specs.OwnAddresses.{Forms}
use Rattle.nd_steps.proofs.Forming.{one_fits, taken}
use Rattle.nd_steps.proofs.own_addresses.hear_prefix_option.Goals as goal
use Rattle.nd_steps.proofs.own_addresses.hear_prefix_option.Goals.{else-forms-via-then-forms+else-not-has_room, else-forms-via-else-forms}

pub unreachable-requires : goal.unreachable-requires
unreachable-requires g c =
    let old = c.args.addresses.now in
    let keys = keys_in old.addresses in
    let room : (would_form old.mac keys c.args.info.now ≡ false) ⊎ (ltb (length keys) old.limit ≡ true) = elim c.else-forms.branch [
      | else-forms-via-then-forms+else-not-has_room w ↦ inr (ap (λ n. ltb n old.limit) (keys-length old.addresses) ∙ (sym w.has_room.ensures.value ∙ w.if-not-has_room.false))
      | else-forms-via-else-forms w ↦ inl (sym c.would_form-forms.ensures.value ∙ w.if-forms.false)
    ] in
    false≢true (c.in-Err.ensures.fits [] (one_fits old.limit old.mac keys c.args.info.now room).0).0

pub returns-clause-forms : goal.returns-clause-forms
returns-clause-forms g c = λ start c' s.
    let old = c.args.addresses.now in
    let keys = keys_in old.addresses in
    let room : (would_form old.mac keys c.args.info.now ≡ false) ⊎ (ltb (length keys) old.limit ≡ true) = elim c.else-forms.branch [
      | else-forms-via-then-forms+else-not-has_room w ↦ inr (ap (λ n. ltb n old.limit) (keys-length old.addresses) ∙ (sym w.has_room.ensures.value ∙ w.if-not-has_room.false))
      | else-forms-via-else-forms w ↦ inl (sym c.would_form-forms.ensures.value ∙ w.if-forms.false)
    ] in
    let one = one_fits old.limit old.mac keys c.args.info.now room in
    subst (λ (infos : List PrefixInfo). Forms start c.heard_prefix.new.self (g.R.Rng.stream c.delay-delay.new.generator) c.args.retrans (then_options start c.args.now c.args.to_all infos c')) (sym one.1)
    (taken start _ _ _ _ _ _ _ _ _ c' c.heard_prefix.ensures.mac c.heard_prefix.ensures.limit c.heard_prefix.ensures.transmits s _ _ (c.heard_prefix.ensures.fits [] one.0).0 c.would_form-forms.ensures.by_history c.heard_prefix.ensures.story
    c.delay-delay.ensures
    c.heard_prefix.ensures.gains)
