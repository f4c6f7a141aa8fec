use Rattle.std.proofs.Common.{◌≡◌, ◌+◌, true, false, is_some, hash_map_len, sym, ◌∙◌, ap, subst, arith}
use Rattle.std.specs.Prelude.{if◌then◌else◌}
use Rattle.std.specs.Option.{option_copied_mut}
use Rattle.std.specs.Map.{lookup, set_value, values_of}
use Rattle.indexmap.specs.IndexMap.{insert_entry, spare}
use Rattle.nd_addr.specs.Same.{same_prefix}
use Rattle.nd_decode.specs.declared.prefix_info.PrefixInfo.{PrefixInfo}
use Rattle.nd_advertiser.specs.Offers.{answer_to}
use Rattle.nd_advertiser.specs.OffersKept.{Offers}
use Rattle.nd_advertiser.specs.Calls.{prefixes_in, with_offer}
use Rattle.nd_advertiser.proofs.Keyed.{IsKeyed, set_is, set_keyed, put_is, put_keyed, answer_there, answer_full, answer_new}
use Rattle.nd_advertiser.proofs.offers.Offers.put.Goals as goal

pub invariant_of-self : goal.invariant_of-self
invariant_of-self g c =
    let es = c.self.inside.entries.entries in
    let w = c.get_mut.follows.holds c.args.offer in
    let at = w.0 ∙ ap (λ (i : PrefixInfo). set_value (same_prefix i.prefix) es c.args.offer) c.info-prefix.ensures.value in
    (subst IsKeyed (sym at) (set_keyed c.args.offer es c.self.invariant.0), omega (arith, w.2, c.self.invariant.1), omega (arith, w.2, w.6, c.self.invariant.2), c.self.invariant.3)

pub returns-in-Some-clause-value : goal.returns-in-Some-clause-value
returns-in-Some-clause-value g c =
    let es = c.self.inside.entries.entries in
    let offer = c.args.offer in
    let found : is_some (lookup (same_prefix c.info-prefix.result.prefix) es) ≡ true = sym (ap is_some c.get_mut.ensures.value) ∙ ap (λ r. is_some (option_copied_mut r)) c.in-Some.is in
    answer_there c.self.inside.limit offer.prefix es c.self.invariant.0 (subst (λ (i : PrefixInfo). is_some (lookup (same_prefix i.prefix) es) ≡ true) c.info-prefix.ensures.value found)
    ∙ ap (λ (o : Offers). answer_to o.limit offer.prefix (prefixes_in o.offers)) c.self.view_is

pub returns-in-Some-clause-put : goal.returns-in-Some-clause-put
returns-in-Some-clause-put g c =
    let es = c.self.inside.entries.entries in
    let offer = c.args.offer in
    let w = c.get_mut.follows.holds offer in
    let at = w.0 ∙ ap (λ (i : PrefixInfo). set_value (same_prefix i.prefix) es offer) c.info-prefix.ensures.value in
    let found : is_some (lookup (same_prefix c.info-prefix.result.prefix) es) ≡ true = sym (ap is_some c.get_mut.ensures.value) ∙ ap (λ r. is_some (option_copied_mut r)) c.in-Some.is in
    ap values_of at
    ∙ (set_is offer es c.self.invariant.0 (subst (λ (i : PrefixInfo). is_some (lookup (same_prefix i.prefix) es) ≡ true) c.info-prefix.ensures.value found)
    ∙ ap (λ (o : Offers). with_offer offer o.offers) c.self.view_is)

pub returns-then-len-self-clause-value : goal.returns-then-len-self-clause-value
returns-then-len-self-clause-value g c =
    let es = c.self.inside.entries.entries in
    let offer = c.args.offer in
    let lacks : is_some (lookup (same_prefix c.info-prefix.result.prefix) es) ≡ false = sym (ap is_some c.get_mut.ensures.value) ∙ ap (λ r. is_some (option_copied_mut r)) c.in_default.is in
    let whole : hash_map_len c.get_mut.follows.lender-at-none ≡ hash_map_len c.self.inside.entries = ap hash_map_len c.get_mut.follows.holds-at-none in
    answer_full c.self.inside.limit offer.prefix es c.self.invariant.0 (subst (λ (i : PrefixInfo). is_some (lookup (same_prefix i.prefix) es) ≡ false) c.info-prefix.ensures.value lacks) (omega (arith, whole, c.len.ensures.len, c.if-len-self.true))
    ∙ ap (λ (o : Offers). answer_to o.limit offer.prefix (prefixes_in o.offers)) c.self.view_is

pub invariant_of-self-2 : goal.invariant_of-self-2
invariant_of-self-2 g c =
    let es = c.self.inside.entries.entries in
    let offer = c.args.offer in
    let none = c.get_mut.follows.holds-at-none in
    let at =
    c.in-Ok.ensures.entries
    ∙ (ap (λ m. insert_entry same_prefix m.entries c.info-prefix.result.prefix offer) none ∙ ap (λ (i : PrefixInfo). insert_entry same_prefix es i.prefix offer) c.info-prefix.ensures.value)
    in
    let lacks : is_some c.in-Ok.field-0 ≡ false =
    ap is_some c.in-Ok.ensures.old
    ∙ (ap (λ m. is_some (lookup (same_prefix c.info-prefix.result.prefix) m.entries)) none
    ∙ (sym (ap is_some c.get_mut.ensures.value) ∙ ap (λ r. is_some (option_copied_mut r)) c.in_default.is))
    in
    let more = c.in-Ok.ensures.len ∙ ap (λ b. hash_map_len c.get_mut.follows.lender-at-none + (if b then 0 else 1)) lacks in (
      subst IsKeyed (sym at) (put_keyed offer es c.self.invariant.0),
      omega (arith, more, ap hash_map_len none, c.len.ensures.len, c.if-len-self.false),
      omega (arith, more, ap hash_map_len none, ap spare none, c.in-Ok.ensures.spare, c.self.invariant.2),
      c.self.invariant.3,
    )

pub returns-clause-value : goal.returns-clause-value
returns-clause-value g c =
    let es = c.self.inside.entries.entries in
    let offer = c.args.offer in
    let whole : hash_map_len c.get_mut.follows.lender-at-none ≡ hash_map_len c.self.inside.entries = ap hash_map_len c.get_mut.follows.holds-at-none in
    answer_new c.self.inside.limit offer.prefix es (omega (arith, whole, c.len.ensures.len, c.if-len-self.false)) ∙ ap (λ (o : Offers). answer_to o.limit offer.prefix (prefixes_in o.offers)) c.self.view_is

pub returns-clause-put : goal.returns-clause-put
returns-clause-put g c =
    let es = c.self.inside.entries.entries in
    let offer = c.args.offer in
    let none = c.get_mut.follows.holds-at-none in
    let at =
    c.in-Ok.ensures.entries
    ∙ (ap (λ m. insert_entry same_prefix m.entries c.info-prefix.result.prefix offer) none ∙ ap (λ (i : PrefixInfo). insert_entry same_prefix es i.prefix offer) c.info-prefix.ensures.value)
    in
    ap values_of at ∙ (put_is offer es c.self.invariant.0 ∙ ap (λ (o : Offers). with_offer offer o.offers) c.self.view_is)
