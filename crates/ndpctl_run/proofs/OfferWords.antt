-- An offer is determined by its words.
use Rattle.std.proofs.Common.{◌≡◌, ◌∙◌, ◌^◌, ℕ, Bool, List, [], ◌∷◌, None, refl, sym, subst, arith}
use Rattle.nd_addr.specs.Prefix.{PrefixValue}
use Rattle.nd_decode.specs.declared.prefix_info.PrefixInfo.{PrefixInfo}
use Rattle.nd_advertiser.specs.Offer.{offer_fault}
use Rattle.ndpctl_run.specs.Offer.{IsOffer, SpellOffer}
use Rattle.ndpctl_run.specs.Words.{words_of}
use Rattle.ndpctl_run.proofs.FlagsWords.{one_prefix_flags}
use Rattle.ndpctl_run.proofs.NumberWords.{one_number_or}
use Rattle.ndpctl_run.proofs.PrefixWords.{one_prefix}

-- an offer by its values
offer_of : PrefixValue → Bool → Bool → ℕ → ℕ → PrefixInfo
offer_of prefix on_link autonomous valid preferred = record { prefix = prefix; on_link = on_link; autonomous = autonomous; valid_lifetime = valid; preferred_lifetime = preferred }

of_values : (info : PrefixInfo) → info ≡ offer_of info.prefix info.on_link info.autonomous info.valid_lifetime info.preferred_lifetime
unfolding offer_of
of_values info = refl

pub one_spelled : (words : List (List ℕ)) (a b : PrefixInfo) → SpellOffer words a → SpellOffer words b → a ≡ b
one_spelled (prefix ∷ valid ∷ preferred ∷ flags ∷ []) a b p q =
    let prefix_is = one_prefix prefix a.prefix b.prefix p.0 q.0 in
    let valid_is = one_number_or 2592000 (2 ^ 32) (omega arith) valid a.valid_lifetime b.valid_lifetime p.1 q.1 in
    let preferred_is = one_number_or 604800 (2 ^ 32) (omega arith) preferred a.preferred_lifetime b.preferred_lifetime p.2 q.2 in
    let flags_are = one_prefix_flags flags a.on_link a.autonomous b.on_link b.autonomous p.3 q.3 in
    let on_link_is = flags_are.0 in
    let autonomous_is = flags_are.1 in
    of_values a ∙ (rw (prefix_is, on_link_is, autonomous_is, valid_is, preferred_is) (sym (of_values b)))
one_spelled _ a b p q = absurd p

pub one_offer : (text : List ℕ) (a b : PrefixInfo) → IsOffer text a → IsOffer text b → a ≡ b
one_offer text a b p q = one_spelled (words_of text) a b p.spelled q.spelled

pub spelled_at : (text : List ℕ) (words : List (List ℕ)) (info : PrefixInfo) → words_of text ≡ words → IsOffer text info → SpellOffer words info
spelled_at text words info e is = subst (λ (ws : List (List ℕ)). SpellOffer ws info) e is.spelled

pub is_offer : (text : List ℕ) (words : List (List ℕ)) (info : PrefixInfo) → words_of text ≡ words → SpellOffer words info → offer_fault info ≡ None → IsOffer text info
is_offer text words info e spelled right = record { spelled = subst (λ (ws : List (List ℕ)). SpellOffer ws info) (sym e) spelled; right = right }
