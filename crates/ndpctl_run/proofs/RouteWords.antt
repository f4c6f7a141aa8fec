-- A static route is determined by its words.
use Rattle.std.proofs.Common.{◌≡◌, ℕ, List, [], ◌∷◌, None, refl, sym, ap, subst}
use Rattle.std.specs.Prelude.{codes}
use Rattle.nd_text.specs.Parsing.{address_groups, groups_within}
use Rattle.nd_text.specs.Spelling.{SpellsAddress}
use Rattle.nd_text.proofs.AddressTexts.{address_read}
use Rattle.nd_addr.specs.declared.addr.Addr.{Addr}
use Rattle.nd_addr.specs.Prefix.{PrefixValue}
use Rattle.nd_addr.specs.Text.{groups_of}
use Rattle.nd_forwarding.specs.declared.route.Route.{Route}
use Rattle.nd_forwarding.specs.declared.route.Route.TheVariants.{Direct, Via}
use Rattle.ndpctl_run.specs.Address.{IsAddressWord}
use Rattle.ndpctl_run.specs.Route.{IsRoute, IsWay, SpellRoute}
use Rattle.ndpctl_run.specs.Words.{words_of}
use Rattle.ndpctl_run.proofs.AddressWords.{one_address}
use Rattle.ndpctl_run.proofs.PrefixWords.{one_prefix}

unread : address_groups (codes "direct") ≡ None
unfolding address_groups groups_within
unread = refl

-- `direct` is no address
pub direct_is_none : (word : List ℕ) (address : Addr) → word ≡ codes "direct" → IsAddressWord word address → ⊥
direct_is_none word address direct w =
    let read = address_read (codes "direct") (groups_of address.0) (subst (λ (t : List ℕ). SpellsAddress t (groups_of address.0)) direct w.spelled) in
    let none = unread in
    cc

pub one_way : (word : List ℕ) (a b : Route) → IsWay word a → IsWay word b → a ≡ b
one_way word Direct Direct p q = refl
one_way word Direct (Via b) p q = absurd (direct_is_none word b p q)
one_way word (Via a) Direct p q = absurd (direct_is_none word a q p)
one_way word (Via a) (Via b) p q = ap Via (one_address word a b p q)

pub one_spelled : (words : List (List ℕ)) (p q : PrefixValue) (a b : Route) → SpellRoute words p a → SpellRoute words q b → (p ≡ q) × (a ≡ b)
one_spelled (word ∷ way ∷ []) p q a b s t = (one_prefix word p q s.0 t.0, one_way way a b s.1 t.1)
one_spelled _ p q a b s t = absurd s

pub one_route : (text : List ℕ) (p q : PrefixValue) (a b : Route) → IsRoute text p a → IsRoute text q b → (p ≡ q) × (a ≡ b)
one_route text p q a b s t = one_spelled (words_of text) p q a b s t

pub spelled_at : (text : List ℕ) (words : List (List ℕ)) (prefix : PrefixValue) (route : Route) → words_of text ≡ words → IsRoute text prefix route → SpellRoute words prefix route
spelled_at text words prefix route e is = subst (λ (ws : List (List ℕ)). SpellRoute ws prefix route) e is

pub route_spelled : (text : List ℕ) (words : List (List ℕ)) (prefix : PrefixValue) (route : Route) → words_of text ≡ words → SpellRoute words prefix route → IsRoute text prefix route
route_spelled text words prefix route e spelled = subst (λ (ws : List (List ℕ)). SpellRoute ws prefix route) (sym e) spelled
