-- Whether what comes is for this node.
use Rattle.std.proofs.Common.{◌≡◌, ◌↔◌, ℕ, Bool, true, false, inl, inr, refl, sym, ◌∙◌, ap, subst}
use Rattle.std.specs.Prelude.{◌⊎◌, ◌&&◌, ◌||◌}
use Rattle.nd_addr.specs.declared.addr.Addr.{Addr}
use Rattle.nd_addr.specs.declared.role.Role.TheVariants.{Router}
use Rattle.nd_addr.specs.Bytes.{AreBytes}
use Rattle.nd_addr.specs.Kind.{all_nodes_address, all_routers_address, solicited_node_of}
use Rattle.nd_addr.specs.Number.{addr_at, number_of}
use Rattle.nd_decode.specs.declared.body.Body.{Body}
use Rattle.nd_slaac.specs.declared.destination.Counted.{Counted}
use Rattle.nd_slaac.specs.declared.destination.Counted.TheVariants.{Own, Assigned}
use Rattle.nd_slaac.specs.Destination.{IsTo}
use Rattle.nd_slaac.specs.State as states
use Rattle.nd_chronicle.specs.Start.{Start, link_local, link_local_key}
use Rattle.nd_chronicle.specs.Happening.{Chronicle}
use Rattle.nd_chronicle.specs.Hearing.{IsCounted, IsOurs, conflicts_with, is_awake}
use Rattle.nd_chronicle.specs.Histories.{address_history}
use Rattle.nd_chronicle.specs.OwnAddress.{story_of, is_own, is_assigned}
use Rattle.nd_steps.specs.OwnAddresses.{counting}

counted_from : (counted : Counted) (c : Chronicle) (destination : Addr) → ((number : ℕ) → AreBytes 16 (addr_at number).0) → IsCounted (counting counted c) destination → IsTo counted (address_history c) destination
counted_from Own c destination bytes i = record { address = addr_at i.key; bytes = bytes i.key; counting = i.counted; to = i.to }
counted_from Assigned c destination bytes i = record { address = addr_at i.key; bytes = bytes i.key; counting = i.counted; to = i.to }

abbrev Means : Addr → Addr → Type 0
Means destination address = (destination.0 ≡ address.0) ⊎ (destination.0 ≡ solicited_node_of address.0)

counted_to : (counted : Counted) (c : Chronicle) (destination : Addr) → ((address : Addr) → AreBytes 16 address.0 → addr_at (number_of address.0) ≡ address) → IsTo counted (address_history c) destination → IsCounted (counting counted c) destination
counted_to Own c destination told i = record {
  key = number_of i.address.0;
  counted = subst (λ (a : Addr). is_own c a.0 ≡ true) (sym (told i.address i.bytes)) i.counting;
  to = subst (λ (a : Addr). Means destination a) (sym (told i.address i.bytes)) i.to;
}
counted_to Assigned c destination told i = record {
  key = number_of i.address.0;
  counted = subst (λ (a : Addr). is_assigned c a.0 ≡ true) (sym (told i.address i.bytes)) i.counting;
  to = subst (λ (a : Addr). Means destination a) (sym (told i.address i.bytes)) i.to;
}

-- a destination that is neither that of all nodes nor that of all routers
pub ours : (start : Start) (c : Chronicle) (counted : Counted) (destination : Addr) (result : Bool)
    → ((address : Addr) → AreBytes 16 address.0 → addr_at (number_of address.0) ≡ address) → ((number : ℕ) → AreBytes 16 (addr_at number).0)
    → result ≡ true ↔ IsTo counted (address_history c) destination → (destination.0 ≡ all_nodes_address → ⊥) → ((start.role ≡ Router) × (destination.0 ≡ all_routers_address) → ⊥)
    → result ≡ true ↔ IsOurs start (counting counted c) destination
ours start c counted destination result told bytes to entries routers = (λ e. inr (inr (counted_to counted c destination told (to.0 e))), back)
  where
    back : IsOurs start (counting counted c) destination → result ≡ true
    back (inl e) = absurd (entries e)
    back (inr (inl e)) = absurd (routers e)
    back (inr (inr i)) = to.1 (counted_from counted c destination bytes i)

by_none : (assigned tentative own conflict : Bool) → assigned ≡ false → own ≡ (tentative || assigned) → (own && conflict) ≡ (assigned || (tentative && conflict))
by_none true tentative own conflict un is = let never : ⊥ = cc in absurd never
by_none false true own conflict un is = rw is refl
by_none false false own conflict un is = rw is refl

-- the link-local address isn't assigned
pub awake : (start : Start) (c : Chronicle) (own source : Addr) (body : Body) (assigned own_counts : Bool) → number_of own.0 ≡ link_local_key start → addr_at (number_of own.0) ≡ own
    → assigned ≡ states.is_assigned (story_of c (number_of own.0)) → assigned ≡ false → own_counts ≡ (states.is_tentative (story_of c (number_of own.0)) || states.is_assigned (story_of c (number_of own.0)))
    → (own_counts && conflicts_with own.0 source body) ≡ is_awake start c source body
awake start c own source body assigned own_counts key told assigned_is un own_is =
    let s = story_of c (number_of own.0) in
    let at : link_local start ≡ own = ap addr_at (sym key) ∙ told in
    by_none (states.is_assigned s) (states.is_tentative s) own_counts (conflicts_with own.0 source body) (sym assigned_is ∙ un) own_is
    ∙ (ap (λ (k : ℕ). states.is_assigned (story_of c k) || (states.is_tentative s && conflicts_with own.0 source body)) key
    ∙ ap (λ (a : Addr). states.is_assigned (story_of c (link_local_key start)) || (states.is_tentative (story_of c (number_of a.0)) && conflicts_with a.0 source body)) (sym at))

pub if_own : (own conflict : Bool) → own ≡ true → conflict ≡ (own && conflict)
if_own own conflict is = rw is refl

pub if_not_own : (own conflict : Bool) → own ≡ false → own ≡ (own && conflict)
if_not_own own conflict is = rw is refl
