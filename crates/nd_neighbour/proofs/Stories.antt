-- What holds of every story.
use Rattle.std.proofs.Common.{◌≡◌, ℕ, Bool, true, false, cond, [], ◌∷◌, Option, Some, None, refl, sym}
use Rattle.std.specs.Prelude.{is_some}
use Rattle.std.proofs.lemmas.Bool.{cond_both, true≢false}
use Rattle.nd_neighbour.specs.declared.news.Flags.{Flags}
use Rattle.nd_neighbour.specs.History.{Given, Advertised, Marked, Asked, Solicited, Waits, Wanted, Used, Probed, Confirmed, Forgot, Story}
use Rattle.nd_neighbour.specs.ReachabilityConfirmation.{Evidence}
use Rattle.nd_neighbour.specs.NeighborAdvertisement.{taken, advert_says}
use Rattle.nd_neighbour.specs.AddressResolution.{Resolution, one_more, resolution_due, resolution_of, room_in, with_wish}
use Rattle.nd_neighbour.specs.Story.{is_present, mac_of, is_router, says, or_else, evidence_of}

-- an absent neighbour has no address
pub absent_mac : (s : Story) → is_present s ≡ false → mac_of s ≡ None
absent_mac [] h = refl
absent_mac ((at, Given mac mark) ∷ s) h = absurd (true≢false h)
absent_mac ((at, Advertised flags mac reachable) ∷ s) h = rw h refl
absent_mac ((at, Marked router) ∷ s) h = absent_mac s h
absent_mac ((at, Asked retrans room) ∷ s) h = absurd (true≢false h)
absent_mac ((at, Solicited) ∷ s) h = absent_mac s h
absent_mac ((at, Waits packet) ∷ s) h = absent_mac s h
absent_mac ((at, Wanted) ∷ s) h = absent_mac s h
absent_mac ((at, Used retrans) ∷ s) h = absent_mac s h
absent_mac ((at, Probed) ∷ s) h = absent_mac s h
absent_mac ((at, Confirmed reachable) ∷ s) h = absent_mac s h
absent_mac ((at, Forgot why) ∷ s) h = absent_mac s h

-- and no mark
pub absent_router : (s : Story) → is_present s ≡ false → is_router s ≡ false
absent_router [] h = refl
absent_router ((at, Given mac mark) ∷ s) h = absurd (true≢false h)
absent_router ((at, Advertised flags mac reachable) ∷ s) h = rw h (absent_router s h)
absent_router ((at, Marked router) ∷ s) h = rw h (absent_router s h)
absent_router ((at, Asked retrans room) ∷ s) h = absurd (true≢false h)
absent_router ((at, Solicited) ∷ s) h = absent_router s h
absent_router ((at, Waits packet) ∷ s) h = absent_router s h
absent_router ((at, Wanted) ∷ s) h = absent_router s h
absent_router ((at, Used retrans) ∷ s) h = absent_router s h
absent_router ((at, Probed) ∷ s) h = absent_router s h
absent_router ((at, Confirmed reachable) ∷ s) h = absent_router s h
absent_router ((at, Forgot why) ∷ s) h = absent_router s h

some_more : (r : Option Resolution) → is_some r ≡ true → is_some (one_more r) ≡ true
some_more None h = h
some_more (Some r) h = refl

some_wish : (r : Option Resolution) → is_some r ≡ true → is_some (with_wish r) ≡ true
some_wish None h = h
some_wish (Some r) h = refl

-- a wish changes neither when the resolution is due nor its room
pub wish_due : (r : Option Resolution) → resolution_due (with_wish r) ≡ resolution_due r
wish_due None = refl
wish_due (Some r) = refl

pub wish_room : (r : Option Resolution) → room_in (with_wish r) ≡ room_in r
wish_room None = refl
wish_room (Some r) = refl

taken_none : (o : Bool) (mac known : Option ℕ) → taken o mac known ≡ None → known ≡ None
taken_none o None known h = h
taken_none o (Some mac) None h = refl
taken_none o (Some mac) (Some known) h = absurd (cc)

-- one that is present and has no address is being resolved
pub resolving : (s : Story) → is_present s ≡ true → mac_of s ≡ None → is_some (resolution_of s) ≡ true
resolving [] p h = absurd (true≢false (sym p))
resolving ((at, Given mac mark) ∷ s) p h = absurd (cc)
resolving ((at, Advertised flags mac reachable) ∷ s) p h =
    let e : taken flags.overrides mac (mac_of s) ≡ None = rw p at h in
    resolving s p (taken_none flags.overrides mac (mac_of s) e)
resolving ((at, Marked router) ∷ s) p h = resolving s p h
resolving ((at, Asked retrans room) ∷ s) p h = refl
resolving ((at, Solicited) ∷ s) p h = some_more (resolution_of s) (resolving s p h)
resolving ((at, Waits packet) ∷ s) p h = resolving s p h
resolving ((at, Wanted) ∷ s) p h = some_wish (resolution_of s) (resolving s p h)
resolving ((at, Used retrans) ∷ s) p h = resolving s p h
resolving ((at, Probed) ∷ s) p h = resolving s p h
resolving ((at, Confirmed reachable) ∷ s) p h = resolving s p h
resolving ((at, Forgot why) ∷ s) p h = resolving s p h

some_either : {X : Type 0} (a b : Option X) → is_some b ≡ true → is_some (or_else a b) ≡ true
some_either None b h = h
some_either (Some x) b h = refl

given_evidence : (at mac : ℕ) (known : Option ℕ) (w : Option Evidence) → (is_some known ≡ true → is_some w ≡ true) → is_some (or_else (says true known w at (Given mac None)) w) ≡ true
given_evidence at mac None w ih = refl
given_evidence at mac (Some known) w ih = some_either _ w (ih refl)

advert_evidence : (at reachable : ℕ) (flags : Flags) (mac known : Option ℕ) (w : Option Evidence) → (is_some known ≡ true → is_some w ≡ true) → is_some (taken flags.overrides mac known) ≡ true → is_some (or_else (advert_says flags mac reachable known w at) w) ≡ true
advert_evidence at reachable flags None None w ih h = absurd (true≢false (sym h))
advert_evidence at reachable flags (Some mac) None w ih h = cond_both flags.solicited (Some _) _ (λ o. is_some (or_else o w) ≡ true) (λ _. refl) (λ _. refl)
advert_evidence at reachable flags mac (Some known) w ih h = some_either _ w (ih refl)

-- an address is known only where something was said
pub known_evidence : (s : Story) → is_some (mac_of s) ≡ true → is_some (evidence_of s) ≡ true
known_evidence [] h = absurd (true≢false (sym h))
known_evidence ((at, Given mac mark) ∷ s) h = given_evidence at mac (mac_of s) (evidence_of s) (known_evidence s)
known_evidence ((at, Advertised flags mac reachable) ∷ s) h =
    cond_both (is_present s) (taken flags.overrides mac (mac_of s)) None
    (λ o. is_some o ≡ true → is_some (or_else (cond (is_present s) (advert_says flags mac reachable (mac_of s) (evidence_of s) at) None) (evidence_of s)) ≡ true)
    (λ p k. rw p (advert_evidence at reachable flags mac (mac_of s) (evidence_of s) (known_evidence s) k))
    (λ _ k. absurd (true≢false (sym k))) h
known_evidence ((at, Marked router) ∷ s) h = known_evidence s h
known_evidence ((at, Asked retrans room) ∷ s) h = known_evidence s h
known_evidence ((at, Solicited) ∷ s) h = known_evidence s h
known_evidence ((at, Waits packet) ∷ s) h = known_evidence s h
known_evidence ((at, Wanted) ∷ s) h = known_evidence s h
known_evidence ((at, Used retrans) ∷ s) h = known_evidence s h
known_evidence ((at, Probed) ∷ s) h = known_evidence s h
known_evidence ((at, Confirmed reachable) ∷ s) h = some_either _ (evidence_of s) (known_evidence s h)
known_evidence ((at, Forgot why) ∷ s) h = known_evidence s h
