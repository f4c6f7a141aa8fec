-- What news release: how many packets, and where they go to.
use Rattle.std.proofs.Common.{◌≡◌, ℕ, ◌≤◌, Bool, true, false, List, [], ◌∷◌, length, Option, Some, None, refl, arith, ◌⊎◌, inl, inr}
use Rattle.std.specs.Prelude.{◌&&◌, is_some, if◌then◌else◌}
use Rattle.std.specs.Option.{option_map}
use Rattle.nd_addr.specs.Number.{number_of}
use Rattle.nd_neighbour.specs.declared.news.News.{News}
use Rattle.nd_neighbour.specs.declared.news.News.TheVariants as news
use Rattle.nd_neighbour.specs.declared.news.Times.{Times}
use Rattle.nd_neighbour.specs.History.{Story}
use Rattle.nd_neighbour.specs.NeighborAdvertisement.{taken}
use Rattle.nd_neighbour.specs.AddressResolution.{resolution_of, room_in, wanted_in, waiting_of}
use Rattle.nd_neighbour.specs.Story.{awaited_by, is_awaited, is_present, mac_of, waits_by, waits_of}
use Rattle.nd_neighbour.specs.News.{mac_given, news_row, released_by}
use Rattle.nd_neighbour.proofs.LastThree.{few_wait}

few_by : (room : ℕ) (present : Bool) (known : Option ℕ) (waiting : List (List ℕ)) → length waiting ≤ room → length (if present then waits_by known waiting else []) ≤ room
few_by room true None waiting h = h
few_by room true (Some mac) waiting h = omega arith
few_by room false known waiting h = omega arith

few_if : (room : ℕ) (b : Bool) (packets : List (List ℕ)) → length packets ≤ room → length (if b then packets else []) ≤ room
few_if room true packets h = h
few_if room false packets h = omega arith

pub few_released : (now : ℕ) (n : News) (times : Times) (s : Story) → length (released_by now (news_row n times) s) ≤ room_in (resolution_of s)
few_released now n times s = few_if (room_in (resolution_of s)) (is_some (mac_of ((now, news_row n times) ∷ s))) (waits_of s) (few_by (room_in (resolution_of s)) (is_present s) (mac_of s) (waiting_of s) (few_wait s))

-- nothing is released, or the address that is known afterwards is the given one
abbrev Goes : Option ℕ → Option ℕ → List (List ℕ) → Type 0
Goes after given waits = ((if is_some after then waits else []) ≡ []) ⊎ (after ≡ given)

by_advert : (present overrides : Bool) (mac : ℕ) (known : Option ℕ) (waiting : List (List ℕ)) → Goes (if present then taken overrides (Some mac) known else None) (Some mac) (if present then waits_by known waiting else [])
by_advert true overrides mac None waiting = inr refl
by_advert true overrides mac (Some k) waiting = inl refl
by_advert false overrides mac known waiting = inl refl

by_silence : (present : Bool) (known : Option ℕ) (waiting : List (List ℕ)) → Goes known None (if present then waits_by known waiting else [])
by_silence present None waiting = inl refl
by_silence true (Some mac) waiting = inl refl
by_silence false (Some mac) waiting = inl refl

by_silent_advert : (present overrides : Bool) (known : Option ℕ) (waiting : List (List ℕ)) → Goes (if present then taken overrides None known else None) None (if present then waits_by known waiting else [])
by_silent_advert true overrides known waiting = by_silence true known waiting
by_silent_advert false overrides known waiting = inl refl

pub released_to_given : (now : ℕ) (n : News) (times : Times) (s : Story) → (released_by now (news_row n times) s ≡ []) ⊎ (mac_of ((now, news_row n times) ∷ s) ≡ option_map (λ mac. number_of mac.0) (mac_given n))
released_to_given now (news.Given addr mac mark) times s = inr refl
released_to_given now (news.Advert addr flags (Some mac)) times s = by_advert (is_present s) flags.overrides (number_of mac.0) (mac_of s) (waiting_of s)
released_to_given now (news.Advert addr flags None) times s = by_silent_advert (is_present s) flags.overrides (mac_of s) (waiting_of s)
released_to_given now (news.Marked addr router) times s = by_silence (is_present s) (mac_of s) (waiting_of s)

-- an address for which a caller waits is the given one
by_wish : (present wanted overrides : Bool) (mac known : Option ℕ) → (present && awaited_by known wanted) ≡ true → (if present then taken overrides mac known else None) ≡ mac
by_wish false wanted overrides mac known h = absurd (cc)
by_wish true wanted overrides mac (Some k) h = absurd (cc)
by_wish true wanted overrides None None h = refl
by_wish true wanted overrides (Some mac) None h = refl

unknown_by_wish : (present wanted : Bool) (known : Option ℕ) → (present && awaited_by known wanted) ≡ true → known ≡ None
unknown_by_wish false wanted known h = absurd (cc)
unknown_by_wish true wanted None h = refl
unknown_by_wish true wanted (Some k) h = absurd (cc)

pub awaited_is_given : (now : ℕ) (n : News) (times : Times) (s : Story) → is_awaited s ≡ true → mac_of ((now, news_row n times) ∷ s) ≡ option_map (λ mac. number_of mac.0) (mac_given n)
awaited_is_given now (news.Given addr mac mark) times s h = refl
awaited_is_given now (news.Advert addr flags (Some mac)) times s h = by_wish (is_present s) (wanted_in (resolution_of s)) flags.overrides (Some (number_of mac.0)) (mac_of s) h
awaited_is_given now (news.Advert addr flags None) times s h = by_wish (is_present s) (wanted_in (resolution_of s)) flags.overrides None (mac_of s) h
awaited_is_given now (news.Marked addr router) times s h = unknown_by_wish (is_present s) (wanted_in (resolution_of s)) (mac_of s) h
