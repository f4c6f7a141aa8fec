-- What an address adds that is given by hand, or withdrawn (RFC 4862, section 5.4; both are this project's own).
use Rattle.std.specs.Prelude.{◌≡◌, ℕ, Bool, false, ◌&&◌, ◌==◌, not, if◌then◌else◌, MatchBool, ◌∷◌, Option, Some, None}
use Rattle.nd_addr.specs.Number.{number_of}
use Rattle.nd_slaac.specs.ByHand.{AddressByHand}
use Rattle.nd_slaac.specs.History as addresses
use Rattle.nd_slaac.specs.History.{Lifetimes}
use Rattle.nd_slaac.specs.Room.{HasRoomBy}
use Rattle.nd_slaac.specs.State.{is_known}
use Rattle.nd_chronicle.specs.Start.{Start, link_local_key}
use Rattle.nd_chronicle.specs.Happening.{Address, Addresses, Chronicle, Limit}
use Rattle.nd_chronicle.specs.Histories.{address_history}
use Rattle.nd_chronicle.specs.OwnAddress.{refusal_unless_up, story_of}
use Rattle.nd_chronicle.specs.Refused.{UnlessFull, UnlessRefused}
use Rattle.nd_chronicle.specs.RouterAdvertisement.{forming}

-- the table that has no room for one address more, if it has none
abbrev pub no_room : Bool → Option Limit
no_room room = if room then None else Some Addresses

module _ (start : Start) (now : ℕ) where
  -- its lifetimes are set, whatever they were
  abbrev pub setting : ℕ → Lifetimes → Chronicle → Chronicle
  setting key lifetimes c = (now, Address key (addresses.SetByHand lifetimes)) ∷ c

  -- an address that isn't known is formed, and its first solicitation waits for nothing, if there is room
  abbrev pub FormsByHand : ℕ → Lifetimes → Chronicle → Chronicle → Type 0
  FormsByHand key lifetimes c d =
      (room : Bool) × HasRoomBy start.limits.addresses (address_history c) room
      × UnlessFull now (no_room room) (λ e. e ≡ setting key lifetimes (forming start now false key lifetimes c)) c d

  -- the link-local address stays as it is; a known one has these lifetimes, in whatever state it is
  abbrev pub AddressAdds : ℕ → Lifetimes → Chronicle → Chronicle → Type 0
  AddressAdds key lifetimes c d =
      MatchBool (key == link_local_key start) (d ≡ c)
      (MatchBool (is_known (story_of c key)) (d ≡ setting key lifetimes c) (FormsByHand key lifetimes c d))

  -- a node whose link-local address is a duplicate has no other one, and where that one isn't assigned yet, no other one is tried
  abbrev pub SetAdds : AddressByHand → Chronicle → Chronicle → Type 0
  SetAdds own c d = UnlessRefused now (refusal_unless_up start c) (λ e. AddressAdds (number_of own.address.0) own.lifetimes c e) c d

  -- an address that is withdrawn ends, in whatever state it is, but for the link-local one
  abbrev pub withdrawing : ℕ → Chronicle → Chronicle
  withdrawing key c =
      if is_known (story_of c key) && not (key == link_local_key start) then (now, Address key addresses.Ended) ∷ c else c
