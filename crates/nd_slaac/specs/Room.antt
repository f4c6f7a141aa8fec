-- Whether there is room for the addresses that the prefix options of a Router Advertisement would form, or for one that is given by hand.
use Rattle.std.specs.Prelude.{◌≡◌, ℕ, nat_lt, Bool, true, false, ◌&&◌, ◌||◌, not, ◌==◌, if◌then◌else◌, List, [], ◌∷◌, length, map}
use Rattle.nd_addr.specs.declared.mac.Mac.{Mac}
use Rattle.nd_decode.specs.declared.prefix_info.PrefixInfo.{PrefixInfo}
use Rattle.nd_slaac.specs.History.{Row}
use Rattle.nd_slaac.specs.AddressKept.{Address}
use Rattle.nd_slaac.specs.TableKept.{key_of, Stands}
use Rattle.nd_slaac.specs.PrefixOption.{is_forming, named_by}

-- the greatest limit on the addresses, the link-local one included (our choice)
abbrev pub max_addresses : ℕ
max_addresses = 64

-- the address is among these
abbrev pub is_among : ℕ → List ℕ → Bool
is_among key [] = false
is_among key (k ∷ keys) = (k == key) || is_among key keys

-- the option would form an address, where these are known
abbrev pub would_form : Mac → List ℕ → PrefixInfo → Bool
would_form mac keys info = is_forming info && not (is_among (named_by mac info) keys)

-- with this limit there is room for each address that the options, taken in their order, would form
abbrev pub fits_in : ℕ → Mac → List ℕ → List PrefixInfo → Bool
fits_in limit mac keys [] = true
fits_in limit mac keys (info ∷ infos) =
    if would_form mac keys info then (nat_lt (length keys) limit && fits_in limit mac (named_by mac info ∷ keys) infos) else fits_in limit mac keys infos

-- those of the options that aren't passed over, where one that would form an address too many is
abbrev pub with_room : ℕ → Mac → List ℕ → List PrefixInfo → List PrefixInfo
with_room limit mac keys [] = []
with_room limit mac keys (info ∷ infos) =
    if would_form mac keys info then
    (if nat_lt (length keys) limit then info ∷ with_room limit mac (named_by mac info ∷ keys) infos else with_room limit mac keys infos)
    else info ∷ with_room limit mac keys infos

-- there is room for one address more or not, asked of what happened: of the addresses that the history knows
pub record HasRoomBy (limit : ℕ) (history : List Row) (room : Bool) : Type 0 where
  pub known : List Address
  pub those : Stands known history
  pub room_is : room ≡ nat_lt (length known) limit

-- there is room for what options form or not, asked of what happened: of the addresses that the history knows
pub record FitsBy (limit : ℕ) (mac : Mac) (history : List Row) (infos : List PrefixInfo) (fit : Bool) : Type 0 where
  pub known : List Address
  pub those : Stands known history
  pub fit_is : fit ≡ fits_in limit mac (map key_of known) infos
