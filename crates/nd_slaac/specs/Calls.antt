-- What each call makes of the table.
use Rattle.std.specs.Prelude.{◌≡◌, ℕ, ◌+◌, ◌==◌, nat_lt, Bool, true, false, if◌then◌else◌, List, ◌∷◌, length, map, ◌<◌, slice_index_or, slice_set, Option, Some, None, Result, Ok, Err}
use Rattle.std.specs.List.{insert, remove}
use Rattle.nd_addr.specs.declared.mac.Mac.{Mac}
use Rattle.nd_table.specs.KeyedKept.{place_of}
use Rattle.nd_decode.specs.declared.prefix_info.PrefixInfo.{PrefixInfo}
use Rattle.nd_slaac.specs.declared.stage.Stage.{Stage}
use Rattle.nd_slaac.specs.declared.stage.Stage.TheVariants.{Detecting, Failed, Passed}
use Rattle.nd_slaac.specs.declared.prefix_option.Taken.{Taken}
use Rattle.nd_slaac.specs.declared.prefix_option.Taken.TheVariants.{Formed, Renewed, Ignored}
use Rattle.nd_slaac.specs.declared.prefix_option.Full.{Full}
use Rattle.nd_slaac.specs.History as kinds
use Rattle.nd_slaac.specs.History.{Row, Lifetimes, story}
use Rattle.nd_slaac.specs.State.{is_by_hand, is_known}
use Rattle.nd_table.specs.Ends.{end_time}
use Rattle.nd_slaac.specs.TwoHours.{renewed}
use Rattle.nd_slaac.specs.AddressKept.{Address}
use Rattle.nd_slaac.specs.TableKept.{key_of, address_in, GainsRow, Stands}
use Rattle.nd_slaac.specs.PrefixOption.{is_taken, named_by, lifetimes_of}

-- the numbers of the addresses
abbrev pub keys_in : List Address → List ℕ
keys_in addresses = map key_of addresses

-- an address as it is formed
abbrev pub formed : ℕ → ℕ → ℕ → ℕ → Option Lifetimes → Address
formed key now delay retrans None =
    record { key = key; preferred_end = None; valid_end = None; stage = Detecting 0 retrans (now + delay); by_hand = false }
formed key now delay retrans (Some lifetimes) =
    record { key = key; preferred_end = end_time now lifetimes.preferred; valid_end = end_time now lifetimes.valid; stage = Detecting 0 retrans (now + delay); by_hand = false }

-- an address whose prefix is announced again
abbrev pub announced : ℕ → Lifetimes → Address → Address
announced now lifetimes a =
    record { key = a.key; preferred_end = end_time now lifetimes.preferred; valid_end = renewed now a.valid_end lifetimes.valid; stage = a.stage; by_hand = a.by_hand }

-- an address whose lifetimes are set by hand
abbrev pub set_by_hand : ℕ → Lifetimes → Address → Address
set_by_hand now lifetimes a =
    record { key = a.key; preferred_end = end_time now lifetimes.preferred; valid_end = end_time now lifetimes.valid; stage = a.stage; by_hand = true }

-- an address that another node has
abbrev pub failed : Address → Address
failed a = record { key = a.key; preferred_end = a.preferred_end; valid_end = a.valid_end; stage = Failed; by_hand = a.by_hand }

abbrev pub is_detecting : Stage → Bool
is_detecting (Detecting sent retrans due) = true
is_detecting Failed = false
is_detecting Passed = false

abbrev pub detects_in : Option Address → Bool
detects_in None = false
detects_in (Some a) = is_detecting a.stage

-- the list with the address changed
pub record Alters (key : ℕ) (change : Address → Address) (old new : List Address) : Type 0 where
  pub at : ℕ
  pub address : Address
  pub within : at < length old
  pub is : address ≡ slice_index_or old at address
  pub found : address_in key old ≡ Some address
  pub new_is : new ≡ slice_set old at (change address)

-- the address is known, and was given by hand
abbrev pub is_by_hand_in : Option Address → Bool
is_by_hand_in None = false
is_by_hand_in (Some a) = a.by_hand

-- what becomes of an option that is taken, by the limit, whether its address was given by hand, whether it is known, its valid lifetime, and how many
-- are known
abbrev pub taken_by : ℕ → Bool → Bool → ℕ → ℕ → Result Taken Full
taken_by limit true known valid count = Ok Ignored
taken_by limit false true valid count = Ok Renewed
taken_by limit false false valid count = if valid == 0 then Ok Ignored else if nat_lt count limit then Ok Formed else Err (record {})

-- what becomes of an option, where its address was given by hand or not, is known or not, and so many are
abbrev pub taken_of : ℕ → PrefixInfo → Bool → Bool → ℕ → Result Taken Full
taken_of limit info by_hand known count = if is_taken info then taken_by limit by_hand known info.valid_lifetime count else Ok Ignored

-- the same, asked of what happened: of the addresses that the history knows
pub record TakenBy (limit : ℕ) (mac : Mac) (history : List Row) (info : PrefixInfo) (result : Result Taken Full) : Type 0 where
  pub known : List Address
  pub those : Stands known history
  pub taken_is : result ≡ taken_of limit info (is_by_hand (story (named_by mac info) history)) (is_known (story (named_by mac info) history)) (length known)

-- the row that comes of an option, and none where it is ignored or refused
abbrev pub row_taken : ℕ → Mac → PrefixInfo → ℕ → ℕ → Result Taken Full → Option Row
row_taken now mac info delay retrans (Ok Formed) = Some (now, named_by mac info, kinds.Formed delay retrans (Some (lifetimes_of info)))
row_taken now mac info delay retrans (Ok Renewed) = Some (now, named_by mac info, kinds.Announced (lifetimes_of info))
row_taken now mac info delay retrans (Ok Ignored) = None
row_taken now mac info delay retrans (Err full) = None

-- ---- an address is given by hand, or withdrawn

-- what becomes of it, by the limit, whether it is the link-local address, whether it is known, and how many are known
abbrev pub set_of : ℕ → Bool → Bool → ℕ → Result Taken Full
set_of limit true known count = Ok Ignored
set_of limit false true count = Ok Renewed
set_of limit false false count = if nat_lt count limit then Ok Formed else Err (record {})

-- the rows that come of it
abbrev pub with_set : ℕ → ℕ → Lifetimes → ℕ → Result Taken Full → List Row → List Row
with_set now key lifetimes retrans (Ok Formed) history = (now, key, kinds.SetByHand lifetimes) ∷ (now, key, kinds.Formed 0 retrans (Some lifetimes)) ∷ history
with_set now key lifetimes retrans (Ok Renewed) history = (now, key, kinds.SetByHand lifetimes) ∷ history
with_set now key lifetimes retrans (Ok Ignored) history = history
with_set now key lifetimes retrans (Err full) history = history

-- the same of a list
abbrev pub Sets : ℕ → ℕ → Lifetimes → ℕ → Result Taken Full → List Address → List Address → Type 0
Sets now key lifetimes retrans (Ok Formed) old new =
    (address_in key old ≡ None) × (new ≡ insert old (place_of key_of key old) (set_by_hand now lifetimes (formed key now 0 retrans (Some lifetimes))))
Sets now key lifetimes retrans (Ok Renewed) old new = Alters key (set_by_hand now lifetimes) old new
Sets now key lifetimes retrans (Ok Ignored) old new = new ≡ old
Sets now key lifetimes retrans (Err full) old new = new ≡ old

-- the list without the address, which is at this place
pub record Leaves (at key : ℕ) (old new : List Address) : Type 0 where
  pub address : Address
  pub within : at < length old
  pub is : address ≡ slice_index_or old at address
  pub key_is : address.key ≡ key
  pub new_is : new ≡ remove old at

-- ---- what happens to a list

-- the list gains the row, if there is one
abbrev pub GainsRowIfAny : Option Row → List Address → List Address → Type 0
GainsRowIfAny None old new = new ≡ old
GainsRowIfAny (Some row) old new = GainsRow old new row

-- the same of a list: the address changes, or comes into its place, or nothing does
abbrev pub Changes : ℕ → ℕ → Lifetimes → ℕ → ℕ → Result Taken Full → List Address → List Address → Type 0
Changes now key lifetimes delay retrans (Ok Formed) old new =
    (address_in key old ≡ None) × (new ≡ insert old (place_of key_of key old) (formed key now delay retrans (Some lifetimes)))
Changes now key lifetimes delay retrans (Ok Renewed) old new = Alters key (announced now lifetimes) old new
Changes now key lifetimes delay retrans (Ok Ignored) old new = new ≡ old
Changes now key lifetimes delay retrans (Err full) old new = new ≡ old
