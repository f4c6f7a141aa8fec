-- The next hops that a node remembers, and the tables that decided them (RFC 4861, section 5.1, the Destination Cache).
use Rattle.std.specs.Prelude.{◌≡◌, ◌≤◌, ◌-◌, ◌⊎◌, ◌&&◌, ◌==◌, not, is_some, ℕ, Bool, true, false, List, [], ◌∷◌, Option}
use Rattle.std.specs.Option.{option_map}
use Rattle.nd_addr.specs.Number.{number_of}
use Rattle.nd_addr.specs.Prefix.{PrefixValue}
use Rattle.nd_addr.specs.declared.preference.Preference.{Preference}
use Rattle.nd_table.specs.declared.lasting.Lasting.{Lasting}
use Rattle.nd_table.specs.Listing.{end_in, open_at}
use Rattle.nd_neighbour.specs.EntryKept.{NeighbourEntry}
use Rattle.nd_neighbour.specs.History.{Row}
use Rattle.nd_neighbour.specs.Sending.{Sending, Sends, Queues}
use Rattle.nd_neighbour.specs.TableKept.{entry_in}
use Rattle.nd_neighbour.specs.Wanting.{Wanting, IsKnown, Awaits}
use Rattle.nd_routers.specs.OnLink.{is_held}
use Rattle.nd_routers.specs.OnLinkKept.{least_end}
use Rattle.nd_routers.specs.Preferences.{preference_among}
use Rattle.nd_addr.specs.declared.mac.Mac.{Mac}
use Rattle.nd_decode.specs.declared.prefix_info.PrefixInfo.{PrefixInfo}
use Rattle.nd_slaac.specs.AddressKept.{Address}
use Rattle.nd_slaac.specs.Due.{Falls, Ends}
use Rattle.nd_slaac.specs.Room.{would_form}
use Rattle.nd_slaac.specs.declared.destination.Counted.TheVariants.{Own}
use Rattle.nd_slaac.specs.Destination.{counted_in}
use Rattle.nd_slaac.specs.TableKept.{address_in}
use Rattle.nd_nexthop.specs.Choice.{Table, Agrees}
use Rattle.nd_nexthop.specs.Memo.{forgotten, is_asked}
use Rattle.nd_steps.specs.NextHop.{candidates_in, is_resolved}
use Rattle.nd_neighbour.specs.Due as neighbours_due
use Rattle.nd_neighbour.specs.TableKept as neighbours
use Rattle.nd_routers.specs.Routers as routers
use Rattle.nd_routers.specs.RoutersKept as kept_routers

-- one of the node's own addresses
abbrev pub own_in : List Address → List ℕ → Bool
own_in addresses address = counted_in Own (address_in (number_of address) addresses)

-- an address on the link
abbrev pub linked_by : List (Lasting PrefixValue) → List ℕ → Bool
linked_by standing address = is_held address standing

-- What a choice remembers is what these tables say, at this moment and as long as it may be used: no prefix that stands now ends before.
pub record Remembers (at : ℕ) (choice : Table) (addresses : List Address) (prefixes : List (Lasting PrefixValue)) (entries : List NeighbourEntry) (table : kept_routers.Table) : Type 0 where
  pub until : (moment : ℕ) → at ≤ moment → is_asked moment choice.memory.until ≡ true → open_at moment prefixes ≡ open_at at prefixes
  pub agrees : Agrees at (own_in addresses) (linked_by (open_at at prefixes)) (candidates_in entries table) choice

-- the last moment before a prefix that stands now ends
abbrev pub last_before_end : ℕ → List (Lasting PrefixValue) → Option ℕ
last_before_end now prefixes = option_map (λ end. end - 1) (least_end (open_at now prefixes))

-- the same neighbours are resolved, for each history that the entries represent
abbrev pub AsResolved : List NeighbourEntry → List NeighbourEntry → Type 0
AsResolved old new = (history : List Row) → neighbours.Stands old history → (key : ℕ) → is_resolved (entry_in key new) ≡ is_resolved (entry_in key old)

-- The remembered next hops are forgotten; or they are kept, and the same neighbours are resolved.
pub data MayRemember (old_choice new_choice : Table) (old new : List NeighbourEntry) : Type 0 where
  Forgets : new_choice ≡ record old_choice { memory = forgotten old_choice.memory } → MayRemember old_choice new_choice old new
  Keeps : new_choice ≡ old_choice → AsResolved old new → MayRemember old_choice new_choice old new

-- they are forgotten where a neighbour failed or aged, and else kept; a further solicitation doesn't change the routers either
abbrev pub Remembering : neighbours_due.Falls → Table → Table → kept_routers.Table → kept_routers.Table → Type 0
Remembering (neighbours_due.Fails key packets) old new old_routers new_routers = new.memory ≡ forgotten old.memory
Remembering (neighbours_due.Ages key) old new old_routers new_routers = new.memory ≡ forgotten old.memory
Remembering _ old new old_routers new_routers = (new ≡ old) × (new_routers ≡ old_routers)

-- the packet begins a resolution
abbrev pub begins : Sending → Bool
begins (Sends mac packet) = false
begins (Queues solicit replaced) = solicit

-- the wish for a neighbour's address begins one
abbrev pub begins_by : Wanting → Bool
begins_by (IsKnown mac) = false
begins_by (Awaits solicit) = solicit

-- What is remembered after a change: nothing, or the same where the change leaves all next hops.
pub record Recollects (old new : Table) (Same : Type 0) : Type 0 where
  pub hops : (new.memory.hops ≡ []) ⊎ ((new.memory.hops ≡ old.memory.hops) × Same)
  pub until : new.memory.until ≡ old.memory.until

-- an advertisement only refreshes a router that is listed at the moment, with the same preference as before
pub record Refreshes (now key lifetime : ℕ) (preference : Preference) (table : kept_routers.Table) : Type 0 where
  pub goes_on : not (lifetime == 0) ≡ true
  pub listed : is_some (end_in routers.same key (open_at now table.entries)) ≡ true
  pub preferred : preference_among key table.preferences ≡ preference

-- the list of routers is the same as far as next hops depend on it: a router was only refreshed
pub record AsListed (old_choice new_choice : Table) (old new : kept_routers.Table) : Type 0 where
  pub redirects : new_choice.redirects ≡ old_choice.redirects
  pub keys : kept_routers.keys new.entries ≡ kept_routers.keys old.entries
  pub preferences : (key : ℕ) → preference_among key new.preferences ≡ preference_among key old.preferences
  pub failed : new.failed ≡ old.failed

-- how many redirects and next hops there is room for stays
pub record KeepsRoom (old new : Table) : Type 0 where
  pub redirects : new.redirects.limit ≡ old.redirects.limit
  pub destinations : new.redirects.destinations ≡ old.redirects.destinations

-- the same prefixes stand at the moment
abbrev pub AsStanding : ℕ → List (Lasting PrefixValue) → List (Lasting PrefixValue) → Type 0
AsStanding now old new = (address : List ℕ) → is_held address (open_at now new) ≡ is_held address (open_at now old)

-- no option forms an address, where these are known
abbrev pub forms_none : Mac → List ℕ → List PrefixInfo → Bool
forms_none mac keys [] = true
forms_none mac keys (info ∷ infos) = not (would_form mac keys info) && forms_none mac keys infos

-- one of the node's own addresses ends
abbrev pub ends : Falls → Bool
ends (Ends key) = true
ends _ = false
