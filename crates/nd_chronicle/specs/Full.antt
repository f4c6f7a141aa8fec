-- Which table has no room for what a message says: the first one, in the order of their limits. Its parts are taken in order, and none may
-- lead to more entries than there may be.
use Rattle.std.specs.Prelude.{◌≡◌, ℕ, Bool, true, false, if◌then◌else◌, bytes_eq, List, [], ◌∷◌, Option, Some, None}
use Rattle.nd_addr.specs.declared.addr.Addr.{Addr}
use Rattle.nd_addr.specs.Kind.{unspecified_address}
use Rattle.nd_addr.specs.Number.{number_of}
use Rattle.nd_addr.specs.Prefix.{PrefixValue}
use Rattle.nd_addr.specs.Same.{same_addr, same_prefix}
use Rattle.nd_decode.specs.Message.{Parts}
use Rattle.nd_decode.specs.declared.body.Body.{Body}
use Rattle.nd_decode.specs.declared.body.Body.TheVariants as bodies
use Rattle.nd_decode.specs.declared.router_advertisement.RouterAdvertisement.{RouterAdvertisement}
use Rattle.nd_table.specs.declared.lasting.Lasting.{Lasting}
use Rattle.nd_table.specs.Listing.{Lists, fits}
use Rattle.nd_neighbour.specs.History.{RowKind}
use Rattle.nd_routers.specs.History.{announcements}
use Rattle.nd_routers.specs.OnLinkPrefixes.{prefixes_in}
use Rattle.nd_routers.specs.Routers.{same}
use Rattle.nd_slaac.specs.PrefixOption as addresses
use Rattle.nd_slaac.specs.Room.{FitsBy}
use Rattle.nd_dns.specs.AnnouncedNames.{same_name, names_told}
use Rattle.nd_dns.specs.AnnouncedServers.{servers_told}
use Rattle.nd_chronicle.specs.Start.{Start}
use Rattle.nd_chronicle.specs.Happening.{Chronicle, Limit, Neighbours, Routers, Prefixes, Addresses, Servers, Names}
use Rattle.nd_chronicle.specs.Histories.{router_history, prefix_history, address_history, server_history, name_history}
use Rattle.nd_chronicle.specs.Packet.{HasPlace, no_place}
use Rattle.nd_chronicle.specs.Message.{said, HasWay, lets_enter, makes_way}

-- the neighbour for which there has to be room, and whether it enters
abbrev pub entering : Option (ℕ × RowKind) → Option (ℕ × Bool)
entering None = None
entering (Some news) = Some (news.0, lets_enter news.1)

-- an asker enters at the latest with the answer
abbrev pub asking : Addr → Option (ℕ × Bool)
asking source = if bytes_eq source.0 unspecified_address then None else Some (number_of source.0, true)

abbrev pub needs : Chronicle → Addr → Parts → Body → Option (ℕ × Bool)
needs c source message (bodies.Ns ns) = asking source
needs c source message _ = entering (said c source message)

-- whether there is room for it, where another one may give way to it and where none may
abbrev pub Placed : Start → Chronicle → ℕ → Bool → Option (ℕ × Bool) → Bool → Type 0
Placed start c now way None place = place ≡ true
Placed start c now true (Some need) place = HasWay start c now need.0 need.1 place
Placed start c now false (Some need) place = HasPlace start c now need.0 need.1 place

-- the first that has no room, of all tables
abbrev pub first_full : Bool → Bool → Bool → Bool → Bool → Bool → Option Limit
first_full neighbours routers prefixes addresses servers names =
    if neighbours then
    (if routers then
    (if prefixes then
    (if addresses then
    (if servers then
    (if names then None else Some Names)
    else Some Servers)
    else Some Addresses)
    else Some Prefixes)
    else Some Routers)
    else Some Neighbours

-- a Router Advertisement may want room in each table
pub record AdvertisementFills (start : Start) (c : Chronicle) (now : ℕ) (source : Addr) (ra : RouterAdvertisement) (message : Parts) (limit : Option Limit) : Type 0 where
  pub neighbours : Bool
  pub placed : Placed start c now (makes_way start (said c source message)) (needs c source message message.body) neighbours
  pub routers : List (Lasting ℕ)
  pub those_routers : Lists same (announcements (router_history c)) now routers
  pub prefixes : List (Lasting PrefixValue)
  pub those_prefixes : Lists same_prefix (prefix_history c) now prefixes
  pub forms : Bool
  pub those_addresses : FitsBy start.limits.addresses start.mac (address_history c) (addresses.prefixes_in message.options) forms
  pub servers : List (Lasting Addr)
  pub those_servers : Lists same_addr (server_history c) now servers
  pub names : List (Lasting (List ℕ))
  pub those_names : Lists same_name (name_history c) now names
  pub first : limit ≡ first_full neighbours
      (fits same start.limits.routers now ((number_of source.0, ra.router_lifetime) ∷ []) routers)
      (fits same_prefix start.limits.prefixes now (prefixes_in message.options) prefixes)
      forms
      (fits same_addr start.limits.servers now (servers_told message.options) servers)
      (fits same_name start.limits.names now (names_told message.options) names)

-- any other message only a neighbour
pub record MessageFills (start : Start) (c : Chronicle) (now : ℕ) (source : Addr) (message : Parts) (limit : Option Limit) : Type 0 where
  pub neighbours : Bool
  pub placed : Placed start c now (makes_way start (said c source message)) (needs c source message message.body) neighbours
  pub first : limit ≡ no_place neighbours

-- the table that the message would fill, if it would one
abbrev pub Fills : Start → Chronicle → ℕ → Addr → Parts → Body → Option Limit → Type 0
Fills start c now source message (bodies.Ra ra) limit = AdvertisementFills start c now source ra message limit
Fills start c now source message _ limit = MessageFills start c now source message limit
