-- What is taken of a message with the policy `parts` where a table has no room for all of it: what has room, in order. What has none is passed over, as if the
-- message didn't say it (RFC 8106, section 5.3.1: a host may ignore what is above its limit).
use Rattle.std.specs.Prelude.{◌≡◌, ◌≤◌, ℕ, ◌==◌, nat_lt, length, Bool, true, false, ◌&&◌, ◌||◌, not, is_some, if◌then◌else◌, List, [], ◌∷◌, ◌++◌, filter, map}
use Rattle.nd_addr.specs.declared.addr.Addr.{Addr}
use Rattle.nd_addr.specs.declared.mac.Mac.{Mac}
use Rattle.nd_addr.specs.Number.{number_of}
use Rattle.nd_addr.specs.Prefix.{PrefixValue}
use Rattle.nd_addr.specs.Same.{same_addr, same_prefix}
use Rattle.nd_decode.specs.Message.{Parts}
use Rattle.nd_decode.specs.Option.{Said, slla, tlla, prefix, rdnss, dnssl}
use Rattle.nd_decode.specs.declared.body.Body.{Body}
use Rattle.nd_decode.specs.declared.body.Body.TheVariants as bodies
use Rattle.nd_decode.specs.declared.prefix_info.PrefixInfo.{PrefixInfo}
use Rattle.nd_decode.specs.declared.router_advertisement.RouterAdvertisement.{RouterAdvertisement}
use Rattle.nd_table.specs.declared.lasting.Lasting.{Lasting}
use Rattle.nd_table.specs.Listing.{Lists, announced, end_in, fits, open_at, with_room}
use Rattle.nd_table.specs.ListingKept.{announced_all}
use Rattle.nd_routers.specs.History.{announcements}
use Rattle.nd_routers.specs.OnLinkPrefixes as on_link
use Rattle.nd_routers.specs.Routers.{same}
use Rattle.nd_slaac.specs.AddressKept.{Address}
use Rattle.nd_slaac.specs.TableKept as own
use Rattle.nd_slaac.specs.PrefixOption.{named_by, prefixes_in}
use Rattle.nd_slaac.specs.Room.{would_form, fits_in}
use Rattle.nd_dns.specs.AnnouncedNames.{same_name, names_of, names_told}
use Rattle.nd_dns.specs.AnnouncedNames as search_names
use Rattle.nd_dns.specs.AnnouncedServers.{servers_of, servers_told}
use Rattle.nd_dns.specs.AnnouncedServers as dns_servers
use Rattle.nd_chronicle.specs.Start.{Limits, Start}
use Rattle.nd_chronicle.specs.Happening.{Chronicle, Ignored, Limit, Neighbours, Routers, Prefixes, Addresses, Servers, Names}
use Rattle.nd_chronicle.specs.Histories.{router_history, prefix_history, address_history, server_history, name_history}
use Rattle.nd_chronicle.specs.Message.{said, makes_way}
use Rattle.nd_chronicle.specs.Full.{needs, Placed}

-- ---- the options of an advertisement

-- what there is in each table before an option: the prefixes, servers and names that stand, and the addresses that are known
pub record Filling : Type 0 where
  pub prefixes : List (Lasting PrefixValue)
  pub addresses : List ℕ
  pub servers : List (Lasting Addr)
  pub names : List (Lasting (List ℕ))

-- the addresses that are known behind options, each of which forms its address or names a known one
abbrev pub then_known : Mac → List PrefixInfo → List ℕ → List ℕ
then_known mac [] keys = keys
then_known mac (info ∷ infos) keys = then_known mac infos (if would_form mac keys info then named_by mac info ∷ keys else keys)

module _ (limits : Limits) (mac : Mac) (now : ℕ) where
  -- a prefix option loses the flag of what it has no room for, L or A; the other lose the servers and the names for which there is none
  abbrev pub option_taken : Filling → Said → Said
  option_taken f (prefix info) = prefix (record info {
    on_link = info.on_link && fits same_prefix limits.prefixes now (on_link.prefixes_in (prefix info ∷ [])) f.prefixes;
    autonomous = info.autonomous && fits_in limits.addresses mac f.addresses (info ∷ []);
  })
  option_taken f (rdnss lifetime told) = rdnss lifetime (map (λ server. server.0) (with_room same_addr limits.servers now (dns_servers.for_lifetime lifetime told) f.servers))
  option_taken f (dnssl lifetime told) = dnssl lifetime (map (λ name. name.0) (with_room same_name limits.names now (search_names.for_lifetime lifetime told) f.names))
  option_taken f option = option

  -- what there is in each table behind an option that is taken
  abbrev pub filled : Said → Filling → Filling
  filled option f = record {
    prefixes = announced_all same_prefix now (on_link.prefixes_in (option ∷ [])) f.prefixes;
    addresses = then_known mac (prefixes_in (option ∷ [])) f.addresses;
    servers = announced_all same_addr now (servers_of option) f.servers;
    names = announced_all same_name now (names_of option) f.names;
  }

  -- the options in their order
  abbrev pub options_taken : Filling → List Said → List Said
  options_taken f [] = []
  options_taken f (option ∷ options) = option_taken f option ∷ options_taken (filled (option_taken f option) f) options

-- An announcement is passed over only where it would enter, and as many are listed as the limit: it has room if it takes its key away, or refreshes it.
abbrev pub TakesByRoom : {K : Type 0} → (K → K → Bool) → Type 0
TakesByRoom {K} same = (limit now : ℕ) (key : K) (lifetime : ℕ) (more : List (K × ℕ)) (entries : List (Lasting K)) → length entries ≤ limit
    → with_room same limit now ((key, lifetime) ∷ more) entries
    ≡ (if (lifetime == 0) || (is_some (end_in same key (open_at now entries)) || nat_lt (length (open_at now entries)) limit) then (key, lifetime) ∷ with_room same limit now more (announced same now key lifetime entries)
    else with_room same limit now more entries)

-- ---- the link-layer address of a neighbour for which there is no room

abbrev pub gives_address : Said → Bool
gives_address (slla mac) = true
gives_address (tlla mac) = true
gives_address _ = false

-- the options without it
abbrev pub as_placed : Bool → List Said → List Said
as_placed true options = options
as_placed false options = filter (λ option. not (gives_address option)) options

-- ---- the limits of which a part is passed over

abbrev pub passed_over : Bool → Limit → List Limit
passed_over room limit = if room then [] else limit ∷ []

-- one row for each, in the order of the limits
abbrev pub ignoring : ℕ → List Limit → Chronicle → Chronicle
ignoring at [] c = c
ignoring at (limit ∷ limits) c = ignoring at limits ((at, Ignored limit) ∷ c)

-- ---- what is taken of a message

-- whether its neighbour gets an entry, what it says without what is passed over, whether its router is listed, and which limits have no room
pub record Taken : Type 0 where
  pub place : Bool
  pub message : Parts
  pub listed : Bool
  pub ignored : List Limit

-- of an advertisement, by what there is in each table
pub record TakenOfAdvertisement (start : Start) (c : Chronicle) (now : ℕ) (source : Addr) (ra : RouterAdvertisement) (message : Parts) (taken : Taken) : Type 0 where
  pub placed : Placed start c now (makes_way start (said c source message)) (needs c source message message.body) taken.place
  pub routers : List (Lasting ℕ)
  pub those_routers : Lists same (announcements (router_history c)) now routers
  pub listed_is : taken.listed ≡ fits same start.limits.routers now ((number_of source.0, ra.router_lifetime) ∷ []) routers
  pub prefixes : List (Lasting PrefixValue)
  pub those_prefixes : Lists same_prefix (prefix_history c) now prefixes
  pub known : List Address
  pub those_addresses : own.Stands known (address_history c)
  pub servers : List (Lasting Addr)
  pub those_servers : Lists same_addr (server_history c) now servers
  pub names : List (Lasting (List ℕ))
  pub those_names : Lists same_name (name_history c) now names
  pub message_is : taken.message ≡ record {
    body = message.body;
    options = as_placed taken.place (options_taken start.limits start.mac now (record { prefixes = prefixes; addresses = map own.key_of known; servers = servers; names = names }) message.options);
  }
  pub ignored_is : taken.ignored ≡ passed_over taken.place Neighbours ++ passed_over taken.listed Routers
      ++ passed_over (fits same_prefix start.limits.prefixes now (on_link.prefixes_in message.options) prefixes) Prefixes
      ++ passed_over (fits_in start.limits.addresses start.mac (map own.key_of known) (prefixes_in message.options)) Addresses
      ++ passed_over (fits same_addr start.limits.servers now (servers_told message.options) servers) Servers
      ++ passed_over (fits same_name start.limits.names now (names_told message.options) names) Names

-- any other message only names a neighbour
pub record TakenOfMessage (start : Start) (c : Chronicle) (now : ℕ) (source : Addr) (message : Parts) (taken : Taken) : Type 0 where
  pub placed : Placed start c now (makes_way start (said c source message)) (needs c source message message.body) taken.place
  pub message_is : taken.message ≡ record { body = message.body; options = as_placed taken.place message.options }
  pub listed_is : taken.listed ≡ true
  pub ignored_is : taken.ignored ≡ passed_over taken.place Neighbours

abbrev pub IsTakenInPart : Start → Chronicle → ℕ → Addr → Parts → Body → Taken → Type 0
IsTakenInPart start c now source message (bodies.Ra ra) taken = TakenOfAdvertisement start c now source ra message taken
IsTakenInPart start c now source message _ taken = TakenOfMessage start c now source message taken
