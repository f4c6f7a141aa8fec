-- Which table of a node is full first, by the chronicle.
use Rattle.std.proofs.Common.{◌≡◌, ℕ, ◌≤◌, Bool, true, false, List, [], ◌∷◌, map, Option, Some, None, ap, refl, sym, ◌∙◌, arith}
use Rattle.std.proofs.lemmas.Bool.Decides.{eqb_tells}
use Rattle.rand_core.specs.Stream.{Stream}
use Rattle.nd_addr.specs.declared.addr.Addr.{Addr}
use Rattle.nd_addr.specs.declared.mac.Mac.{Mac}
use Rattle.nd_addr.specs.Number.{number_of}
use Rattle.nd_addr.specs.Same.{same_addr, same_prefix, addrs_tell, prefixes_tell, bytes_tell}
use Rattle.nd_decode.specs.Option.{Said}
use Rattle.nd_decode.specs.Message.{Parts}
use Rattle.nd_decode.specs.declared.router_advertisement.RouterAdvertisement.{RouterAdvertisement}
use Rattle.nd_table.specs.Listing.{Lists, open_at, fits}
use Rattle.nd_table.proofs.Behind.{fits_open}
use Rattle.nd_table.proofs.Steps.{lists_at}
use Rattle.nd_routers.specs.History.{announcements}
use Rattle.nd_routers.specs.Routers.{same}
use Rattle.nd_routers.specs.OnLinkPrefixes as on_link
use Rattle.nd_slaac.specs.PrefixOption.{prefixes_in}
use Rattle.nd_slaac.specs.Calls.{keys_in}
use Rattle.nd_slaac.specs.TableKept.{key_of}
use Rattle.nd_slaac.specs.Room.{fits_in}
use Rattle.nd_dns.specs.AnnouncedNames.{same_name, names_told}
use Rattle.nd_dns.specs.AnnouncedServers.{servers_told}
use Rattle.nd_chronicle.specs.Start.{Limits, Start}
use Rattle.nd_chronicle.specs.Happening as happenings
use Rattle.nd_chronicle.specs.Happening.{Chronicle, last_moment}
use Rattle.nd_chronicle.specs.Histories.{router_history, prefix_history, server_history, name_history}
use Rattle.nd_chronicle.specs.Message.{makes_way, said}
use Rattle.nd_chronicle.specs.Full.{first_full, needs, Placed, AdvertisementFills}
use Rattle.nd_chronicle.specs.Parts.{TakenOfAdvertisement, as_placed, options_taken}
use Rattle.nd_node.specs.declared.node.Node.{Node}
use Rattle.nd_node.specs.NodeKept.{Stands}
use Rattle.nd_node.specs.Parts.{filling_of, ignored_by, limits_of, part_of, rooms_of}
use Rattle.nd_node.specs.RouterAdvertisement.{advertised}

-- the first table without room, those before it having room
first_neighbours : (n r p a v m : Bool) → n ≡ false → Some happenings.Neighbours ≡ first_full n r p a v m
first_neighbours n r p a v m e = rw e refl

first_routers : (n r p a v m : Bool) → n ≡ true → r ≡ false → Some happenings.Routers ≡ first_full n r p a v m
first_routers n r p a v m e f = rw (e, f) refl

first_prefixes : (n r p a v m : Bool) → n ≡ true → r ≡ true → p ≡ false → Some happenings.Prefixes ≡ first_full n r p a v m
first_prefixes n r p a v m e f g = rw (e, f, g) refl

first_addresses : (n r p a v m : Bool) → n ≡ true → r ≡ true → p ≡ true → a ≡ false → Some happenings.Addresses ≡ first_full n r p a v m
first_addresses n r p a v m e f g h = rw (e, f, g, h) refl

first_servers : (n r p a v m : Bool) → n ≡ true → r ≡ true → p ≡ true → a ≡ true → v ≡ false → Some happenings.Servers ≡ first_full n r p a v m
first_servers n r p a v m e f g h i = rw (e, f, g, h, i) refl

first_names : (n r p a v m : Bool) → n ≡ true → r ≡ true → p ≡ true → a ≡ true → v ≡ true → m ≡ false → Some happenings.Names ≡ first_full n r p a v m
first_names n r p a v m e f g h i j = rw (e, f, g, h, i, j) refl

first_none : (n r p a v m : Bool) → n ≡ true → r ≡ true → p ≡ true → a ≡ true → v ≡ true → m ≡ true → None ≡ first_full n r p a v m
first_none n r p a v m e f g h i j = rw (e, f, g, h, i, j) refl

-- the options that are taken, with these limits
abbrev part_of_limits : {R A : Type 0} → Limits → Node R A → ℕ → Bool → List Said → List Said
part_of_limits limits node now place options = as_placed place (options_taken limits node.addresses.mac now (filling_of node now) options)

module _ {R A : Type 0} (stream : R → Stream) (node : Node R A) (now : ℕ) (source : Addr) (ra : RouterAdvertisement) (options : List Said) where
  abbrev message : Parts
  message = advertised ra options

  -- whether each table has room, by what is kept
  abbrev router_fits : Bool
  router_fits = fits same node.routers.limit now ((number_of source.0, ra.router_lifetime) ∷ []) node.routers.entries

  abbrev prefix_fits : Bool
  prefix_fits = fits same_prefix node.prefixes.limit now (on_link.prefixes_in options) node.prefixes.entries

  abbrev address_fits : Bool
  address_fits = fits_in node.addresses.limit node.addresses.mac (keys_in node.addresses.addresses) (prefixes_in options)

  abbrev server_fits : Bool
  server_fits = fits same_addr node.dns.server_limit now (servers_told options) node.dns.servers

  abbrev name_fits : Bool
  name_fits = fits same_name node.dns.name_limit now (names_told options) node.dns.names

  -- the first table without room
  abbrev pub first_kept : Bool → Option happenings.Limit
  first_kept place = first_full place router_fits prefix_fits address_fits server_fits name_fits

  pub at_neighbours : (place : Bool) → place ≡ false → Some happenings.Neighbours ≡ first_kept place
  at_neighbours place e = first_neighbours place router_fits prefix_fits address_fits server_fits name_fits e

  pub at_routers : (place : Bool) → place ≡ true → router_fits ≡ false → Some happenings.Routers ≡ first_kept place
  at_routers place e f = first_routers place router_fits prefix_fits address_fits server_fits name_fits e f

  pub at_prefixes : (place : Bool) → place ≡ true → router_fits ≡ true → prefix_fits ≡ false → Some happenings.Prefixes ≡ first_kept place
  at_prefixes place e f h = first_prefixes place router_fits prefix_fits address_fits server_fits name_fits e f h

  pub at_addresses : (place : Bool) → place ≡ true → router_fits ≡ true → prefix_fits ≡ true → address_fits ≡ false → Some happenings.Addresses ≡ first_kept place
  at_addresses place e f h i = first_addresses place router_fits prefix_fits address_fits server_fits name_fits e f h i

  pub at_servers : (place : Bool) → place ≡ true → router_fits ≡ true → prefix_fits ≡ true → address_fits ≡ true → server_fits ≡ false → Some happenings.Servers ≡ first_kept place
  at_servers place e f h i j = first_servers place router_fits prefix_fits address_fits server_fits name_fits e f h i j

  pub at_names : (place : Bool) → place ≡ true → router_fits ≡ true → prefix_fits ≡ true → address_fits ≡ true → server_fits ≡ true → name_fits ≡ false → Some happenings.Names ≡ first_kept place
  at_names place e f h i j k = first_names place router_fits prefix_fits address_fits server_fits name_fits e f h i j k

  pub at_none : (place : Bool) → place ≡ true → router_fits ≡ true → prefix_fits ≡ true → address_fits ≡ true → server_fits ≡ true → name_fits ≡ true → None ≡ first_kept place
  at_none place e f h i j k = first_none place router_fits prefix_fits address_fits server_fits name_fits e f h i j k

  module _ (start : Start) (c : Chronicle) (s : Stands stream start node c) (le : last_moment start.at c ≤ now) where
    listed : Lists same (announcements (router_history c)) now (open_at now node.routers.entries)
    listed = lists_at same eqb_tells node.routers.entries (announcements (router_history c)) now s.routers.routers

    listed_prefixes : Lists same_prefix (prefix_history c) now (open_at now node.prefixes.entries)
    listed_prefixes = s.prefixes.lists now (omega (arith, s.prefixes_by_then, le))

    listed_servers : Lists same_addr (server_history c) now (open_at now node.dns.servers)
    listed_servers = s.dns.servers_stand.lists now (omega (arith, s.servers_by_then, le))

    listed_names : Lists same_name (name_history c) now (open_at now node.dns.names)
    listed_names = s.dns.names_stand.lists now (omega (arith, s.names_by_then, le))

    router_is : fits same node.routers.limit now ((number_of source.0, ra.router_lifetime) ∷ []) node.routers.entries
        ≡ fits same start.limits.routers now ((number_of source.0, ra.router_lifetime) ∷ []) (open_at now node.routers.entries)
    router_is = sym (fits_open same eqb_tells node.routers.limit now ((number_of source.0, ra.router_lifetime) ∷ []) node.routers.entries)
        ∙ ap (λ (n : ℕ). fits same n now ((number_of source.0, ra.router_lifetime) ∷ []) (open_at now node.routers.entries)) s.limits.routers

    prefix_is : fits same_prefix node.prefixes.limit now (on_link.prefixes_in options) node.prefixes.entries ≡ fits same_prefix start.limits.prefixes now (on_link.prefixes_in options) (open_at now node.prefixes.entries)
    prefix_is = sym (fits_open same_prefix prefixes_tell node.prefixes.limit now (on_link.prefixes_in options) node.prefixes.entries)
        ∙ ap (λ (n : ℕ). fits same_prefix n now (on_link.prefixes_in options) (open_at now node.prefixes.entries)) s.limits.prefixes

    server_is : fits same_addr node.dns.server_limit now (servers_told options) node.dns.servers ≡ fits same_addr start.limits.servers now (servers_told options) (open_at now node.dns.servers)
    server_is = sym (fits_open same_addr addrs_tell node.dns.server_limit now (servers_told options) node.dns.servers)
        ∙ ap (λ (n : ℕ). fits same_addr n now (servers_told options) (open_at now node.dns.servers)) s.limits.servers

    name_is : fits same_name node.dns.name_limit now (names_told options) node.dns.names ≡ fits same_name start.limits.names now (names_told options) (open_at now node.dns.names)
    name_is = sym (fits_open same_name bytes_tell node.dns.name_limit now (names_told options) node.dns.names)
        ∙ ap (λ (n : ℕ). fits same_name n now (names_told options) (open_at now node.dns.names)) s.limits.names

    address_is : fits_in node.addresses.limit node.addresses.mac (keys_in node.addresses.addresses) (prefixes_in options) ≡ fits_in start.limits.addresses start.mac (keys_in node.addresses.addresses) (prefixes_in options)
    address_is = ap (λ (m : Mac). fits_in node.addresses.limit m (keys_in node.addresses.addresses) (prefixes_in options)) s.address_mac
        ∙ ap (λ (n : ℕ). fits_in n start.mac (keys_in node.addresses.addresses) (prefixes_in options)) s.limits.addresses

    -- what is taken is what the chronicle has room for
    kept_is : (limits : Limits) → limits ≡ start.limits → (place : Bool) → part_of_limits limits node now place options
        ≡ as_placed place (options_taken start.limits start.mac now (record { prefixes = open_at now node.prefixes.entries; addresses = map key_of node.addresses.addresses; servers = open_at now node.dns.servers; names = open_at now node.dns.names }) options)
    kept_is limits is place =
        ap (λ (l : Limits). part_of_limits l node now place options) is
        ∙ ap (λ (m : Mac). as_placed place (options_taken start.limits m now (record { prefixes = open_at now node.prefixes.entries; addresses = map key_of node.addresses.addresses; servers = open_at now node.dns.servers; names = open_at now node.dns.names }) options)) s.address_mac

    limits_are : limits_of node ≡ start.limits
    limits_are =
        ap (λ (l : Limits). record l { prefixes = node.prefixes.limit; addresses = node.addresses.limit; servers = node.dns.server_limit; names = node.dns.name_limit }) s.chosen
        ∙ (ap (λ (n : ℕ). record start.limits { prefixes = n; addresses = node.addresses.limit; servers = node.dns.server_limit; names = node.dns.name_limit }) s.limits.prefixes
        ∙ (ap (λ (n : ℕ). record start.limits { addresses = n; servers = node.dns.server_limit; names = node.dns.name_limit }) s.limits.addresses
        ∙ (ap (λ (n : ℕ). record start.limits { servers = n; names = node.dns.name_limit }) s.limits.servers
        ∙ ap (λ (n : ℕ). record start.limits { names = n }) s.limits.names)))

    ignored_is : (place r r' p p' a a' v v' n n' : Bool) → r ≡ r' → p ≡ p' → a ≡ a' → v ≡ v' → n ≡ n' → ignored_by (record { neighbours = place; routers = r; prefixes = p; addresses = a; servers = v; names = n })
        ≡ ignored_by (record { neighbours = place; routers = r'; prefixes = p'; addresses = a'; servers = v'; names = n' })
    ignored_is place r r' p p' a a' v v' n n' er ep ea ev en = rw (er, ep, ea, ev, en) refl

    pub taken_of_advertisement : (place : Bool) → Placed start c now (makes_way start (said c source message)) (needs c source message message.body) place
        → TakenOfAdvertisement start c now source ra message (record { place = place; message = advertised ra (part_of node now place options); listed = router_fits; ignored = ignored_by (rooms_of node now source ra.router_lifetime options place) })
    taken_of_advertisement place placed = record {
      placed = placed;
      routers = open_at now node.routers.entries;
      those_routers = listed;
      listed_is = router_is;
      prefixes = open_at now node.prefixes.entries;
      those_prefixes = listed_prefixes;
      known = node.addresses.addresses;
      those_addresses = s.addresses;
      servers = open_at now node.dns.servers;
      those_servers = listed_servers;
      names = open_at now node.dns.names;
      those_names = listed_names;
      message_is = ap (λ (taken : List Said). advertised ra taken) (kept_is (limits_of node) limits_are place);
      ignored_is = ignored_is place router_fits router_fits _ _ _ _ _ _ _ _ refl prefix_is address_is server_is name_is;
    }

    first_by : (place r r' p p' a v v' n n' : Bool) → r ≡ r' → p ≡ p' → v ≡ v' → n ≡ n' → first_full place r p a v n ≡ first_full place r' p' a v' n'
    first_by place r r' p p' a v v' n n' er ep ev en = rw (er, ep, ev, en) refl

    fills_by : (place : Bool) (limit : Option happenings.Limit) → limit ≡ first_kept place → Placed start c now (makes_way start (said c source message)) (needs c source message message.body) place → AdvertisementFills start c now source ra message limit
    fills_by place limit first placed = record {
      neighbours = place;
      placed = placed;
      routers = open_at now node.routers.entries;
      those_routers = listed;
      prefixes = open_at now node.prefixes.entries;
      those_prefixes = listed_prefixes;
      forms = fits_in node.addresses.limit node.addresses.mac (keys_in node.addresses.addresses) (prefixes_in options);
      those_addresses = record {
        known = node.addresses.addresses;
        those = s.addresses;
        fit_is = ap (λ (m : Mac). fits_in node.addresses.limit m (keys_in node.addresses.addresses) (prefixes_in options)) s.address_mac
            ∙ ap (λ (n : ℕ). fits_in n start.mac (keys_in node.addresses.addresses) (prefixes_in options)) s.limits.addresses;
      };
      servers = open_at now node.dns.servers;
      those_servers = listed_servers;
      names = open_at now node.dns.names;
      those_names = listed_names;
      first = first ∙ first_by place _ _ _ _ _ _ _ _ _ router_is prefix_is server_is name_is;
    }

  pub advertisement_fills : (place : Bool) (limit : Option happenings.Limit) → limit ≡ first_kept place → (start : Start) (c : Chronicle) → Stands stream start node c → last_moment start.at c ≤ now
      → Placed start c now (makes_way start (said c source message)) (needs c source message message.body) place → AdvertisementFills start c now source ra message limit
  advertisement_fills place limit first start c s le placed = fills_by start c s le place limit first placed
