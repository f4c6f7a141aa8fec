-- A message is taken in part at a node.
use Rattle.std.proofs.Common.{◌≡◌, ℕ, ◌≤◌, Bool, true, false, List, [], ◌∷◌, ◌++◌, map, Option, Some, None, refl, sym, ◌∙◌, ap, subst, arith}
use Rattle.std.specs.Prelude.{◌+◌, not, ◌&&◌, IfSome, if◌then◌else◌}
use Rattle.nd_packet.specs.Waiting.{max_waiting}
use Rattle.std.proofs.lemmas.Bool.{true≢false}
use Rattle.nd_neighbour.specs.EntryKept.{NeighbourEntry}
use Rattle.nd_neighbour.specs.News.{lets_enter}
use Rattle.nd_steps.specs.GivingWay.{HasPlaceOrWay}
use Rattle.std.specs.Option.{option_map}
use Rattle.rand_core.specs.Stream.{Stream}
use Rattle.nd_addr.specs.declared.addr.Addr.{Addr}
use Rattle.nd_addr.specs.declared.mac.Mac.{Mac}
use Rattle.nd_addr.specs.Number.{number_of}
use Rattle.nd_addr.specs.Prefix.{PrefixValue}
use Rattle.nd_addr.specs.Same.{same_addr, same_prefix, addrs_tell, prefixes_tell, bytes_tell}
use Rattle.nd_decode.specs.Option.{Said}
use Rattle.nd_decode.specs.declared.body.Body.TheVariants as bodies
use Rattle.nd_decode.specs.declared.prefix_info.PrefixInfo.{PrefixInfo}
use Rattle.nd_table.specs.Listing.{open_at, with_room}
use Rattle.nd_table.proofs.WithRoom.{with_room_open}
use Rattle.nd_routers.specs.OnLinkPrefixes as on_link
use Rattle.nd_slaac.specs.PrefixOption.{prefixes_in}
use Rattle.nd_slaac.specs.Calls.{keys_in}
use Rattle.nd_slaac.specs.Room.{would_form}
use Rattle.nd_slaac.specs.Room as own
use Rattle.nd_dns.specs.AnnouncedNames.{same_name, names_told}
use Rattle.nd_dns.specs.AnnouncedServers.{servers_told}
use Rattle.nd_chronicle.specs.Start.{Start}
use Rattle.nd_chronicle.specs.Happening.{Chronicle, Heard, Ignored, Passed, last_moment}
use Rattle.nd_chronicle.specs.Parts.{TakenOfAdvertisement, ignoring, options_taken}
use Rattle.nd_chronicle.specs.Reading.{read_options}
use Rattle.nd_chronicle.specs.RouterAdvertisement.{then_advertised, then_options}
use Rattle.nd_chronicle.proofs.Parts.{Alike, ends, keeps, passes, addresses_have_room, alike_options, forms_no_address, links_have_room, mtu_stays, names_have_room, same_form, servers_have_room, slla_stays}
use Rattle.nd_chronicle.proofs.Reading.{links_as_placed, links_as_said, mtu_as_placed, mtu_as_said, names_as_placed, names_as_said, prefixes_as_placed, prefixes_as_said, servers_as_placed, servers_as_said}
use Rattle.nd_out.specs.declared.out.Out.{Out}
use Rattle.nd_out.specs.declared.out.Out.TheVariants as outs
use Rattle.nd_out.specs.Out.{happening}
use Rattle.nd_neighbour.specs.declared.news.News.{News}
use Rattle.nd_neighbour.specs.declared.news.Times.{Times}
use Rattle.nd_chronicle.specs.Full.{needs, Placed}
use Rattle.nd_chronicle.specs.Message.{makes_way, said}
use Rattle.nd_chronicle.specs.Histories.{given_or_marked, neighbour_history, said_of_neighbour}
use Rattle.nd_steps.specs.NeighbourCache.{said_by}
use Rattle.nd_steps.specs.Parts.{said_in_place}
use Rattle.nd_steps.proofs.InPlace.{said_without}
use Rattle.nd_steps.proofs.Telling.{Tells-then}
use Rattle.nd_steps.specs.DestinationCache.{forms_none}
use Rattle.nd_steps.specs.Outputs.{at_moment, happenings}
use Rattle.nd_node.specs.declared.node.Node.{Node}
use Rattle.nd_node.specs.NodeKept.{Stands}
use Rattle.nd_decode.specs.declared.router_advertisement.RouterAdvertisement.{RouterAdvertisement}
use Rattle.nd_node.specs.Parts.{AddsInPart, filling_of, ignored_by, limits_of, part_of, rooms_of}
use Rattle.nd_node.specs.RouterAdvertisement.{IsTaken, TakesAdvertisement, advertised}
use Rattle.nd_node.proofs.AsRead.{fits_addresses, fits_names, fits_prefixes, fits_servers}
use Rattle.nd_node.proofs.Filling.{taken_of_advertisement}
use Rattle.nd_node.proofs.Ignoring.{stands_limits, tells_limits}
use Rattle.nd_node.proofs.PlainMessages.{passed_placed}
use Rattle.nd_node.proofs.TakenOrRefused.{tells_one}

-- ---- the options that are taken

-- where these are known before all
alike_none : {xs ys : List PrefixInfo} → Alike xs ys → (mac : Mac) (keys : List ℕ) → forms_none mac keys xs ≡ forms_none mac keys ys
alike_none ends mac keys = refl
alike_none (keeps {xs = xs} {ys = ys} info linked more) mac keys =
    ap (λ (b : Bool). not b && forms_none mac keys xs) (same_form mac keys info linked) ∙ ap (λ (b : Bool). not (would_form mac keys info) && b) (alike_none more mac keys)
alike_none (passes {xs = xs} {ys = ys} info linked more) mac keys =
    ap (λ (b : Bool). not b && forms_none mac keys xs) (forms_no_address mac keys info linked) ∙ alike_none more mac keys

module _ {R A : Type 0} (node : Node R A) (now : ℕ) (place : Bool) (said : List Said) where
  abbrev read : List Said
  read = read_options node.policies node.mac said

  abbrev kept : List Said
  kept = options_taken (limits_of node) node.addresses.mac now (filling_of node now) read

  infos : (start : Start) (to_all : Bool) (c : Chronicle) → then_options start now to_all (prefixes_in (part_of node now place read)) c
      ≡ then_options start now to_all (own.with_room node.addresses.limit node.addresses.mac (keys_in node.addresses.addresses) (prefixes_in said)) c
  infos start to_all c =
      ap (λ (infos : List PrefixInfo). then_options start now to_all infos c) (prefixes_as_placed place kept)
      ∙ (alike_options (addresses_have_room (limits_of node) node.addresses.mac now (filling_of node now) read) start now to_all c
      ∙ ap (λ (infos : List PrefixInfo). then_options start now to_all (own.with_room node.addresses.limit node.addresses.mac (keys_in node.addresses.addresses) infos) c) (prefixes_as_said node.policies node.mac said))

  none_formed : forms_none node.addresses.mac (keys_in node.addresses.addresses) (prefixes_in (part_of node now place read))
      ≡ forms_none node.addresses.mac (keys_in node.addresses.addresses) (own.with_room node.addresses.limit node.addresses.mac (keys_in node.addresses.addresses) (prefixes_in said))
  none_formed =
      ap (λ (infos : List PrefixInfo). forms_none node.addresses.mac (keys_in node.addresses.addresses) infos) (prefixes_as_placed place kept)
      ∙ (alike_none (addresses_have_room (limits_of node) node.addresses.mac now (filling_of node now) read) node.addresses.mac (keys_in node.addresses.addresses)
      ∙ ap (λ (infos : List PrefixInfo). forms_none node.addresses.mac (keys_in node.addresses.addresses) (own.with_room node.addresses.limit node.addresses.mac (keys_in node.addresses.addresses) infos)) (prefixes_as_said node.policies node.mac said))

  pub part_taken : IsTaken node now said (part_of node now place read)
  part_taken = record {
    mtu = mtu_as_placed place kept ∙ (mtu_stays (limits_of node) node.addresses.mac now (filling_of node now) read ∙ mtu_as_said node.policies node.mac said);
    prefixes = links_as_placed place kept ∙ (links_have_room (limits_of node) node.addresses.mac now (filling_of node now) read
        ∙ (ap (λ (told : List (PrefixValue × ℕ)). with_room same_prefix node.prefixes.limit now told (open_at now node.prefixes.entries)) (links_as_said node.policies node.mac said)
        ∙ with_room_open same_prefix prefixes_tell node.prefixes.limit now (on_link.prefixes_in said) node.prefixes.entries));
    forms = infos;
    none = none_formed;
    servers = servers_as_placed place kept ∙ (servers_have_room (limits_of node) node.addresses.mac now (filling_of node now) read
        ∙ (ap (λ (told : List (Addr × ℕ)). with_room same_addr node.dns.server_limit now told (open_at now node.dns.servers)) (servers_as_said node.policies node.mac said)
        ∙ with_room_open same_addr addrs_tell node.dns.server_limit now (servers_told said) node.dns.servers));
    names = names_as_placed place kept ∙ (names_have_room (limits_of node) node.addresses.mac now (filling_of node now) read
        ∙ (ap (λ (told : List (List ℕ × ℕ)). with_room same_name node.dns.name_limit now told (open_at now node.dns.names)) (names_as_said node.policies node.mac said)
        ∙ with_room_open same_name bytes_tell node.dns.name_limit now (names_told said) node.dns.names));
  }

-- each table has the same room for them as they are read
pub rooms_as_read : {R A : Type 0} (node : Node R A) (now : ℕ) (source : Addr) (lifetime : ℕ) (said : List Said) (place : Bool)
    → rooms_of node now source lifetime said place ≡ rooms_of node now source lifetime (read_options node.policies node.mac said) place
rooms_as_read node now source lifetime said place =
    sym (rw (fits_prefixes node now said, fits_addresses node said, fits_servers node now said, fits_names node now said) refl)

-- ---- rows

pub way_most : (speakers : Bool) (rows : ℕ) → rows ≡ (if speakers then max_waiting + 1 else 0) → rows ≤ 9
way_most true rows is = omega (arith, is)
way_most false rows is = omega (arith, is)

-- ---- the sender

pub sender_in_place : {R A : Type 0} (node : Node R A) (now : ℕ) (place : Bool) (said : List Said) (source : Addr) (ra : RouterAdvertisement) (times : Times) (news taken : Option News)
    → option_map (said_by times) news ≡ said_of_neighbour source (bodies.Ra ra) (read_options node.policies node.mac said) times.reachable
    → option_map (said_by times) taken ≡ said_in_place place (option_map (said_by times) news)
    → option_map (said_by times) taken ≡ said_of_neighbour source (bodies.Ra ra) (part_of node now place (read_options node.policies node.mac said)) times.reachable
sender_in_place node now place said source ra times news taken is taken_is =
    let read = read_options node.policies node.mac said in
    let kept = options_taken (limits_of node) node.addresses.mac now (filling_of node now) read in
    let same : said_of_neighbour source (bodies.Ra ra) read times.reachable ≡ said_of_neighbour source (bodies.Ra ra) kept times.reachable =
    ap (λ (mac : Option Mac). given_or_marked (number_of source.0) mac (Some true)) (sym (slla_stays (limits_of node) node.addresses.mac now (filling_of node now) read)) in
    taken_is ∙ (ap (said_in_place place) (is ∙ same) ∙ sym (said_without source (bodies.Ra ra) kept times.reachable place))

-- there is room for news that let no neighbour enter
pub placed_or_out : (speakers : Bool) (limit now : ℕ) (news taken : Option News) (entries : List NeighbourEntry) (place : Bool) → (place ≡ true → HasPlaceOrWay speakers limit now news entries) → (place ≡ true → taken ≡ news)
    → (place ≡ false → IfSome taken (λ n. lets_enter n ≡ false)) → HasPlaceOrWay speakers limit now taken entries
placed_or_out speakers limit now news taken entries true has same out = subst (λ (n : Option News). HasPlaceOrWay speakers limit now n entries) (sym (same refl)) (has refl)
placed_or_out speakers limit now news None entries false has same out = tt
placed_or_out speakers limit now news (Some n) entries false has same out = λ enters. absurd (true≢false (sym enters ∙ out refl))

-- ---- an advertisement

module _ {R A : Type 0} (stream : R → Stream) (now : ℕ) (source destination : Addr) (ra : RouterAdvertisement) (options : List Said) where
  pub takes_in_part : (old new : Node R A) (place : Bool) (x same y z w : List (ℕ × Out A)) (out : Out A) → out ≡ outs.Heard source destination (bodies.Ra ra)
      → ((start : Start) (c : Chronicle) → Stands stream start old c → Placed start c now (makes_way start (said c source (advertised ra options))) (needs c source (advertised ra options) (bodies.Ra ra)) place)
      → same ≡ x → y ≡ same ++ (now, out) ∷ []
      → TakesAdvertisement stream old new y z now source destination ra (part_of old now place options) (rooms_of old now source ra.router_lifetime options place).routers
      → happenings w ≡ happenings z ++ at_moment now (map (λ l. Ignored l) (ignored_by (rooms_of old now source ra.router_lifetime options place)))
      → AddsInPart stream old new x w now source destination (advertised ra options)
  takes_in_part old new place x same y z w out out_is placed same_is told_is taken ignored = record {
    each = λ start c s le target.
        let later : Chronicle = (now, Passed) ∷ c in
        let rooms = rooms_of old now source ra.router_lifetime options place in
        let message = advertised ra (part_of old now place options) in
        let a = taken.each start c s le in
        let all : Chronicle = then_advertised start now source destination ra message rooms.routers a.gone (neighbour_history c) a.placed in
        let heard : Chronicle = (now, Heard source destination message) ∷ later in (
          ignoring now (ignored_by rooms) all,
          record {
            taken = record { place = place; message = message; listed = rooms.routers; ignored = ignored_by rooms };
            is_taken = taken_later start c s le (passed_placed start c now (makes_way start (said c source (advertised ra options))) (needs c source (advertised ra options) (bodies.Ra ra)) place (placed start c s));
            told = all;
            adds = (a.gone, a.placed, a.room, refl);
            all = refl;
          },
          stands_limits stream start new now (ignored_by rooms) all a.moment a.stands,
          Tells-then c all (ignoring now (ignored_by rooms) all) x z w
              (Tells-then c heard all x y z
              (tells_one c now (Heard source destination (record { body = bodies.Ra ra; options = [] })) (Heard source destination message) x y out (ap happening out_is) refl
              (told_is ∙ ap (λ (l : List (ℕ × Out A)). l ++ (now, out) ∷ []) same_is)) a.tells)
              (tells_limits now (ignored_by rooms) all z w ignored),
        );
  }
    where
      -- the same once time has passed
      taken_later : (start : Start) (c : Chronicle) → Stands stream start old c → last_moment start.at c ≤ now
          → Placed start ((now, Passed) ∷ c) now (makes_way start (said c source (advertised ra options))) (needs c source (advertised ra options) (bodies.Ra ra)) place
          → TakenOfAdvertisement start ((now, Passed) ∷ c) now source ra (advertised ra options)
          (record { place = place; message = advertised ra (part_of old now place options); listed = (rooms_of old now source ra.router_lifetime options place).routers; ignored = ignored_by (rooms_of old now source ra.router_lifetime options place) })
      taken_later start c s le p =
          let t = taken_of_advertisement stream old now source ra options start c s le place (placed start c s) in
          record {
            placed = p;
            routers = t.routers;
            those_routers = t.those_routers;
            listed_is = t.listed_is;
            prefixes = t.prefixes;
            those_prefixes = t.those_prefixes;
            known = t.known;
            those_addresses = t.those_addresses;
            servers = t.servers;
            those_servers = t.those_servers;
            names = t.names;
            those_names = t.those_names;
            message_is = t.message_is;
            ignored_is = t.ignored_is;
          }
