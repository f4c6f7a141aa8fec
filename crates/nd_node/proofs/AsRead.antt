-- What the tables take of a message is the same as its options are read, but for the link-layer addresses.
use Rattle.std.proofs.Common.{◌≡◌, ℕ, Bool, true, false, List, ◌∷◌, Option, sym, ◌∙◌, ap}
use Rattle.rand_core.specs.Stream.{Stream}
use Rattle.nd_addr.specs.declared.addr.Addr.{Addr}
use Rattle.nd_addr.specs.Prefix.{PrefixValue}
use Rattle.nd_addr.specs.Same.{same_addr, same_prefix}
use Rattle.nd_decode.specs.Option.{Said}
use Rattle.nd_decode.specs.declared.prefix_info.PrefixInfo.{PrefixInfo}
use Rattle.nd_decode.specs.declared.router_advertisement.RouterAdvertisement.{RouterAdvertisement}
use Rattle.nd_table.specs.Listing.{fits}
use Rattle.nd_params.specs.History.{mtu_of}
use Rattle.nd_params.specs.Params.{redraws}
use Rattle.nd_params.specs.ParamsKept as parameters
use Rattle.nd_params.specs.ParamsKept.{Values}
use Rattle.nd_params.specs.RouterAdvertisement.{first_mtu, valid_mtu_or}
use Rattle.nd_routers.specs.OnLinkPrefixes as prefixes
use Rattle.nd_slaac.specs.PrefixOption as addresses
use Rattle.nd_slaac.specs.Room as roomy
use Rattle.nd_slaac.specs.Room.{fits_in}
use Rattle.nd_slaac.proofs.Counting.{all_have_room as addresses_have_room}
use Rattle.nd_table.proofs.WithRoom.{all_have_room}
use Rattle.nd_slaac.specs.Calls.{keys_in}
use Rattle.nd_dns.specs.AnnouncedNames.{same_name, names_told}
use Rattle.nd_dns.specs.AnnouncedServers.{servers_told}
use Rattle.nd_chronicle.specs.Start.{Start}
use Rattle.nd_chronicle.specs.Happening.{Chronicle, Heard}
use Rattle.nd_chronicle.specs.Histories.{parameter_history}
use Rattle.nd_chronicle.specs.InForce.{base_reachable_time}
use Rattle.nd_chronicle.specs.Generator.{stream_left}
use Rattle.nd_chronicle.specs.RouterAdvertisement.{redrawing, then_options}
use Rattle.nd_chronicle.specs.Reading.{read_options}
use Rattle.nd_chronicle.proofs.Reading.{links_as_said, mtu_as_said, names_as_said, prefixes_as_said, servers_as_said}
use Rattle.nd_steps.specs.Parameters.{HearsParameters}
use Rattle.nd_steps.specs.DestinationCache.{forms_none}
use Rattle.nd_node.specs.declared.node.Node.{Node}
use Rattle.nd_node.specs.Fullness.{HasRoom}
use Rattle.nd_node.specs.RouterAdvertisement.{advertised, IsTaken}

module _ {R A : Type 0} (node : Node R A) (now : ℕ) (options : List Said) where
  abbrev read : List Said
  read = read_options node.policies node.mac options

  pub fits_prefixes : fits same_prefix node.prefixes.limit now (prefixes.prefixes_in read) node.prefixes.entries ≡ fits same_prefix node.prefixes.limit now (prefixes.prefixes_in options) node.prefixes.entries
  fits_prefixes = ap (λ (told : List (PrefixValue × ℕ)). fits same_prefix node.prefixes.limit now told node.prefixes.entries) (links_as_said node.policies node.mac options)

  pub fits_servers : fits same_addr node.dns.server_limit now (servers_told read) node.dns.servers ≡ fits same_addr node.dns.server_limit now (servers_told options) node.dns.servers
  fits_servers = ap (λ (told : List (Addr × ℕ)). fits same_addr node.dns.server_limit now told node.dns.servers) (servers_as_said node.policies node.mac options)

  pub fits_names : fits same_name node.dns.name_limit now (names_told read) node.dns.names ≡ fits same_name node.dns.name_limit now (names_told options) node.dns.names
  fits_names = ap (λ (told : List (List ℕ × ℕ)). fits same_name node.dns.name_limit now told node.dns.names) (names_as_said node.policies node.mac options)

pub fits_addresses : {R A : Type 0} (node : Node R A) (options : List Said)
    → fits_in node.addresses.limit node.addresses.mac (keys_in node.addresses.addresses) (addresses.prefixes_in (read_options node.policies node.mac options))
    ≡ fits_in node.addresses.limit node.addresses.mac (keys_in node.addresses.addresses) (addresses.prefixes_in options)
fits_addresses node options =
    ap (λ (infos : List PrefixInfo). fits_in node.addresses.limit node.addresses.mac (keys_in node.addresses.addresses) infos) (prefixes_as_said node.policies node.mac options)

-- ---- the parameters of the link

module _ (start : Start) (c : Chronicle) (now : ℕ) (source destination : Addr) (ra : RouterAdvertisement) (said read : List Said) (same : first_mtu read ≡ first_mtu said) where
  abbrev then_heard : List Said → Bool → Chronicle
  then_heard options redrawn = redrawing start now ra.reachable_time redrawn ((now, Heard source destination (advertised ra options)) ∷ c)

  mtu_same : mtu_of (parameter_history ((now, Heard source destination (advertised ra said)) ∷ c)) ≡ mtu_of (parameter_history ((now, Heard source destination (advertised ra read)) ∷ c))
  mtu_same = ap (λ (told : Option ℕ). valid_mtu_or told (mtu_of (parameter_history c))) (sym same)

  params_stand : (values : Values) (redrawn : Bool) → parameters.Stands values (parameter_history (then_heard said redrawn)) → parameters.Stands values (parameter_history (then_heard read redrawn))
  params_stand values true s = record {
    hop_limit = s.hop_limit;
    mtu = s.mtu ∙ mtu_same;
    base_reachable_time = s.base_reachable_time;
    reachable_time = s.reachable_time;
    retrans_timer = s.retrans_timer;
    managed = s.managed;
    other = s.other;
    drawn_at = s.drawn_at;
  }
  params_stand values false s = record {
    hop_limit = s.hop_limit;
    mtu = s.mtu ∙ mtu_same;
    base_reachable_time = s.base_reachable_time;
    reachable_time = s.reachable_time;
    retrans_timer = s.retrans_timer;
    managed = s.managed;
    other = s.other;
    drawn_at = s.drawn_at;
  }

  generator_same : (after : Stream) (redrawn : Bool) → after ≡ stream_left start (then_heard said redrawn) → after ≡ stream_left start (then_heard read redrawn)
  generator_same after true e = e
  generator_same after false e = e

pub hears_as_read : (old new : Values) (before after : Stream) (now : ℕ) (ra : RouterAdvertisement) (said read : List Said) → first_mtu read ≡ first_mtu said
    → HearsParameters old new before after now ra said → HearsParameters old new before after now ra read
hears_as_read old new before after now ra said read same h = record {
  params = λ start c source destination s e.
      params_stand start c now source destination ra said read same new (redraws (base_reachable_time c) ra.reachable_time) (h.params start c source destination s e);
  generator = λ start c source destination s e.
      generator_same start c now source destination ra said read same after (redraws (base_reachable_time c) ra.reachable_time) (h.generator start c source destination s e);
}

-- ---- where there is room for all, all is taken as it is read

pub all_taken : {R A : Type 0} (node : Node R A) (now : ℕ) (source : Addr) (ra : RouterAdvertisement) (said : List Said) (place : Bool) → HasRoom node now source ra said place
    → IsTaken node now said (read_options node.policies node.mac said)
all_taken node now source ra said place room =
    let policies = node.policies in
    let mac = node.mac in
    let read = read_options policies mac said in
    let own = node.addresses.mac in
    let keys = keys_in node.addresses.addresses in
    let infos : addresses.prefixes_in read ≡ roomy.with_room node.addresses.limit own keys (addresses.prefixes_in said) =
    prefixes_as_said policies mac said ∙ sym (addresses_have_room node.addresses.limit own keys (addresses.prefixes_in said) room.addresses) in
    record {
      mtu = mtu_as_said policies mac said;
      prefixes = links_as_said policies mac said ∙ sym (all_have_room same_prefix node.prefixes.limit now (prefixes.prefixes_in said) node.prefixes.entries room.prefixes);
      forms = λ start to_all c. ap (λ (infos : List PrefixInfo). then_options start now to_all infos c) infos;
      none = ap (λ (infos : List PrefixInfo). forms_none own keys infos) infos;
      servers = servers_as_said policies mac said ∙ sym (all_have_room same_addr node.dns.server_limit now (servers_told said) node.dns.servers room.servers);
      names = names_as_said policies mac said ∙ sym (all_have_room same_name node.dns.name_limit now (names_told said) node.dns.names room.names);
    }
