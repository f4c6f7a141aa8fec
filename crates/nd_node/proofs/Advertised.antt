-- What a Router Advertisement does to a node: the one place where its tables meet.
use Rattle.std.proofs.Common.{◌≡◌, ℕ, ◌+◌, ◌*◌, ◌<◌, ◌≤◌, Bool, true, false, List, [], ◌∷◌, ◌++◌, append-nil, append_assoc, Option, Some, None, refl, sym, ◌∙◌, ap, subst, cond, arith}
use Rattle.std.specs.Prelude.{◌==◌, ◌&&◌, ◌||◌, ◌↔◌, not, nat_lt, if◌then◌else◌}
use Rattle.std.specs.Option.{option_map}
use Rattle.std.specs.List.{flat_map}
use Rattle.rand_core.specs.Stream.{Stream}
use Rattle.nd_addr.specs.declared.addr.Addr.{Addr}
use Rattle.nd_addr.specs.declared.role.Role.{Role}
use Rattle.nd_addr.specs.declared.role.Role.TheVariants.{Host, Router}
use Rattle.nd_addr.specs.Kind.{multicast_prefix}
use Rattle.nd_addr.specs.Number.{number_of, holds}
use Rattle.nd_addr.specs.Prefix.{PrefixValue}
use Rattle.nd_addr.specs.Same.{same_prefix}
use Rattle.nd_decode.specs.Option.{Said}
use Rattle.nd_decode.specs.declared.prefix_info.PrefixInfo.{PrefixInfo}
use Rattle.nd_decode.specs.declared.router_advertisement.RouterAdvertisement.{RouterAdvertisement}
use Rattle.nd_table.specs.DueKept.{NotBefore}
use Rattle.nd_table.specs.Ends.{is_before}
use Rattle.nd_table.specs.Announcements as lifetimes
use Rattle.nd_table.specs.ListingKept as lists
use Rattle.nd_table.specs.Listing.{then_announced}
use Rattle.nd_params.specs.History as parameter_rows
use Rattle.nd_params.specs.ReachableTime.{last_draw, redraw_after}
use Rattle.nd_params.specs.ParamsKept as parameters
use Rattle.nd_params.specs.Params.{redraws}
use Rattle.nd_neighbour.specs.History as neighbour_rows
use Rattle.nd_neighbour.specs.DueKept as neighbour_dates
use Rattle.nd_neighbour.specs.Place.{pushing}
use Rattle.nd_neighbour.specs.TableKept as cache
use Rattle.nd_routers.specs.History as router_rows
use Rattle.nd_routers.specs.History.{announcements}
use Rattle.nd_routers.specs.RoutersKept as router_list
use Rattle.nd_routers.specs.Routers.{same}
use Rattle.nd_routers.specs.OnLinkPrefixes as on_link
use Rattle.nd_slaac.specs.History as address_rows
use Rattle.nd_slaac.specs.History.{Lifetimes}
use Rattle.nd_slaac.specs.Due as address_due
use Rattle.nd_slaac.specs.Dates as address_dates
use Rattle.nd_slaac.specs.AddressKept.{Address}
use Rattle.nd_slaac.specs.TableKept as addresses
use Rattle.nd_slaac.specs.State.{is_by_hand, is_known}
use Rattle.nd_slaac.specs.PrefixOption.{is_taken, named_by, lifetimes_of, prefixes_in}
use Rattle.nd_dns.specs.DnsKept as known
use Rattle.nd_dns.specs.AnnouncedNames.{names_told}
use Rattle.nd_dns.specs.AnnouncedServers.{servers_told}
use Rattle.nd_nexthop.specs.History as redirect_rows
use Rattle.nd_nexthop.specs.Choice as choice
use Rattle.nd_chronicle.specs.Start.{Policies, Start, link_local_key}
use Rattle.nd_chronicle.specs.Happening as happenings
use Rattle.nd_chronicle.specs.Happening.{Chronicle, Happening, Passed, Heard, last_moment}
use Rattle.nd_chronicle.specs.Histories.{parameter_history, neighbour_history, router_history, prefix_history, address_history, server_history, name_history, redirect_history, given_or_marked, then_neighbour}
use Rattle.nd_chronicle.specs.LinkLayerAddress.{first_slla}
use Rattle.nd_chronicle.specs.InForce.{base_reachable_time}
use Rattle.nd_chronicle.specs.Generator.{stream_left}
use Rattle.nd_chronicle.specs.OwnAddress.{story_of}
use Rattle.nd_chronicle.specs.Due.{solicited_routers, assigned_at, max_rtr_solicitations, rtr_solicitation_interval}
use Rattle.nd_chronicle.specs.Due as chronicle_due
use Rattle.nd_chronicle.specs.Message.{failing_for, releasing, leaving}
use Rattle.nd_chronicle.specs.RouterAdvertisement.{heard_from, redrawing, with_delay, forming, naming, then_option, then_options, times_out}
use Rattle.nd_chronicle.specs.Told.{Told, items_at, items}
use Rattle.nd_out.specs.declared.out.Out.{Out}
use Rattle.nd_steps.specs.DefaultRouterList.{with_heard, with_left, with_gone, left_told}
use Rattle.nd_steps.specs.GivingWay.{HearsGiver, WayBy, told_of_way, with_router_gone, with_target_gone}
use Rattle.nd_steps.specs.NeighbourCache.{PreparesFor, released_rows}
use Rattle.nd_steps.proofs.Failing.{Fails, fails, with_failed}
use Rattle.nd_steps.proofs.GivingWay.{EndsOnce, GiverPlaced, giver_placed, none_before_giver, stands_failed}
use Rattle.nd_steps.specs.Parameters.{HearsParameters}
use Rattle.nd_steps.specs.OwnAddresses.{Forms}
use Rattle.nd_nexthop.specs.Memo.{is_asked}
use Rattle.nd_slaac.specs.Calls.{keys_in}
use Rattle.nd_steps.specs.DestinationCache.{AsListed, AsStanding, KeepsRoom, MayRemember, Recollects, forms_none, last_before_end}
use Rattle.nd_node.proofs.Recalling.{Recalls, own_by}
use Rattle.nd_node.proofs.Refreshing.{is_known_by, own_refreshed, recalls_refreshed}
use Rattle.nd_steps.specs.SolicitRouters as soliciting
use Rattle.nd_steps.specs.SolicitRouters.{Solicitations, next_solicitation}
use Rattle.nd_steps.specs.Outputs.{at_moment, Tells}
use Rattle.nd_steps.specs.Outputs as told
use Rattle.nd_steps.specs.RouterTables as router_only
use Rattle.nd_steps.specs.RouterTables.{next_advertisement, router_side}
use Rattle.nd_steps.specs.declared.router_tables.RouterTables.{RouterTables}
use Rattle.nd_steps.proofs.RouterSide.{side_stands}
use Rattle.nd_steps.proofs.Quiet.{Quiet}
use Rattle.nd_steps.proofs.Saying.{OneGoes, Others, OverdueByTable, NoneOverdueStill, items_of_both, releasing_is_quiet, releasing_items, released_kept}
use Rattle.nd_node.proofs.Givers.{way_for}
use Rattle.nd_steps.proofs.Telling.{Tells-then}
use Rattle.nd_node.specs.declared.node.Node.{Node}
use Rattle.nd_node.specs.NodeKept.{Stands, next_of}
use Rattle.nd_node.specs.RouterAdvertisement.{advertised, Advertises, TakesAdvertisement}
use Rattle.nd_node.proofs.Turns.{all_later, addresses_before, neighbours_before, solicitation_before, advertisement_before, redraw_before}

-- laws of the own addresses
abbrev pub AddressesOverdue : Type 0
AddressesOverdue = (transmits : ℕ) (table : List Address) (history : List address_rows.Row) (now : ℕ) → addresses.Stands table history → address_dates.NoneBefore table now ↔ address_due.NoneOverdue transmits history now

abbrev pub AddressesStill : Type 0
AddressesStill = (transmits : ℕ) (history : List address_rows.Row) (now key : ℕ) (kind : address_rows.RowKind) → address_due.NoneOverdue transmits history now → address_due.NoneOverdue transmits ((now, key, kind) ∷ history) now

-- ---- what the prefix options leave as it was

module _ (transmits now : ℕ) (still : AddressesStill) where
  record Beside (c d : Chronicle) : Type 0 where
    parameters : parameter_history d ≡ parameter_history c
    neighbours : neighbour_history d ≡ neighbour_history c
    routers : router_history d ≡ router_history c
    prefixes : prefix_history d ≡ prefix_history c
    servers : server_history d ≡ server_history c
    names : name_history d ≡ name_history c
    redirects : redirect_history d ≡ redirect_history c
    solicited : solicited_routers d ≡ solicited_routers c
    router : (start : Start) → router_side start d ≡ router_side start c
    assigned : (key : ℕ) → assigned_at key (address_history d) ≡ assigned_at key (address_history c)
    in_time : address_due.NoneOverdue transmits (address_history c) now → address_due.NoneOverdue transmits (address_history d) now
    last : ((at : ℕ) → last_moment at c ≡ now) → (at : ℕ) → last_moment at d ≡ now
    told : items d ≡ items c

  beside_same : (c : Chronicle) → Beside c c
  beside_same c = record {
    parameters = refl;
    neighbours = refl;
    routers = refl;
    prefixes = refl;
    servers = refl;
    names = refl;
    redirects = refl;
    solicited = refl;
    router = λ start. refl;
    assigned = λ key. refl;
    in_time = λ h. h;
    last = λ h. h;
    told = refl;
  }

  beside_then : {c d e : Chronicle} → Beside c d → Beside d e → Beside c e
  beside_then x y = record {
    parameters = y.parameters ∙ x.parameters;
    neighbours = y.neighbours ∙ x.neighbours;
    routers = y.routers ∙ x.routers;
    prefixes = y.prefixes ∙ x.prefixes;
    servers = y.servers ∙ x.servers;
    names = y.names ∙ x.names;
    redirects = y.redirects ∙ x.redirects;
    solicited = y.solicited ∙ x.solicited;
    router = λ start. y.router start ∙ x.router start;
    assigned = λ key. y.assigned key ∙ x.assigned key;
    in_time = λ h. y.in_time (x.in_time h);
    last = λ h. y.last (x.last h);
    told = y.told ∙ x.told;
  }

  delay_beside : (start : Start) (to_all : Bool) (c : Chronicle) → Beside c (with_delay start now to_all c)
  delay_beside start true c = record {
    parameters = refl;
    neighbours = refl;
    routers = refl;
    prefixes = refl;
    servers = refl;
    names = refl;
    redirects = refl;
    solicited = refl;
    router = λ start. refl;
    assigned = λ key. refl;
    in_time = λ h. h;
    last = λ h at. refl;
    told = append-nil (items c);
  }
  delay_beside start false c = beside_same c

  formed_beside : (key delay retrans : ℕ) (lifetimes : Option Lifetimes) (c : Chronicle) → Beside c ((now, happenings.Address key (address_rows.Formed delay retrans lifetimes)) ∷ c)
  formed_beside key delay retrans lifetimes c = record {
    parameters = refl;
    neighbours = refl;
    routers = refl;
    prefixes = refl;
    servers = refl;
    names = refl;
    redirects = refl;
    solicited = refl;
    router = λ start. refl;
    assigned = λ key. refl;
    in_time = λ h. still transmits (address_history c) now key (address_rows.Formed delay retrans lifetimes) h;
    last = λ h at. refl;
    told = append-nil (items c);
  }

  announced_beside : (key : ℕ) (lifetimes : Lifetimes) (c : Chronicle) → Beside c ((now, happenings.Address key (address_rows.Announced lifetimes)) ∷ c)
  announced_beside key lifetimes c = record {
    parameters = refl;
    neighbours = refl;
    routers = refl;
    prefixes = refl;
    servers = refl;
    names = refl;
    redirects = refl;
    solicited = refl;
    router = λ start. refl;
    assigned = λ key. refl;
    in_time = λ h. still transmits (address_history c) now key (address_rows.Announced lifetimes) h;
    last = λ h at. refl;
    told = append-nil (items c);
  }

  module _ (start : Start) (to_all : Bool) where
    forming_beside : (key : ℕ) (lifetimes : Lifetimes) (c : Chronicle) → Beside c (forming start now to_all key lifetimes c)
    forming_beside key lifetimes c = beside_then (delay_beside start to_all c) (formed_beside key _ _ (Some lifetimes) (with_delay start now to_all c))

    either_beside : (b : Bool) (c d e : Chronicle) → Beside c d → Beside c e → Beside c (cond b d e)
    either_beside true c d e x y = x
    either_beside false c d e x y = y

    naming_beside : (hand known : Bool) (info : PrefixInfo) (c : Chronicle) → Beside c (naming start now to_all hand known info c)
    naming_beside true known info c = beside_same c
    naming_beside false true info c = announced_beside (named_by start.mac info) (lifetimes_of info) c
    naming_beside false false info c = either_beside (info.valid_lifetime == 0) c c _ (beside_same c) (forming_beside (named_by start.mac info) (lifetimes_of info) c)

    options_beside : (infos : List PrefixInfo) (c : Chronicle) → Beside c (then_options start now to_all infos c)
    options_beside [] c = beside_same c
    options_beside (info ∷ infos) c =
        let one : Beside c (then_option start now to_all info c) = either_beside (is_taken info) c _ c (naming_beside (is_by_hand (story_of c (named_by start.mac info))) (is_known (story_of c (named_by start.mac info))) info c) (beside_same c) in
        beside_then one (options_beside infos (then_option start now to_all info c))

-- ---- the message itself, and the redraw above it

module _ (start : Start) (now : ℕ) (source destination : Addr) (ra : RouterAdvertisement) (options : List Said) (listed : Bool) where
  abbrev key : ℕ
  key = number_of source.0

  -- the message, of a router that is listed or isn't
  abbrev heard : Chronicle → Chronicle
  heard c = heard_from start now source destination (advertised ra options) listed c

  -- what it says of its sender
  abbrev news : Option (ℕ × neighbour_rows.RowKind)
  news = given_or_marked key (first_slla options) (Some true)

  record Begun (c d : Chronicle) : Type 0 where
    neighbours : neighbour_history d ≡ then_neighbour now news (neighbour_history c)
    routers : router_history d ≡ with_heard now listed key ra.router_lifetime ra.preference (router_history c)
    prefixes : prefix_history d ≡ then_announced now (on_link.prefixes_in options) (prefix_history c)
    addresses : address_history d ≡ address_history c
    servers : server_history d ≡ then_announced now (servers_told options) (server_history c)
    names : name_history d ≡ then_announced now (names_told options) (name_history c)
    redirects : redirect_history d ≡ redirect_history c
    solicited : solicited_routers d ≡ solicited_routers c
    router : (start : Start) → router_side start d ≡ router_side start c
    last : (at : ℕ) → last_moment at d ≡ now
    told : items d ≡ items c ++ items_at (now, Heard source destination (advertised ra options))

begun_by : (start : Start) (now : ℕ) (source destination : Addr) (ra : RouterAdvertisement) (options : List Said) (listed draws : Bool) (c : Chronicle)
    → Begun start now source destination ra options listed c (redrawing start now ra.reachable_time draws (heard start now source destination ra options listed c))
begun_by start now source destination ra options true true c = record {
  neighbours = refl;
  routers = refl;
  prefixes = refl;
  addresses = refl;
  servers = refl;
  names = refl;
  redirects = refl;
  solicited = refl;
  router = λ start. refl;
  last = λ at. refl;
  told = append-nil _;
}
begun_by start now source destination ra options true false c = record {
  neighbours = refl;
  routers = refl;
  prefixes = refl;
  addresses = refl;
  servers = refl;
  names = refl;
  redirects = refl;
  solicited = refl;
  router = λ start. refl;
  last = λ at. refl;
  told = refl;
}
begun_by start now source destination ra options false true c = record {
  neighbours = refl;
  routers = refl;
  prefixes = refl;
  addresses = refl;
  servers = refl;
  names = refl;
  redirects = refl;
  solicited = refl;
  router = λ start. refl;
  last = λ at. refl;
  told = append-nil _ ∙ append-nil _;
}
begun_by start now source destination ra options false false c = record {
  neighbours = refl;
  routers = refl;
  prefixes = refl;
  addresses = refl;
  servers = refl;
  names = refl;
  redirects = refl;
  solicited = refl;
  router = λ start. refl;
  last = λ at. refl;
  told = append-nil _;
}

-- the parameters and the generator are the same whether it is listed or not
module _ (start : Start) (now : ℕ) (base : ℕ) (source destination : Addr) (ra : RouterAdvertisement) (options : List Said) (c : Chronicle) where
  same_parameters : (draws listed : Bool) → parameter_history (redrawing start now base draws ((now, Heard source destination (advertised ra options)) ∷ c))
      ≡ parameter_history (redrawing start now base draws (heard_from start now source destination (advertised ra options) listed c))
  same_parameters true true = refl
  same_parameters true false = refl
  same_parameters false true = refl
  same_parameters false false = refl

  same_stream : (draws listed : Bool) → stream_left start (redrawing start now base draws ((now, Heard source destination (advertised ra options)) ∷ c))
      ≡ stream_left start (redrawing start now base draws (heard_from start now source destination (advertised ra options) listed c))
  same_stream true true = refl
  same_stream true false = refl
  same_stream false true = refl
  same_stream false false = refl

-- ---- a router that is timed out

module _ (now key : ℕ) where
  record Leaves (b : Bool) (c d : Chronicle) : Type 0 where
    parameters : parameter_history d ≡ parameter_history c
    neighbours : neighbour_history d ≡ neighbour_history c
    routers : router_history d ≡ with_left now b key (router_history c)
    prefixes : prefix_history d ≡ prefix_history c
    addresses : address_history d ≡ address_history c
    servers : server_history d ≡ server_history c
    names : name_history d ≡ name_history c
    redirects : redirect_history d ≡ with_gone now b key (redirect_history c)
    solicited : solicited_routers d ≡ solicited_routers c
    router : (start : Start) → router_side start d ≡ router_side start c
    stream : (start : Start) → stream_left start d ≡ stream_left start c
    last : ((at : ℕ) → last_moment at c ≡ now) → (at : ℕ) → last_moment at d ≡ now
    told : items d ≡ items c ++ flat_map items_at (at_moment now (left_told b key))

  leaves_by : (b : Bool) (c : Chronicle) → Leaves b c (leaving now b key c)
  leaves_by true c = record {
    parameters = refl;
    neighbours = refl;
    routers = refl;
    prefixes = refl;
    addresses = refl;
    servers = refl;
    names = refl;
    redirects = refl;
    solicited = refl;
    router = λ start. refl;
    stream = λ start. refl;
    last = λ h at. refl;
    told = ap (λ (l : List (ℕ × Told)). items c ++ l) (sym (append-nil _));
  }
  leaves_by false c = record {
    parameters = refl;
    neighbours = refl;
    routers = refl;
    prefixes = refl;
    addresses = refl;
    servers = refl;
    names = refl;
    redirects = refl;
    solicited = refl;
    router = λ start. refl;
    stream = λ start. refl;
    last = λ h. h;
    told = sym (append-nil (items c));
  }

-- ---- dates

-- where no end has come by the moment, none came before it
settled_before : (now : ℕ) (next : Option ℕ) → is_before now next ≡ true → NotBefore now next
settled_before now None h = tt
settled_before now (Some end) h = grind (arith, h)

-- a redraw comes as late as before, or later
draw_later : (start : Start) (now : ℕ) (base : ℕ) (draws listed : Bool) (source destination : Addr) (ra : RouterAdvertisement) (options : List Said) (c : Chronicle) → now ≤ last_draw (parameter_history c) + redraw_after
    → now ≤ last_draw (parameter_history (redrawing start now base draws (heard_from start now source destination (advertised ra options) listed c))) + redraw_after
draw_later start now base true listed source destination ra options c h = omega arith
draw_later start now base false true source destination ra options c h = h
draw_later start now base false false source destination ra options c h = h

heard_router_by : (start : Start) (now : ℕ) (base : ℕ) (draws listed : Bool) (source destination : Addr) (ra : RouterAdvertisement) (options : List Said) (c : Chronicle)
    → chronicle_due.heard_router (parameter_history (redrawing start now base draws (heard_from start now source destination (advertised ra options) listed c))) ≡ (not (ra.router_lifetime == 0) || chronicle_due.heard_router (parameter_history c))
heard_router_by start now base true true source destination ra options c = refl
heard_router_by start now base true false source destination ra options c = refl
heard_router_by start now base false true source destination ra options c = refl
heard_router_by start now base false false source destination ra options c = refl

-- a router that is heard makes no Router Solicitation due
heard_later : (role : Role) (now : ℕ) (heard : Bool) (s : Solicitations) → NotBefore now (next_solicitation role s) → NotBefore now (next_solicitation role (record s { heard = heard || s.heard }))
heard_later Router now heard s h = tt
heard_later Host now false s h = h
heard_later Host now true s h = none (nat_lt s.sent max_rtr_solicitations)
  where
    none : (few : Bool) → NotBefore now (if few && false then option_map (λ at. at + s.sent * rtr_solicitation_interval) s.assigned else None)
    none true = tt
    none false = tt

-- the rows of announcements don't lie behind their moment
last_announced : {K : Type 0} (now : ℕ) (announced : List (K × ℕ)) (history : List (lifetimes.Row K)) → lifetimes.last_moment history ≤ now → lifetimes.last_moment (then_announced now announced history) ≤ now
last_announced now [] history le = le
last_announced now ((key, lifetime) ∷ announced) history le = last_announced now announced (lifetimes.Announced now key lifetime ∷ history) (omega arith)

-- ---- all tables together

-- what the calls do to the tables of a node
pub record Takes {R A : Type 0} (stream : R → Stream) (old new : Node R A) (before after : List (ℕ × Out A)) (now : ℕ) (source destination : Addr) (ra : RouterAdvertisement) (options : List Said) (listed : Bool) : Type 0 where
  pub role : new.role ≡ old.role
  pub mac : new.mac ≡ old.mac
  pub chosen : new.limits ≡ old.limits
  pub policies : new.policies ≡ old.policies
  pub last : new.last ≡ now
  -- what the generator will answer between a redraw and the first delay
  pub left : Stream
  pub params : HearsParameters old.params new.params (stream old.generator) left now ra options
  pub router : new.router ≡ old.router
  pub solicitations : new.solicitations ≡ record old.solicitations { heard = not (ra.router_lifetime == 0) || old.solicitations.heard }
  pub between : List (ℕ × Out A)
  pub gone : Option ℕ
  pub neighbours : HearsGiver old.policies.speakers old.neighbours.limit now (given_or_marked (number_of source.0) (first_slla options) (Some true)) old.neighbours.entries new.neighbours.entries before between gone
  pub neighbour_limit : new.neighbours.limit ≡ old.neighbours.limit
  pub waiting : new.neighbours.waiting ≡ old.neighbours.waiting
  pub router_limit : new.routers.limit ≡ old.routers.limit
  pub prefix_limit : new.prefixes.limit ≡ old.prefixes.limit
  pub server_limit : new.dns.server_limit ≡ old.dns.server_limit
  pub name_limit : new.dns.name_limit ≡ old.dns.name_limit
  pub room : KeepsRoom old.choice new.choice
  pub left_list : Bool
  pub times_out : (history : List router_rows.RouterRow) → router_list.Stands old.routers history → left_list ≡ ((ra.router_lifetime == 0) && lifetimes.stands same (number_of source.0) (announcements history) now)
  pub routers : (history : List router_rows.RouterRow) → router_list.Stands old.routers history → router_list.Stands new.routers (with_left now left_list (number_of source.0) (with_router_gone now gone (with_heard now listed (number_of source.0) ra.router_lifetime ra.preference history)))
  pub redirects : (history : List redirect_rows.RedirectRow) → choice.Stands old.choice history → choice.Stands new.choice (with_gone now left_list (number_of source.0) (with_target_gone now gone history))
  -- the choice behind the news of the sender, behind the routers, and behind the prefixes
  pub first : choice.Table
  pub second : choice.Table
  pub third : choice.Table
  pub may : MayRemember old.choice first old.neighbours.entries new.neighbours.entries
  pub among : Recollects first second (AsListed first second old.routers new.routers)
  pub linked : Recollects second third (AsStanding now old.prefixes.entries new.prefixes.entries)
  pub redirects_third : third.redirects ≡ second.redirects
  pub redirects_then : new.choice.redirects ≡ third.redirects
  pub own : Bool
  pub own_is : own ≡ forms_none old.addresses.mac (keys_in old.addresses.addresses) (prefixes_in options)
  pub hops : new.choice.memory.hops ≡ (if own && is_asked now third.memory.until then third.memory.hops else [])
  pub until : new.choice.memory.until ≡ last_before_end now new.prefixes.entries
  pub routers_settled : router_list.IsSettled new.routers.entries now
  pub left_is_told : told.happenings after ≡ told.happenings between ++ at_moment now (left_told left_list (number_of source.0))
  pub prefixes : (history : List (lifetimes.Row PrefixValue)) → lifetimes.last_moment history ≤ now → lists.Stands same_prefix old.prefixes.entries history → lists.Stands same_prefix new.prefixes.entries (then_announced now (on_link.prefixes_in options) history)
  pub retrans : ℕ
  pub in_force : retrans ≡ new.params.retrans_timer
  pub to_all : Bool
  pub goes_to_all : to_all ≡ holds multicast_prefix destination.0
  pub forms : (start : Start) (c : Chronicle) → Forms start old.addresses left retrans c → Forms start new.addresses (stream new.generator) retrans (then_options start now to_all (prefixes_in options) c)
  pub dns : (servers : List (lifetimes.Row Addr)) (names : List (lifetimes.Row (List ℕ))) → lifetimes.last_moment servers ≤ now → lifetimes.last_moment names ≤ now → known.Stands old.dns servers names
      → known.Stands new.dns (then_announced now (servers_told options) servers) (then_announced now (names_told options) names)

-- laws of the tables
pub record Laws : Type 0 where
  pub one_goes : OneGoes
  pub neighbours_overdue : OverdueByTable
  pub neighbours_still : NoneOverdueStill
  pub once : EndsOnce
  pub addresses_overdue : AddressesOverdue
  pub addresses_still : AddressesStill

module _ {R A : Type 0} (stream : R → Stream) (old new : Node R A) (before after : List (ℕ × Out A)) (now : ℕ) (source destination : Addr) (ra : RouterAdvertisement) (options : List Said) (listed : Bool)
    (laws : Laws) (settled : now < next_of old) (t : Takes stream old new before after now source destination ra options listed)
    (start : Start) (below : Chronicle) (s : Stands stream start old below) (le : last_moment start.at below ≤ now) where
  abbrev source_key : ℕ
  source_key = number_of source.0

  abbrev of_sender : Option (ℕ × neighbour_rows.RowKind)
  of_sender = given_or_marked source_key (first_slla options) (Some true)

  abbrev c : Chronicle
  c = (now, Passed) ∷ below

  abbrev history : List neighbour_rows.Row
  history = neighbour_history c

  abbrev speakers : Bool
  speakers = old.policies.speakers

  meets : WayBy speakers start.limits.neighbours now of_sender history t.gone
      × ((made : List neighbour_rows.Row) × PreparesFor start.limits.neighbours now of_sender (pushing now t.gone history) made × cache.Stands new.neighbours.entries (then_neighbour now of_sender made))
      × (told.happenings t.between ≡ told.happenings before ++ at_moment now (told_of_way t.gone history ++ released_rows now of_sender (pushing now t.gone history)))
  meets =
      (subst (λ (n : ℕ). HearsGiver speakers n now of_sender old.neighbours.entries new.neighbours.entries before t.between t.gone) s.limits.neighbours t.neighbours).each history s.neighbours

  abbrev made : List neighbour_rows.Row
  made = meets.1.0

  -- the room for the sender, which may be the place of the one that gives way
  place : GiverPlaced start c now of_sender t.gone made
  place = giver_placed start c now speakers of_sender t.gone made laws.one_goes (λ at. refl) meets.0 meets.1.1

  abbrev placed : Chronicle
  placed = place.placed

  others : Others c placed
  others = place.others

  -- the stages of what is added
  abbrev begun : Chronicle
  begun = redrawing start now ra.reachable_time (redraws (base_reachable_time placed) ra.reachable_time) (heard_from start now source destination (advertised ra options) listed placed)

  abbrev failed : Chronicle
  failed = failing_for now t.gone history begun

  abbrev released : Chronicle
  released = releasing now of_sender (neighbour_history placed) failed

  abbrev leaves : Bool
  leaves = times_out start now placed source ra

  abbrev left : Chronicle
  left = leaving now leaves source_key released

  abbrev all : Chronicle
  all = then_options start now (holds multicast_prefix destination.0) (prefixes_in options) left

  message_adds : Begun start now source destination ra options listed placed begun
  message_adds = begun_by start now source destination ra options listed (redraws (base_reachable_time placed) ra.reachable_time) placed

  fails_add : Fails now t.gone history begun failed
  fails_add = fails now t.gone history begun message_adds.last

  frames_add : Quiet failed released
  frames_add = releasing_is_quiet now of_sender (neighbour_history placed) failed fails_add.last

  leaving_adds : Leaves now source_key leaves released left
  leaving_adds = leaves_by now source_key leaves released

  options_add : Beside start.transmits now laws.addresses_still left all
  options_add = options_beside start.transmits now laws.addresses_still start (holds multicast_prefix destination.0) (prefixes_in options) left

  released_last : (at : ℕ) → last_moment at released ≡ now
  released_last at = frames_add.last at ∙ fails_add.last at

  all_last : (at : ℕ) → last_moment at all ≡ now
  all_last = options_add.last (leaving_adds.last released_last)

  leaves_is : t.left_list ≡ leaves
  leaves_is = t.times_out (router_history c) s.routers ∙ ap (λ (h : List router_rows.RouterRow). (ra.router_lifetime == 0) && lifetimes.stands same source_key (announcements h) now) (sym others.routers)

  -- ---- the parameters and the generator

  params_placed : parameters.Stands old.params (parameter_history placed)
  params_placed = subst (λ (h : List parameter_rows.Row). parameters.Stands old.params h) (sym others.parameters) s.params

  generator_placed : stream old.generator ≡ stream_left start placed
  generator_placed = s.generator ∙ sym (others.stream start)

  params_begun : parameters.Stands new.params (parameter_history begun)
  params_begun = subst (λ (h : List parameter_rows.Row). parameters.Stands new.params h)
      (same_parameters start now ra.reachable_time source destination ra options placed (redraws (base_reachable_time placed) ra.reachable_time) listed)
      (t.params.params start placed source destination params_placed generator_placed)

  generator_begun : t.left ≡ stream_left start begun
  generator_begun = t.params.generator start placed source destination params_placed generator_placed
      ∙ same_stream start now ra.reachable_time source destination ra options placed (redraws (base_reachable_time placed) ra.reachable_time) listed

  parameters_are : parameter_history all ≡ parameter_history begun
  parameters_are = options_add.parameters ∙ (leaving_adds.parameters ∙ (frames_add.parameters ∙ fails_add.parameters))

  -- ---- the addresses

  addresses_are : address_history left ≡ address_history c
  addresses_are = leaving_adds.addresses ∙ (frames_add.addresses ∙ (fails_add.addresses ∙ (message_adds.addresses ∙ others.addresses)))

  forms_left : Forms start old.addresses t.left t.retrans left
  forms_left = record {
    addresses = subst (λ (h : List address_rows.Row). addresses.Stands old.addresses.addresses h) (sym addresses_are) s.addresses;
    mac = s.address_mac;
    limit = s.limits.addresses;
    transmits = s.address_transmits;
    generator = generator_begun ∙ sym (leaving_adds.stream start ∙ (frames_add.stream start ∙ fails_add.stream start));
    in_force = t.in_force ∙ (params_begun.retrans_timer ∙ ap (λ (h : List parameter_rows.Row). parameter_rows.retrans_of h) (sym (leaving_adds.parameters ∙ (frames_add.parameters ∙ fails_add.parameters))));
  }

  forms_all : Forms start new.addresses (stream new.generator) t.retrans all
  forms_all = subst (λ (to_all : Bool). Forms start new.addresses (stream new.generator) t.retrans (then_options start now to_all (prefixes_in options) left)) t.goes_to_all (t.forms start left forms_left)

  -- ---- the other tables

  routers_are : router_history all ≡ with_left now t.left_list source_key (with_router_gone now t.gone (with_heard now listed source_key ra.router_lifetime ra.preference (router_history c)))
  routers_are = options_add.routers ∙ (leaving_adds.routers ∙ (ap (λ (x : Bool). with_left now x source_key (router_history released)) (sym leaves_is)
      ∙ ap (λ (h : List router_rows.RouterRow). with_left now t.left_list source_key h) (frames_add.routers ∙ (fails_add.routers
      ∙ ap (λ (h : List router_rows.RouterRow). with_router_gone now t.gone h) (message_adds.routers ∙ ap (λ (h : List router_rows.RouterRow). with_heard now listed source_key ra.router_lifetime ra.preference h) others.routers)))))

  redirects_are : redirect_history all ≡ with_gone now t.left_list source_key (with_target_gone now t.gone (redirect_history c))
  redirects_are = options_add.redirects ∙ (leaving_adds.redirects ∙ (ap (λ (x : Bool). with_gone now x source_key (redirect_history released)) (sym leaves_is)
      ∙ ap (λ (h : List redirect_rows.RedirectRow). with_gone now t.left_list source_key h) (frames_add.redirects ∙ (fails_add.redirects
      ∙ ap (λ (h : List redirect_rows.RedirectRow). with_target_gone now t.gone h) (message_adds.redirects ∙ others.redirects)))))

  neighbours_are : neighbour_history all ≡ with_failed now t.gone (then_neighbour now of_sender made)
  neighbours_are = options_add.neighbours ∙ (leaving_adds.neighbours ∙ (frames_add.neighbours ∙ (fails_add.neighbours
      ∙ ap (λ (h : List neighbour_rows.Row). with_failed now t.gone h) (message_adds.neighbours ∙ ap (λ (h : List neighbour_rows.Row). then_neighbour now of_sender h) place.history))))

  prefixes_are : prefix_history all ≡ then_announced now (on_link.prefixes_in options) (prefix_history c)
  prefixes_are = options_add.prefixes ∙ (leaving_adds.prefixes ∙ (frames_add.prefixes ∙ (fails_add.prefixes ∙ (message_adds.prefixes ∙ ap (λ (h : List (lifetimes.Row PrefixValue)). then_announced now (on_link.prefixes_in options) h) others.prefixes))))

  servers_are : server_history all ≡ then_announced now (servers_told options) (server_history c)
  servers_are = options_add.servers ∙ (leaving_adds.servers ∙ (frames_add.servers ∙ (fails_add.servers ∙ (message_adds.servers ∙ ap (λ (h : List (lifetimes.Row Addr)). then_announced now (servers_told options) h) others.servers))))

  names_are : name_history all ≡ then_announced now (names_told options) (name_history c)
  names_are = options_add.names ∙ (leaving_adds.names ∙ (frames_add.names ∙ (fails_add.names ∙ (message_adds.names ∙ ap (λ (h : List (lifetimes.Row (List ℕ))). then_announced now (names_told options) h) others.names))))

  prefixes_came : lifetimes.last_moment (prefix_history c) ≤ now
  prefixes_came = omega (arith, s.prefixes_by_then, le)

  servers_came : lifetimes.last_moment (server_history c) ≤ now
  servers_came = omega (arith, s.servers_by_then, le)

  names_came : lifetimes.last_moment (name_history c) ≤ now
  names_came = omega (arith, s.names_by_then, le)

  -- ---- Router Solicitations

  heard_is : chronicle_due.heard_router (parameter_history all) ≡ (not (ra.router_lifetime == 0) || chronicle_due.heard_router (parameter_history c))
  heard_is = ap (λ (h : List parameter_rows.Row). chronicle_due.heard_router h) parameters_are
      ∙ (heard_router_by start now ra.reachable_time (redraws (base_reachable_time placed) ra.reachable_time) listed source destination ra options placed
      ∙ ap (λ (h : List parameter_rows.Row). not (ra.router_lifetime == 0) || chronicle_due.heard_router h) others.parameters)

  solicitations_stand : soliciting.Stands start new.solicitations all
  solicitations_stand = record {
    assigned = ap (λ (x : Solicitations). x.assigned) t.solicitations ∙ (s.solicitations.assigned
        ∙ sym (options_add.assigned (link_local_key start) ∙ ap (λ (h : List address_rows.Row). assigned_at (link_local_key start) h) addresses_are));
    sent = ap (λ (x : Solicitations). x.sent) t.solicitations ∙ (s.solicitations.sent ∙ sym (options_add.solicited ∙ (leaving_adds.solicited ∙ (frames_add.solicited ∙ (fails_add.solicited ∙ (message_adds.solicited ∙ others.solicited))))));
    heard = ap (λ (x : Solicitations). x.heard) t.solicitations ∙ (ap (λ (x : Bool). not (ra.router_lifetime == 0) || x) s.solicitations.heard ∙ sym heard_is);
  }

  -- ---- what only a router has

  router_stands : router_only.Stands start new.router all
  router_stands = subst (λ (tables : RouterTables A). router_only.Stands start tables all) (sym t.router) (side_stands start old.router c all
      (options_add.router start ∙ (leaving_adds.router start ∙ (frames_add.router start ∙ (fails_add.router start ∙ (message_adds.router start ∙ others.router start))))) (side_stands start old.router below c refl s.router))

  -- ---- nothing is due in the past

  not_past : now ≤ next_of old
  not_past = omega (arith, settled)

  addresses_in_time : address_dates.NoneBefore new.addresses.addresses now
  addresses_in_time =
      (laws.addresses_overdue start.transmits new.addresses.addresses (address_history all) now forms_all.addresses).1
      (options_add.in_time (subst (λ (h : List address_rows.Row). address_due.NoneOverdue start.transmits h now) (sym addresses_are) ((laws.addresses_overdue start.transmits old.addresses.addresses (address_history c) now s.addresses).0 (addresses_before old now not_past))))

  neighbours_in_time : neighbour_dates.NoneBefore new.neighbours.entries now
  neighbours_in_time =
      none_before_giver laws.neighbours_overdue laws.neighbours_still laws.one_goes start.limits.neighbours now of_sender t.gone old.neighbours.entries new.neighbours.entries history made s.neighbours meets.1.1 meets.1.2
      (neighbours_before old now not_past)

  draws_in_time : now ≤ new.params.drawn_at + redraw_after
  draws_in_time =
      let later = draw_later start now ra.reachable_time (redraws (base_reachable_time placed) ra.reachable_time) listed source destination ra options placed
      (omega (arith, redraw_before old now not_past, params_placed.drawn_at)) in
      omega (arith, later, params_begun.drawn_at)

  solicits_in_time : NotBefore now (next_solicitation new.role new.solicitations)
  solicits_in_time = rw (t.role, t.solicitations) (heard_later old.role now (not (ra.router_lifetime == 0)) old.solicitations (solicitation_before old now not_past))

  advertises_in_time : NotBefore now (next_advertisement new.role new.router)
  advertises_in_time = rw (t.role, t.router) (advertisement_before old now not_past)

  in_time : now ≤ next_of new
  in_time =
      all_later new now (settled_before now (router_list.next_end new.routers.entries) t.routers_settled) addresses_in_time neighbours_in_time solicits_in_time advertises_in_time draws_in_time

  -- ---- what is reported

  items_begun : items begun ≡ items ((now, Heard source destination (advertised ra options)) ∷ c)
  items_begun = message_adds.told ∙ ap (λ (x : List (ℕ × Told)). x ++ items_at (now, Heard source destination (advertised ra options))) others.told

  tells_released : Tells ((now, Heard source destination (advertised ra options)) ∷ c) released before t.between
  tells_released =
      let heard : Chronicle = (now, Heard source destination (advertised ra options)) ∷ c in
      let way : List Happening = told_of_way t.gone history in
      let rest : List Happening = released_rows now of_sender (neighbour_history placed) in
      let kept : rest ≡ released_rows now of_sender (pushing now t.gone history) =
      ap (λ (h : List neighbour_rows.Row). released_rows now of_sender h) place.history ∙ released_kept start.limits.neighbours now of_sender (pushing now t.gone history) made meets.1.1 in
      record {
        newer = at_moment now (way ++ rest);
        told = releasing_items now of_sender (neighbour_history placed) failed
            ∙ (ap (λ (x : List (ℕ × Told)). x ++ flat_map items_at (at_moment now rest)) (fails_add.told ∙ ap (λ (x : List (ℕ × Told)). x ++ flat_map items_at (at_moment now way)) items_begun)
            ∙ (append_assoc (items heard) (flat_map items_at (at_moment now way)) (flat_map items_at (at_moment now rest))
            ∙ ap (λ (x : List (ℕ × Told)). items heard ++ x) (sym (items_of_both now way rest))));
        outs = meets.2 ∙ ap (λ (l : List Happening). told.happenings before ++ at_moment now (way ++ l)) (sym kept);
      }

  tells_left : Tells released all t.between after
  tells_left = record {
    newer = at_moment now (left_told t.left_list source_key);
    told = options_add.told ∙ (leaving_adds.told ∙ ap (λ (x : Bool). items released ++ flat_map items_at (at_moment now (left_told x source_key))) (sym leaves_is));
    outs = t.left_is_told;
  }

  -- ---- what is remembered

  recalls : Recalls now new
  recalls =
      recalls_refreshed old new old.last now (omega (arith, s.last, le)) s.memo t.first t.second t.third t.own t.may t.among t.linked t.redirects_third t.redirects_then t.hops t.until history s.neighbours
      (λ mine. own_by old.addresses.addresses new.addresses.addresses (address_history c) (address_history all) s.addresses forms_all.addresses
      (own_refreshed start now (holds multicast_prefix destination.0) c left old.addresses.mac old.addresses.addresses (prefixes_in options) s.address_mac
      (λ key. is_known_by key old.addresses.addresses (address_history c) s.addresses) addresses_are (sym t.own_is ∙ mine)))

  -- ---- the node stands for the chronicle with all of it

  stands_all : Stands stream start new all
  stands_all = record {
    role = t.role ∙ s.role;
    mac = t.mac ∙ s.mac;
    chosen = t.chosen ∙ s.chosen;
    policies = t.policies ∙ s.policies;
    address_mac = forms_all.mac;
    address_transmits = forms_all.transmits;
    limits = record {
      neighbours = t.neighbour_limit ∙ s.limits.neighbours;
      routers = t.router_limit ∙ s.limits.routers;
      prefixes = t.prefix_limit ∙ s.limits.prefixes;
      addresses = forms_all.limit;
      servers = t.server_limit ∙ s.limits.servers;
      names = t.name_limit ∙ s.limits.names;
      redirects = t.room.redirects ∙ s.limits.redirects;
      destinations = t.room.destinations ∙ s.limits.destinations;
      waiting = t.waiting ∙ s.limits.waiting;
    };
    params = subst (λ (h : List parameter_rows.Row). parameters.Stands new.params h) (sym parameters_are) params_begun;
    routers = subst (λ (h : List router_rows.RouterRow). router_list.Stands new.routers h) (sym routers_are) (t.routers (router_history c) s.routers);
    prefixes = subst (λ (h : List (lifetimes.Row PrefixValue)). lists.Stands same_prefix new.prefixes.entries h) (sym prefixes_are) (t.prefixes (prefix_history c) prefixes_came s.prefixes);
    addresses = forms_all.addresses;
    neighbours = subst (λ (h : List neighbour_rows.Row). cache.Stands new.neighbours.entries h) (sym neighbours_are)
        (stands_failed laws.once laws.one_goes speakers start.limits.neighbours now of_sender t.gone new.neighbours.entries history made meets.0 meets.1.1 meets.1.2);
    dns = subst (λ (h : List (lifetimes.Row Addr)). known.Stands new.dns h (name_history all)) (sym servers_are)
        (subst (λ (h : List (lifetimes.Row (List ℕ))). known.Stands new.dns (then_announced now (servers_told options) (server_history c)) h) (sym names_are) (t.dns (server_history c) (name_history c) servers_came names_came s.dns));
    redirects = subst (λ (h : List redirect_rows.RedirectRow). choice.Stands new.choice h) (sym redirects_are) (t.redirects (redirect_history c) s.redirects);
    solicitations = solicitations_stand;
    router = router_stands;
    generator = forms_all.generator;
    last = t.last ∙ sym (all_last start.at);
    prefixes_by_then = rw (prefixes_are, all_last start.at) (last_announced now (on_link.prefixes_in options) (prefix_history c) prefixes_came);
    servers_by_then = rw (servers_are, all_last start.at) (last_announced now (servers_told options) (server_history c) servers_came);
    names_by_then = rw (names_are, all_last start.at) (last_announced now (names_told options) (name_history c) names_came);
    memo = rw t.last recalls;
    in_time = rw (all_last start.at) in_time;
  }

  advertises : Advertises stream new before after now source destination ra options listed start c
  advertises = record {
    gone = t.gone;
    placed = placed;
    room = record { way = way_for start c now speakers of_sender t.gone (ap (λ (p : Policies). p.speakers) s.policies) meets.0; place = place.place };
    stands = stands_all;
    moment = all_last start.at;
    tells = Tells-then ((now, Heard source destination (advertised ra options)) ∷ c) released all before t.between after tells_released tells_left;
  }

pub takes_advertisement : {R A : Type 0} (stream : R → Stream) (old new : Node R A) (before after : List (ℕ × Out A)) (now : ℕ) (source destination : Addr) (ra : RouterAdvertisement) (options : List Said) (listed : Bool)
    → Laws → now < next_of old → Takes stream old new before after now source destination ra options listed → TakesAdvertisement stream old new before after now source destination ra options listed
takes_advertisement stream old new before after now source destination ra options listed laws settled t =
    record { each = λ start below s le. advertises stream old new before after now source destination ra options listed laws settled t start below s le }
