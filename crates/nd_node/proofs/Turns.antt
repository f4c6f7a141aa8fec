-- What a turn does to the chronicle that a node stands for.
use Rattle.std.proofs.Common.{◌≡◌, ℕ, ◌+◌, ◌*◌, ◌<◌, ◌≤◌, Bool, true, false, List, ◌∷◌, Option, Some, None, refl, sym, ◌∙◌, ap, subst, arith}
use Rattle.std.specs.Prelude.{◌==◌, ◌≢◌, nat_lt, not, ◌&&◌, if◌then◌else◌}
use Rattle.std.specs.Option.{option_map}
use Rattle.rand_core.specs.Stream.{Stream, next_u32}
use Rattle.nd_addr.specs.declared.role.Role.{Role}
use Rattle.nd_table.specs.DueKept.{NotBefore}
use Rattle.nd_neighbour.specs.History as neighbour_rows
use Rattle.nd_neighbour.specs.TableKept as neighbours
use Rattle.nd_neighbour.specs.Due as neighbours_due
use Rattle.nd_neighbour.specs.DueKept as kept_neighbours_due
use Rattle.nd_slaac.specs.History as address_rows
use Rattle.nd_slaac.specs.TableKept as addresses
use Rattle.nd_slaac.specs.Due as addresses_due
use Rattle.nd_slaac.specs.Dates as address_dates
use Rattle.nd_routers.specs.History as router_rows
use Rattle.nd_routers.specs.Due as routers_due
use Rattle.nd_routers.specs.RoutersKept as routers
use Rattle.nd_params.specs.History as parameter_rows
use Rattle.nd_params.specs.ReachableTime.{redraw_after}
use Rattle.nd_params.specs.ParamsKept as parameters
use Rattle.nd_nexthop.specs.History as redirect_rows
use Rattle.nd_advertiser.proofs.ByRows.{settings_are}
use Rattle.nd_advertiser.specs.Advertising.{advertised_by}
use Rattle.nd_advertiser.specs.Config.{Settings}
use Rattle.nd_advertiser.specs.History as advertising_rows
use Rattle.nd_advertiser.specs.Overdue.{IsOf}
use Rattle.nd_advertiser.specs.Table as advertising
use Rattle.nd_nexthop.specs.Choice as choice
use Rattle.nd_chronicle.specs.Start.{Start, link_local_key, is_host}
use Rattle.nd_chronicle.specs.Advertising.{advertising_by}
use Rattle.nd_chronicle.specs.Happening.{Advertised, Chronicle, Drew, ForInterval, Neighbour, Address, LeftRouter, Unreachable, last_moment}
use Rattle.nd_chronicle.specs.Histories.{advertising_history, parameter_history, neighbour_history, router_history, prefix_history, address_history, server_history, name_history, redirect_history, then_failed, then_target}
use Rattle.nd_chronicle.specs.InForce.{next_redraw}
use Rattle.nd_chronicle.specs.Generator.{stream_left, interval_drawn, reachable_drawn}
use Rattle.nd_chronicle.specs.Due.{RouterEnds, AddressFalls, NeighbourFalls, RoutersSolicited, RouterAdvertises, Redraws, comes, max_rtr_solicitations, router_solicitation_date, rtr_solicitation_interval, solicited_routers, assigned_at}
use Rattle.nd_steps.specs.SolicitRouters as solicitations
use Rattle.nd_steps.specs.SolicitRouters.{Solicitations, next_solicitation, after_address}
use Rattle.nd_steps.specs.RouterTables as router_only
use Rattle.nd_steps.specs.RouterTables.{Advertises, NotesAddress, next_advertisement}
use Rattle.nd_steps.specs.DefaultRouterList.{Notes, with_failure, with_lost_target}
use Rattle.nd_nexthop.specs.Memo.{forgotten}
use Rattle.nd_neighbour.specs.Story.{mac_of}
use Rattle.nd_slaac.specs.declared.destination.Counted.TheVariants.{Own}
use Rattle.nd_slaac.specs.Destination.{counts}
use Rattle.nd_steps.specs.DestinationCache.{KeepsRoom, Remembering, ends}
use Rattle.nd_steps.proofs.Resolved.{gains_as_resolved}
use Rattle.nd_node.proofs.Recalling.{Recalls, forgets_all, keeps, own_by, own_row, redirects_stand}
use Rattle.nd_steps.proofs.RouterSide.{advertisement_date, later_row, side_stands, stands_address, stands_row}
use Rattle.nd_steps.proofs.Quiet.{sent_is_quiet, losing_is_quiet}
use Rattle.nd_node.specs.declared.node.Node.{Node}
use Rattle.nd_node.specs.Moments.{earlier}
use Rattle.nd_node.specs.Node.{NextDue}
use Rattle.nd_node.specs.NodeKept.{Stands, next_of}
use Rattle.nd_node.proofs.Moments.{no_router, no_address, no_neighbour, none_at, before_second, none_before, before_routers, before_addresses, before_neighbours, before_solicitation, before_advertisement, before_redraw, at_redraw, earlier_at}
use Rattle.nd_node.proofs.Quiet.{stands_quiet}

-- ---- the dates of a node

module _ {R A : Type 0} (node : Node R A) (now : ℕ) where
  -- nothing is due at a node before the moment
  pub all_later : routers.NoneBefore node.routers.entries now → address_dates.NoneBefore node.addresses.addresses now → kept_neighbours_due.NoneBefore node.neighbours.entries now
      → NotBefore now (next_solicitation node.role node.solicitations) → NotBefore now (next_advertisement node.role node.router) → now ≤ node.params.drawn_at + redraw_after → now ≤ next_of node
  all_later r a n s v d =
      none_before now (routers.next_end node.routers.entries) (address_dates.next_in node.addresses.addresses) (kept_neighbours_due.next_in node.neighbours.entries)
      (next_solicitation node.role node.solicitations) (next_advertisement node.role node.router) (node.params.drawn_at + redraw_after) r a n s v d

-- the dates of a node at which something is due, or of which nothing was due before
module _ {R A : Type 0} (node : Node R A) (now : ℕ) (h : now ≤ next_of node) where
  pub routers_before : routers.NoneBefore node.routers.entries now
  routers_before = before_routers now (routers.next_end node.routers.entries) (address_dates.next_in node.addresses.addresses) (kept_neighbours_due.next_in node.neighbours.entries) (next_solicitation node.role node.solicitations) (next_advertisement node.role node.router) (node.params.drawn_at + redraw_after) h

  pub addresses_before : address_dates.NoneBefore node.addresses.addresses now
  addresses_before = before_addresses now (routers.next_end node.routers.entries) (address_dates.next_in node.addresses.addresses) (kept_neighbours_due.next_in node.neighbours.entries) (next_solicitation node.role node.solicitations) (next_advertisement node.role node.router) (node.params.drawn_at + redraw_after) h

  pub neighbours_before : kept_neighbours_due.NoneBefore node.neighbours.entries now
  neighbours_before = before_neighbours now (routers.next_end node.routers.entries) (address_dates.next_in node.addresses.addresses) (kept_neighbours_due.next_in node.neighbours.entries) (next_solicitation node.role node.solicitations) (next_advertisement node.role node.router) (node.params.drawn_at + redraw_after) h

  pub solicitation_before : NotBefore now (next_solicitation node.role node.solicitations)
  solicitation_before = before_solicitation now (routers.next_end node.routers.entries) (address_dates.next_in node.addresses.addresses) (kept_neighbours_due.next_in node.neighbours.entries) (next_solicitation node.role node.solicitations) (next_advertisement node.role node.router) (node.params.drawn_at + redraw_after) h

  pub advertisement_before : NotBefore now (next_advertisement node.role node.router)
  advertisement_before = before_advertisement now (routers.next_end node.routers.entries) (address_dates.next_in node.addresses.addresses) (kept_neighbours_due.next_in node.neighbours.entries) (next_solicitation node.role node.solicitations) (next_advertisement node.role node.router) (node.params.drawn_at + redraw_after) h

  pub redraw_before : now ≤ node.params.drawn_at + redraw_after
  redraw_before = before_redraw now (routers.next_end node.routers.entries) (address_dates.next_in node.addresses.addresses) (kept_neighbours_due.next_in node.neighbours.entries) (next_solicitation node.role node.solicitations) (next_advertisement node.role node.router) (node.params.drawn_at + redraw_after) h

-- ---- Router Solicitations

-- the date of the next one is that of the chronicle
abbrev date_by : Role → Option ℕ → ℕ → Bool → Option ℕ
date_by role assigned sent heard = next_solicitation role (record { assigned = assigned; sent = sent; heard = heard })

pub solicitation_date : {R A : Type 0} (stream : R → Stream) (start : Start) (node : Node R A) (c : Chronicle) → Stands stream start node c → next_solicitation node.role node.solicitations ≡ router_solicitation_date start c
solicitation_date stream start node c s =
    ap (λ r. date_by r node.solicitations.assigned node.solicitations.sent node.solicitations.heard) s.role
    ∙ (ap (λ a. date_by start.role a node.solicitations.sent node.solicitations.heard) s.solicitations.assigned
    ∙ (ap (λ n. date_by start.role (assigned_at (link_local_key start) (address_history c)) n node.solicitations.heard) s.solicitations.sent
    ∙ ap (λ h. date_by start.role (assigned_at (link_local_key start) (address_history c)) (solicited_routers c) h) s.solicitations.heard))

-- what is due for an address makes none due in the past
pub addressed_later : (role : Role) (link_local now : ℕ) (falls : addresses_due.Falls) (s : Solicitations) → NotBefore now (next_solicitation role s) → NotBefore now (next_solicitation role (after_address link_local now falls s))
addressed_later role link_local now (addresses_due.Ends key) s h = h
addressed_later role link_local now (addresses_due.Solicits key) s h = h
addressed_later role link_local now (addresses_due.Assigns key) s h = either (key == link_local)
  where
    from_now : (due : Bool) → NotBefore now (if due then Some (now + s.sent * rtr_solicitation_interval) else None)
    from_now false = tt
    from_now true = omega arith

    either : (b : Bool) → NotBefore now (next_solicitation role (if b then record s { assigned = Some now } else s))
    either true = from_now (is_host role && nat_lt s.sent max_rtr_solicitations && not s.heard)
    either false = h

-- and is kept as the chronicle has it
pub addressed_stands : (start : Start) (at : ℕ) (falls : addresses_due.Falls) (s : Solicitations) (c : Chronicle) → solicitations.Stands start s c
    → solicitations.Stands start (after_address (link_local_key start) at falls s) ((at, Address (addresses_due.key_in falls) (addresses_due.happens falls)) ∷ c)
addressed_stands start at (addresses_due.Ends key) s c h = record { assigned = h.assigned; sent = h.sent; heard = h.heard }
addressed_stands start at (addresses_due.Solicits key) s c h = record { assigned = h.assigned; sent = h.sent; heard = h.heard }
addressed_stands start at (addresses_due.Assigns key) s c h = either (key == link_local_key start) refl
  where
    either : (b : Bool) → key == link_local_key start ≡ b
        → solicitations.Stands start (if b then record s { assigned = Some at } else s) ((at, Address key address_rows.Assigned) ∷ c)
    either true e = record { assigned = cc; sent = h.sent; heard = h.heard }
    either false e = record { assigned = cc; sent = h.sent; heard = h.heard }

-- the next solicitation comes an interval later
date_later : (b c : Bool) (assigned : Option ℕ) (sent now : ℕ) → (if c then option_map (λ at. at + sent * rtr_solicitation_interval) assigned else None) ≡ Some now
    → NotBefore now (if b then option_map (λ at. at + (sent + 1) * rtr_solicitation_interval) assigned else None)
date_later b false assigned sent now e = let never : ⊥ = cc in absurd never
date_later b true None sent now e = let never : ⊥ = cc in absurd never
date_later false true (Some at) sent now e = tt
date_later true true (Some at) sent now e = let is : at + sent * rtr_solicitation_interval ≡ now = cc in omega (arith, is)

-- ---- a row

-- what no turn changes
pub record Turns {R A : Type 0} (old new : Node R A) (at : ℕ) : Type 0 where
  pub role : new.role ≡ old.role
  pub mac : new.mac ≡ old.mac
  pub chosen : new.limits ≡ old.limits
  pub policies : new.policies ≡ old.policies
  pub prefixes : new.prefixes ≡ old.prefixes
  pub dns : new.dns ≡ old.dns
  pub address_mac : new.addresses.mac ≡ old.addresses.mac
  pub address_transmits : new.addresses.transmits ≡ old.addresses.transmits
  pub address_limit : new.addresses.limit ≡ old.addresses.limit
  pub neighbour_limit : new.neighbours.limit ≡ old.neighbours.limit
  pub waiting : new.neighbours.waiting ≡ old.neighbours.waiting
  pub router_limit : new.routers.limit ≡ old.routers.limit
  pub room : KeepsRoom old.choice new.choice
  pub last : new.last ≡ at

module _ {R A : Type 0} (stream : R → Stream) (start : Start) (old new : Node R A) (c : Chronicle) (now : ℕ) (s : Stands stream start old c) (is : now ≡ next_of old) (turns : Turns old new now) where
  not_past : now ≤ next_of old
  not_past = omega (arith, is)

  came : last_moment start.at c ≤ now
  came = omega (arith, is, s.in_time)

  -- the tables stand for one more row that tells nothing of prefixes, servers and names
  then_row : (d : Chronicle) → last_moment start.at d ≡ now → prefix_history d ≡ prefix_history c → server_history d ≡ server_history c → name_history d ≡ name_history c
      → parameters.Stands new.params (parameter_history d) → routers.Stands new.routers (router_history d) → addresses.Stands new.addresses.addresses (address_history d)
      → neighbours.Stands new.neighbours.entries (neighbour_history d) → choice.Stands new.choice (redirect_history d) → solicitations.Stands start new.solicitations d → router_only.Stands start new.router d
      → stream new.generator ≡ stream_left start d → Recalls now new → now ≤ next_of new → Stands stream start new d
  then_row d at p v n params routers' addresses' neighbours' redirects' solicitations' router' generator' recalls later = record {
    role = turns.role ∙ s.role;
    mac = turns.mac ∙ s.mac;
    chosen = turns.chosen ∙ s.chosen;
    policies = turns.policies ∙ s.policies;
    address_mac = turns.address_mac ∙ s.address_mac;
    address_transmits = turns.address_transmits ∙ s.address_transmits;
    limits = record {
      neighbours = turns.neighbour_limit ∙ s.limits.neighbours;
      routers = turns.router_limit ∙ s.limits.routers;
      prefixes = rw turns.prefixes s.limits.prefixes;
      addresses = turns.address_limit ∙ s.limits.addresses;
      servers = rw turns.dns s.limits.servers;
      names = rw turns.dns s.limits.names;
      redirects = turns.room.redirects ∙ s.limits.redirects;
      destinations = turns.room.destinations ∙ s.limits.destinations;
      waiting = turns.waiting ∙ s.limits.waiting;
    };
    params = params;
    routers = routers';
    prefixes = rw (turns.prefixes, p) s.prefixes;
    addresses = addresses';
    neighbours = neighbours';
    dns = rw (turns.dns, v, n) s.dns;
    redirects = redirects';
    solicitations = solicitations';
    router = router';
    generator = generator';
    last = turns.last ∙ sym at;
    prefixes_by_then = rw (p, at) (omega (arith, s.prefixes_by_then, came));
    servers_by_then = rw (v, at) (omega (arith, s.servers_by_then, came));
    names_by_then = rw (n, at) (omega (arith, s.names_by_then, came));
    memo = rw turns.last recalls;
    in_time = rw at later;
  }

  last_le : old.last ≤ now
  last_le = omega (arith, s.last, came)

  -- what is remembered, where nothing changed that it depends on
  recalls_same : new.choice ≡ old.choice → new.routers ≡ old.routers → new.addresses ≡ old.addresses → new.neighbours ≡ old.neighbours → Recalls now new
  recalls_same choice' routers' addresses' neighbours' =
      keeps old new old.last now last_le s.memo turns.prefixes choice' routers' (rw addresses' (λ key. refl)) (rw neighbours' (λ key. refl))

  -- a router's lifetime ended
  pub router_ended : (key : ℕ) → routers.GainsRow old.routers new.routers (router_rows.LeftList now key) → routers.NoneBefore new.routers.entries now
      → choice.GainsRow old.choice new.choice (redirect_rows.TargetGone now key) → new.choice.memory ≡ forgotten old.choice.memory
      → new.addresses ≡ old.addresses → new.neighbours ≡ old.neighbours → new.params ≡ old.params → new.solicitations ≡ old.solicitations → new.router ≡ old.router → stream new.generator ≡ stream old.generator
      → Stands stream start new (comes start now (RouterEnds key) c)
  router_ended key gains later redirects' forgot addresses' neighbours' params' solicitations' side generator =
      then_row ((now, LeftRouter key) ∷ c) refl refl refl refl
      (rw params' s.params)
      (gains.stands (router_history c) s.routers)
      (rw addresses' s.addresses)
      (rw neighbours' s.neighbours)
      (redirects'.stands (redirect_history c) s.redirects)
      (rw solicitations' (record { assigned = s.solicitations.assigned; sent = s.solicitations.sent; heard = s.solicitations.heard }))
      (rw side (side_stands start old.router c ((now, LeftRouter key) ∷ c) refl s.router))
      (generator ∙ s.generator)
      (forgets_all old new old.last now last_le s.memo turns.prefixes forgot)
      (all_later new now later (rw addresses' (addresses_before old now not_past)) (rw neighbours' (neighbours_before old now not_past)) (rw (turns.role, solicitations') (solicitation_before old now not_past))
      (rw (turns.role, side) (advertisement_before old now not_past)) (rw params' (redraw_before old now not_past)))

  -- one of the node's addresses ended, or its detection took a step
  address_row : (falls : addresses_due.Falls) → new.routers ≡ old.routers → new.choice.redirects ≡ old.choice.redirects → Recalls now new
      → addresses.GainsRow old.addresses.addresses new.addresses.addresses (addresses_due.due_row now falls) → address_dates.NoneBefore new.addresses.addresses now
      → new.neighbours ≡ old.neighbours → new.params ≡ old.params → new.solicitations ≡ after_address (link_local_key start) now falls old.solicitations → NotesAddress (link_local_key start) now falls old.router new.router → stream new.generator ≡ stream old.generator
      → Stands stream start new ((now, Address (addresses_due.key_in falls) (addresses_due.happens falls)) ∷ c)
  address_row falls routers' choice' recalls gains later neighbours' params' solicitations' notes generator =
      let side = stands_address start old.role old.router new.router c now falls s.role notes s.router (advertisement_before old now not_past) in
      then_row ((now, Address (addresses_due.key_in falls) (addresses_due.happens falls)) ∷ c) refl refl refl refl
      (rw params' s.params)
      (rw routers' s.routers)
      (gains.stands (address_history c) s.addresses)
      (rw neighbours' s.neighbours)
      (redirects_stand old.choice new.choice (redirect_history c) choice' s.redirects)
      (rw solicitations' (addressed_stands start now falls old.solicitations c s.solicitations))
      side.0
      (generator ∙ s.generator)
      recalls
      (all_later new now (rw routers' (routers_before old now not_past)) later (rw neighbours' (neighbours_before old now not_past))
      (rw (turns.role, solicitations') (addressed_later old.role (link_local_key start) now falls old.solicitations (solicitation_before old now not_past))) (rw turns.role side.1) (rw params' (redraw_before old now not_past)))

  -- a step of a detection leaves the address one of the node's own
  detects : (falls : addresses_due.Falls) → ends falls ≡ false → (history : List address_rows.Row) → (k : ℕ) → counts Own (address_rows.story k (addresses_due.due_row now falls ∷ history)) ≡ counts Own (address_rows.story k history)
  detects (addresses_due.Ends key) e history = let never : ⊥ = cc in absurd never
  detects (addresses_due.Solicits key) e history = own_row now key address_rows.Solicited history refl (λ st. refl) (λ st. refl)
  detects (addresses_due.Assigns key) e history = own_row now key address_rows.Assigned history refl (λ st. refl) (λ st. refl)

  step_recalls : (falls : addresses_due.Falls) → ends falls ≡ false → new.choice ≡ old.choice → new.routers ≡ old.routers → addresses.GainsRow old.addresses.addresses new.addresses.addresses (addresses_due.due_row now falls)
      → new.neighbours ≡ old.neighbours → Recalls now new
  step_recalls falls e choice' routers' gains neighbours' =
      keeps old new old.last now last_le s.memo turns.prefixes choice' routers'
      (own_by old.addresses.addresses new.addresses.addresses (address_history c) (addresses_due.due_row now falls ∷ address_history c) s.addresses (gains.stands (address_history c) s.addresses) (detects falls e (address_history c)))
      (rw neighbours' (λ key. refl))

  pub address_fell : (falls : addresses_due.Falls) → new.routers ≡ old.routers → new.choice ≡ (if ends falls then record old.choice { memory = forgotten old.choice.memory } else old.choice)
      → addresses.GainsRow old.addresses.addresses new.addresses.addresses (addresses_due.due_row now falls) → address_dates.NoneBefore new.addresses.addresses now
      → new.neighbours ≡ old.neighbours → new.params ≡ old.params → new.solicitations ≡ after_address (link_local_key start) now falls old.solicitations → NotesAddress (link_local_key start) now falls old.router new.router → stream new.generator ≡ stream old.generator
      → Stands stream start new (comes start now (AddressFalls falls) c)
  address_fell (addresses_due.Ends key) r ch g l n p sol notes gen = address_row (addresses_due.Ends key) r (ap (λ (t : choice.Table). t.redirects) ch) (forgets_all old new old.last now last_le s.memo turns.prefixes (ap (λ (t : choice.Table). t.memory) ch)) g l n p sol notes gen
  address_fell (addresses_due.Solicits key) r ch g l n p sol notes gen =
      stands_quiet stream start new _ _ (sent_is_quiet now _ _ (λ at. refl)) (address_row (addresses_due.Solicits key) r (ap (λ (t : choice.Table). t.redirects) ch) (step_recalls (addresses_due.Solicits key) refl ch r g n) g l n p sol notes gen)
  address_fell (addresses_due.Assigns key) r ch g l n p sol notes gen = address_row (addresses_due.Assigns key) r (ap (λ (t : choice.Table). t.redirects) ch) (step_recalls (addresses_due.Assigns key) refl ch r g n) g l n p sol notes gen

  -- a row of a neighbour
  neighbour_row : (key : ℕ) (kind : neighbour_rows.RowKind) (mid : routers.Table) → mid.entries ≡ old.routers.entries → new.routers.entries ≡ mid.entries
      → routers.Stands new.routers (then_failed now key kind (router_history c)) → choice.Stands new.choice (then_target now key kind (redirect_history c))
      → neighbours.GainsRow old.neighbours.entries new.neighbours.entries (now, key, kind) → kept_neighbours_due.NoneBefore new.neighbours.entries now
      → Recalls now new → new.addresses ≡ old.addresses → new.params ≡ old.params → new.solicitations ≡ old.solicitations → new.router ≡ old.router → stream new.generator ≡ stream old.generator
      → Stands stream start new ((now, Neighbour key kind) ∷ c)
  neighbour_row key kind mid mid_is entries routers' redirects' gains later recalls addresses' params' solicitations' side generator =
      then_row ((now, Neighbour key kind) ∷ c) refl refl refl refl
      (rw params' s.params)
      routers'
      (rw addresses' s.addresses)
      (gains.stands (neighbour_history c) s.neighbours)
      redirects'
      (rw solicitations' (record { assigned = s.solicitations.assigned; sent = s.solicitations.sent; heard = s.solicitations.heard }))
      (rw side (side_stands start old.router c ((now, Neighbour key kind) ∷ c) refl s.router))
      (generator ∙ s.generator)
      recalls
      (all_later new now (rw (entries, mid_is) (routers_before old now not_past)) (rw addresses' (addresses_before old now not_past)) later
      (rw (turns.role, solicitations') (solicitation_before old now not_past)) (rw (turns.role, side) (advertisement_before old now not_past)) (rw params' (redraw_before old now not_past)))

  -- a neighbour is asked once more, or is gone
  pub neighbour_fell : (falls : neighbours_due.Falls) (mid : routers.Table) (kept : choice.Table) → mid ≡ old.routers → kept ≡ old.choice → Notes now falls mid new.routers kept new.choice → new.routers.entries ≡ mid.entries → Remembering falls kept new.choice mid new.routers
      → new.addresses ≡ old.addresses → neighbours.GainsRow old.neighbours.entries new.neighbours.entries (neighbours_due.due_row now falls) → kept_neighbours_due.NoneBefore new.neighbours.entries now
      → new.params ≡ old.params → new.solicitations ≡ old.solicitations → new.router ≡ old.router → stream new.generator ≡ stream old.generator
      → Stands stream start new (comes start now (NeighbourFalls falls) c)
  neighbour_fell falls mid kept mid_is kept_is notes entries remembers addresses' gains later params' solicitations' side generator = by_kind falls gains remembers (notes.routers (router_history c) (rw mid_is s.routers)) (notes.redirects (redirect_history c) (rw kept_is s.redirects))
    where
      forgot : new.choice.memory ≡ forgotten kept.memory → Recalls now new
      forgot is = forgets_all old new old.last now last_le s.memo turns.prefixes (is ∙ ap (λ (t : choice.Table). forgotten t.memory) kept_is)

      asked : (key : ℕ) (kind : neighbour_rows.RowKind) → neighbour_rows.is_end kind ≡ false → ((st : neighbour_rows.Story) → mac_of ((now, kind) ∷ st) ≡ mac_of st)
          → neighbours.GainsRow old.neighbours.entries new.neighbours.entries (now, key, kind) → (new.choice ≡ kept) × (new.routers ≡ mid) → Recalls now new
      asked key kind goes_on same g m =
          keeps old new old.last now last_le s.memo turns.prefixes (m.0 ∙ kept_is) (m.1 ∙ mid_is) (rw addresses' (λ k. refl))
          (gains_as_resolved now key kind old.neighbours.entries new.neighbours.entries goes_on same g (neighbour_history c) s.neighbours)

      by_kind : (falls : neighbours_due.Falls) → neighbours.GainsRow old.neighbours.entries new.neighbours.entries (neighbours_due.due_row now falls) → Remembering falls kept new.choice mid new.routers
          → routers.Stands new.routers (with_failure now falls (router_history c)) → choice.Stands new.choice (with_lost_target now falls (redirect_history c))
          → Stands stream start new (comes start now (NeighbourFalls falls) c)
      by_kind (neighbours_due.Multicasts key) g m r t =
          stands_quiet stream start new _ _ (sent_is_quiet now _ _ (λ at. refl)) (neighbour_row key neighbour_rows.Solicited mid (ap (λ (x : routers.Table). x.entries) mid_is) entries r t g later (asked key neighbour_rows.Solicited refl (λ st. refl) g m) addresses' params' solicitations' side generator)
      by_kind (neighbours_due.Unicasts key mac) g m r t =
          stands_quiet stream start new _ _ (sent_is_quiet now _ _ (λ at. refl)) (neighbour_row key neighbour_rows.Probed mid (ap (λ (x : routers.Table). x.entries) mid_is) entries r t g later (asked key neighbour_rows.Probed refl (λ st. refl) g m) addresses' params' solicitations' side generator)
      by_kind (neighbours_due.Fails key packets) g m r t =
          stands_quiet stream start new _ _ (losing_is_quiet now Unreachable packets _ (λ at. refl)) (neighbour_row key (neighbour_rows.Forgot neighbour_rows.Failed) mid (ap (λ (x : routers.Table). x.entries) mid_is) entries r t g later (forgot m) addresses' params' solicitations' side generator)
      by_kind (neighbours_due.Ages key) g m r t = neighbour_row key (neighbour_rows.Forgot neighbour_rows.Aged) mid (ap (λ (x : routers.Table). x.entries) mid_is) entries r t g later (forgot m) addresses' params' solicitations' side generator

  -- a Router Advertisement is sent, and the time until the next one is drawn
  pub router_advertised : next_advertisement old.role old.router ≡ Some now → new.routers ≡ old.routers → new.choice ≡ old.choice → new.addresses ≡ old.addresses → new.neighbours ≡ old.neighbours → new.params ≡ old.params
      → new.solicitations ≡ old.solicitations → Advertises now (stream old.generator) (stream new.generator) old.router new.router → Stands stream start new (comes start now RouterAdvertises c)
  router_advertised date routers' choice' addresses' neighbours' params' solicitations' sent =
      let in_force : advertised_by (advertising_history start c) ≡ Some sent.settings = sym (settings_are old.router.advertiser (advertising_history start c) s.router.advertiser) ∙ sent.in_force in
      let drew : interval_drawn sent.settings (stream old.generator) ≡ interval_drawn sent.settings (stream_left start c) = ap (λ (x : Stream). interval_drawn sent.settings x) s.generator in
      let interval = interval_drawn sent.settings (stream_left start c) in
      let row = advertising_rows.Sent now interval in
      let is : IsOf now row = (refl, subst (λ (x : ℕ). 0 < x) drew sent.positive) in
      let below : Chronicle = (now, Advertised interval) ∷ (now, Drew ForInterval interval) ∷ c in
      let side : router_only.Stands start new.router below = stands_row start old.router new.router c below now row is
      (subst (λ (x : ℕ). advertising.GainsRow old.router.advertiser new.router.advertiser (advertising_rows.Sent now x)) drew sent.gains) sent.limit sent.routes refl refl s.router in
      subst (λ (x : Option Settings). Stands stream start new (advertising_by start now x c)) (sym in_force)
      (stands_quiet stream start new _ _ (sent_is_quiet now _ _ (λ at. refl))
      (then_row below refl refl refl refl
      (rw params' s.params)
      (rw routers' s.routers)
      (rw addresses' s.addresses)
      (rw neighbours' s.neighbours)
      (rw choice' s.redirects)
      (rw solicitations' (record { assigned = s.solicitations.assigned; sent = s.solicitations.sent; heard = s.solicitations.heard }))
      side
      (sent.drawn ∙ ap (λ (x : Stream). (next_u32 x).1) s.generator)
      (recalls_same choice' routers' addresses' neighbours')
      (all_later new now (rw routers' (routers_before old now not_past)) (rw addresses' (addresses_before old now not_past)) (rw neighbours' (neighbours_before old now not_past))
      (rw (turns.role, solicitations') (solicitation_before old now not_past))
      (rw turns.role (later_row start old.role old.router new.router c below now row is s.role refl s.router side (advertisement_before old now not_past)))
      (rw params' (redraw_before old now not_past)))))

  -- a Router Solicitation is sent
  pub routers_solicited : next_solicitation old.role old.solicitations ≡ Some now → new.solicitations ≡ record old.solicitations { sent = old.solicitations.sent + 1 } → new.routers ≡ old.routers → new.choice ≡ old.choice
      → new.addresses ≡ old.addresses → new.neighbours ≡ old.neighbours → new.params ≡ old.params → new.router ≡ old.router → stream new.generator ≡ stream old.generator → Stands stream start new (comes start now RoutersSolicited c)
  routers_solicited date solicitations' routers' choice' addresses' neighbours' params' side generator =
      then_row (comes start now RoutersSolicited c) refl refl refl refl
      (rw params' s.params)
      (rw routers' s.routers)
      (rw addresses' s.addresses)
      (rw neighbours' s.neighbours)
      (rw choice' s.redirects)
      (rw solicitations' (record { assigned = s.solicitations.assigned; sent = ap (λ (n : ℕ). n + 1) s.solicitations.sent; heard = s.solicitations.heard }))
      (rw side (side_stands start old.router c (comes start now RoutersSolicited c) refl s.router))
      (generator ∙ s.generator)
      (recalls_same choice' routers' addresses' neighbours')
      (all_later new now (rw routers' (routers_before old now not_past)) (rw addresses' (addresses_before old now not_past)) (rw neighbours' (neighbours_before old now not_past))
      (rw (turns.role, solicitations') (date_later (is_host old.role && nat_lt (old.solicitations.sent + 1) max_rtr_solicitations && not old.solicitations.heard) (is_host old.role && nat_lt old.solicitations.sent max_rtr_solicitations && not old.solicitations.heard) old.solicitations.assigned old.solicitations.sent now date))
      (rw (turns.role, side) (advertisement_before old now not_past)) (rw params' (redraw_before old now not_past)))

  -- ReachableTime is drawn again
  pub redrawn : new.routers ≡ old.routers → new.choice ≡ old.choice → new.addresses ≡ old.addresses → new.neighbours ≡ old.neighbours → new.solicitations ≡ old.solicitations → new.router ≡ old.router
      → parameters.GainsRows old.params new.params (λ history. parameter_rows.Drew now (reachable_drawn old.params.base_reachable_time (stream old.generator)) ∷ history) → new.params.drawn_at ≡ now
      → stream new.generator ≡ (next_u32 (stream old.generator)).1
      → Stands stream start new (comes start now Redraws c)
  redrawn routers' choice' addresses' neighbours' solicitations' side leads drawn_at generator =
      then_row (comes start now Redraws c) refl refl refl refl
      (subst (λ (v : ℕ). parameters.Stands new.params (parameter_rows.Drew now v ∷ parameter_history c)) value_is (leads.stands (parameter_history c) s.params))
      (rw routers' s.routers)
      (rw addresses' s.addresses)
      (rw neighbours' s.neighbours)
      (rw choice' s.redirects)
      (rw solicitations' (record { assigned = s.solicitations.assigned; sent = s.solicitations.sent; heard = s.solicitations.heard }))
      (rw side (side_stands start old.router c (comes start now Redraws c) refl s.router))
      (generator ∙ ap (λ (x : Stream). (next_u32 x).1) s.generator)
      (recalls_same choice' routers' addresses' neighbours')
      (all_later new now (rw routers' (routers_before old now not_past)) (rw addresses' (addresses_before old now not_past)) (rw neighbours' (neighbours_before old now not_past))
      (rw (turns.role, solicitations') (solicitation_before old now not_past)) (rw (turns.role, side) (advertisement_before old now not_past)) (omega (arith, drawn_at)))
    where
      value_is : reachable_drawn old.params.base_reachable_time (stream old.generator) ≡ reachable_drawn (parameter_rows.base_of (parameter_history c)) (stream_left start c)
      value_is = ap (λ (x : Stream). reachable_drawn old.params.base_reachable_time x) s.generator ∙ ap (λ (b : ℕ). reachable_drawn b (stream_left start c)) s.params.base_reachable_time

-- ---- what is due

module _ {R A : Type 0} (stream : R → Stream) (start : Start) (old : Node R A) (c : Chronicle) (now : ℕ) (s : Stands stream start old c) (is : now ≡ next_of old) where
  -- where nothing else is due now, the redraw is
  pub redraw_is_due : (routers.next_end old.routers.entries ≡ Some now → ⊥) → (address_dates.next_in old.addresses.addresses ≡ Some now → ⊥) → (kept_neighbours_due.next_in old.neighbours.entries ≡ Some now → ⊥)
      → (next_solicitation old.role old.solicitations ≡ Some now → ⊥) → (next_advertisement old.role old.router ≡ Some now → ⊥) → next_redraw c ≡ now
  redraw_is_due hr ha hn hs hv =
      let at = at_redraw now (routers.next_end old.routers.entries) (address_dates.next_in old.addresses.addresses) (kept_neighbours_due.next_in old.neighbours.entries) (next_solicitation old.role old.solicitations) (next_advertisement old.role old.router) (old.params.drawn_at + redraw_after) is hr ha hn hs hv in
      omega (arith, at, s.params.drawn_at)

-- before the earliest of the dates nothing is due, and at it something is
pub next_due_at : {R A : Type 0} (stream : R → Stream) (start : Start) (node : Node R A) (c : Chronicle) → Stands stream start node c
    → (r a n : Option ℕ) → r ≡ routers.next_end node.routers.entries → a ≡ address_dates.next_in node.addresses.addresses → n ≡ kept_neighbours_due.next_in node.neighbours.entries
    → routers_due.NextDue (router_history c) r → addresses_due.NextDue node.addresses.transmits (address_history c) a → neighbours_due.NextDue (neighbour_history c) n
    → (next : ℕ) → next ≡ next_of node → NextDue start c next
next_due_at stream start node c s r a n r_is a_is n_is r_due a_due n_due next is = record {
  not_past = rw is s.in_time;
  nothing_before = λ moment lt.
      let date = next_solicitation node.role node.solicitations in
      let advertisement = next_advertisement node.role node.router in
      let redraw = node.params.drawn_at + redraw_after in
      let rest = earlier date (earlier advertisement redraw) in
      let lt1 : moment < earlier r (earlier a (earlier n rest)) = rw (r_is, a_is, n_is) (subst (λ (x : ℕ). moment < x) is lt) in
      let lt2 = before_second moment r (earlier a (earlier n rest)) lt1 in
      let lt3 = before_second moment a (earlier n rest) lt2 in
      let lt4 = before_second moment n rest lt3 in
      let lt5 = before_second moment date (earlier advertisement redraw) lt4 in
      let lt6 : moment < node.params.drawn_at + redraw_after = before_second moment advertisement redraw lt5 in (
        no_router (router_history c) r (earlier a (earlier n rest)) moment r_due lt1,
        subst (λ (k : ℕ). addresses_due.FirstDue k (address_history c) moment None) s.address_transmits (no_address node.addresses.transmits (address_history c) a (earlier n rest) moment a_due lt2),
        no_neighbour (neighbour_history c) n rest moment n_due lt3,
        subst (λ (o : Option ℕ). o ≢ Some moment) (solicitation_date stream start node c s) (none_at moment date (earlier advertisement redraw) lt4),
        subst (λ (o : Option ℕ). o ≢ Some moment) (advertisement_date start node.role node.router c s.role s.router) (none_at moment advertisement redraw lt5),
        λ at. absurd (omega (arith, lt6, at, s.params.drawn_at)),
      );
  something_then = λ none.
      let date = next_solicitation node.role node.solicitations in
      let advertisement = next_advertisement node.role node.router in
      let redraw = node.params.drawn_at + redraw_after in
      let rest = earlier date (earlier advertisement redraw) in
      let at1 : next ≡ earlier r (earlier a (earlier n rest)) = rw (r_is, a_is, n_is) is in
      let at2 = earlier_at next r (earlier a (earlier n rest)) at1 (λ e. let due = subst (λ (o : Option ℕ). routers_due.NextDue (router_history c) o) e r_due in none.0 due.0.0 due.0.1) in
      let at3 = earlier_at next a (earlier n rest) at2 (λ e.
      let due = subst (λ (k : ℕ). addresses_due.NextDue k (address_history c) (Some next)) s.address_transmits (subst (λ (o : Option ℕ). addresses_due.NextDue node.addresses.transmits (address_history c) o) e a_due) in
      none.1 due.0.0 due.0.1) in
      let at4 = earlier_at next n rest at3 (λ e. let due = subst (λ (o : Option ℕ). neighbours_due.NextDue (neighbour_history c) o) e n_due in none.2 due.0.0 due.0.1) in
      let at5 = earlier_at next date (earlier advertisement redraw) at4 (λ e. none.3 (sym (solicitation_date stream start node c s) ∙ e)) in
      let at6 = earlier_at next advertisement redraw at5 (λ e. none.4 (sym (advertisement_date start node.role node.router c s.role s.router) ∙ e)) in
      none.5 (omega (arith, at6, s.params.drawn_at));
}
