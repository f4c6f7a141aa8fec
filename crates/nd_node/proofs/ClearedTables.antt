-- A table that is cleared, and the chronicle that a node stands for.
use Rattle.std.proofs.Common.{◌≡◌, ℕ, ◌<◌, ◌≤◌, List, [], ◌∷◌, ◌++◌, append-nil, append_assoc, map, take, Option, Some, None, refl, sym, ◌∙◌, ap, subst, arith}
use Rattle.std.proofs.lemmas.Grind.{flat_map-append}
use Rattle.std.specs.List.{flat_map}
use Rattle.rand_core.specs.Stream.{Stream}
use Rattle.nd_addr.specs.declared.addr.Addr.{Addr}
use Rattle.nd_addr.specs.Prefix.{PrefixValue}
use Rattle.nd_addr.specs.Same.{same_prefix}
use Rattle.nd_table.specs.declared.lasting.Lasting.{Lasting}
use Rattle.nd_table.specs.Announcements as lifetimes
use Rattle.nd_table.specs.ListingKept as lists
use Rattle.nd_dns.specs.DnsKept as dns
use Rattle.nd_neighbour.specs.EntryKept as neighbour_entries
use Rattle.nd_neighbour.specs.EntryKept.{waiting_in}
use Rattle.nd_neighbour.specs.History as rows
use Rattle.nd_neighbour.specs.Removal.{all_waiting, cleared}
use Rattle.nd_neighbour.specs.TableKept as neighbours
use Rattle.nd_routers.specs.History as router_rows
use Rattle.nd_routers.specs.RoutersKept as routers
use Rattle.nd_routers.specs.RoutersKept.{keys, then_left}
use Rattle.nd_nexthop.specs.History as redirect_rows
use Rattle.nd_nexthop.specs.History.{RedirectRow, destinations, remembered, since, target_left, target_of, unless_ended}
use Rattle.nd_nexthop.specs.Choice as choice
use Rattle.nd_routers.specs.PrefixesKept.{Prefixes}
use Rattle.nd_chronicle.specs.Start.{Limits, Start}
use Rattle.nd_chronicle.specs.Happening.{Chronicle, Happening, Lost, Neighbour, Passed, LeftRouter, ClearedPrefixes, ClearedRedirects, ClearedDns, Forgotten, last_moment}
use Rattle.nd_chronicle.specs.Histories.{parameter_history, neighbour_history, router_history, prefix_history, address_history, server_history, name_history, redirect_history}
use Rattle.nd_chronicle.specs.Generator.{stream_left}
use Rattle.nd_chronicle.specs.Due.{solicited_routers}
use Rattle.nd_chronicle.specs.Packet.{losing}
use Rattle.nd_chronicle.specs.Event as events
use Rattle.nd_chronicle.specs.Event.{all_leaving, clearing}
use Rattle.nd_chronicle.specs.Told.{Told, items_at, items}
use Rattle.nd_out.specs.declared.out.Out.{Out}
use Rattle.nd_steps.specs.Outputs.{happenings}
use Rattle.nd_steps.specs.RouterTables.{router_side}
use Rattle.nd_steps.proofs.Quiet.{losing_is_quiet}
use Rattle.nd_steps.proofs.Telling.{lost_at, lost_items, left_at, numbers}
use Rattle.nd_chronicle.specs.Answer.{Done}
use Rattle.nd_chronicle.proofs.Answering.{clearing_done}
use Rattle.nd_node.specs.declared.node.Node.{Node}
use Rattle.nd_node.specs.EventKept.{AddsEvent}
use Rattle.nd_node.specs.NodeKept.{HasLimits, Stands, next_of}
use Rattle.nd_nexthop.specs.Memo.{forgotten}
use Rattle.nd_steps.specs.DestinationCache.{KeepsRoom, MayRemember, Remembers}
use Rattle.nd_steps.proofs.Remembering.{remembers_later, remembers_nothing}
use Rattle.nd_node.proofs.Recalling.{forgets_all, redirects_stand, room_kept}
use Rattle.nd_node.proofs.Beside.{Beside, Same, beside_neighbour, beside_quiet, beside_then, stands_neighbours}
use Rattle.nd_steps.proofs.RouterSide.{side_stands}
use Rattle.nd_node.proofs.NextHops.{routers_listed}
use Rattle.nd_node.proofs.Standing.{Apart, Still, apart_then, stands_at}
use Rattle.nd_node.proofs.Steps.{passed}
use Rattle.nd_node.proofs.Turns.{addresses_before, neighbours_before}

-- ---- prefixes, redirects, servers and names: nothing is reported

-- a row that concerns these alone, and that isn't reported
record Silent (now : ℕ) (what : Happening) : Type 0 where
  parameters : (c : Chronicle) → parameter_history ((now, what) ∷ c) ≡ parameter_history c
  neighbours : (c : Chronicle) → neighbour_history ((now, what) ∷ c) ≡ neighbour_history c
  routers : (c : Chronicle) → router_history ((now, what) ∷ c) ≡ router_history c
  addresses : (c : Chronicle) → address_history ((now, what) ∷ c) ≡ address_history c
  solicited : (c : Chronicle) → solicited_routers ((now, what) ∷ c) ≡ solicited_routers c
  router : (start : Start) (c : Chronicle) → router_side start ((now, what) ∷ c) ≡ router_side start c
  stream : (start : Start) (c : Chronicle) → stream_left start ((now, what) ∷ c) ≡ stream_left start c
  last : (at : ℕ) (c : Chronicle) → last_moment at ((now, what) ∷ c) ≡ now

module _ {R A : Type 0} (stream : R → Stream) (start : Start) (old : Node R A) (c : Chronicle) (now : ℕ) (what : Happening) (silent : Silent now what) (s : Stands stream start old c)
    (settled : now < next_of old) (ps : Prefixes) (ds : dns.Table) (rs : choice.Table) where
  abbrev later : Chronicle
  later = (now, Passed) ∷ c

  silent_stands : lists.Stands same_prefix ps.entries (prefix_history ((now, what) ∷ later)) → dns.Stands ds (server_history ((now, what) ∷ later)) (name_history ((now, what) ∷ later))
      → choice.Stands rs (redirect_history ((now, what) ∷ later)) → lifetimes.last_moment (prefix_history ((now, what) ∷ later)) ≤ now
      → lifetimes.last_moment (server_history ((now, what) ∷ later)) ≤ now → lifetimes.last_moment (name_history ((now, what) ∷ later)) ≤ now
      → HasLimits start.limits old.neighbours old.routers ps old.addresses ds rs → Remembers now rs old.addresses.addresses ps.entries old.neighbours.entries old.routers → Stands stream start (record old { last = now; prefixes = ps; dns = ds; choice = rs }) ((now, what) ∷ later)
  silent_stands prefixes' dns' redirects' prefixes_by servers_by names_by limits remembers = record {
    role = s.role;
    mac = s.mac;
    chosen = s.chosen;
    policies = s.policies;
    address_mac = s.address_mac;
    address_transmits = s.address_transmits;
    limits = limits;
    params = rw (silent.parameters later) s.params;
    routers = rw (silent.routers later) s.routers;
    prefixes = prefixes';
    addresses = rw (silent.addresses later) s.addresses;
    neighbours = rw (silent.neighbours later) s.neighbours;
    dns = dns';
    redirects = redirects';
    solicitations = record {
      assigned = rw (silent.addresses later) s.solicitations.assigned;
      sent = rw (silent.solicited later) s.solicitations.sent;
      heard = rw (silent.parameters later) s.solicitations.heard;
    };
    router = side_stands start old.router c ((now, what) ∷ later) (silent.router start later) s.router;
    generator = s.generator ∙ sym (silent.stream start later);
    last = sym (silent.last start.at later);
    prefixes_by_then = rw (silent.last start.at later) prefixes_by;
    servers_by_then = rw (silent.last start.at later) servers_by;
    names_by_then = rw (silent.last start.at later) names_by;
    memo = remembers;
    in_time = rw (silent.last start.at later) (omega (arith, settled));
  }

cleared_prefixes : (now : ℕ) → Silent now ClearedPrefixes
cleared_prefixes now = record { parameters = λ c. refl; neighbours = λ c. refl; routers = λ c. refl; addresses = λ c. refl; solicited = λ c. refl; router = λ start' c. refl; stream = λ start c. refl; last = λ at c. refl }

cleared_redirects : (now : ℕ) → Silent now ClearedRedirects
cleared_redirects now = record { parameters = λ c. refl; neighbours = λ c. refl; routers = λ c. refl; addresses = λ c. refl; solicited = λ c. refl; router = λ start' c. refl; stream = λ start c. refl; last = λ at c. refl }

cleared_dns : (now : ℕ) → Silent now ClearedDns
cleared_dns now = record { parameters = λ c. refl; neighbours = λ c. refl; routers = λ c. refl; addresses = λ c. refl; solicited = λ c. refl; router = λ start' c. refl; stream = λ start c. refl; last = λ at c. refl }

-- the limits of a node, with other tables that have them
with_limits : {R A : Type 0} (limits : Limits) (old : Node R A) (ps : Prefixes) (ds : dns.Table) (rs : choice.Table) → HasLimits limits old.neighbours old.routers old.prefixes old.addresses old.dns old.choice
    → ps.limit ≡ old.prefixes.limit → ds.server_limit ≡ old.dns.server_limit → ds.name_limit ≡ old.dns.name_limit → KeepsRoom old.choice rs
    → HasLimits limits old.neighbours old.routers ps old.addresses ds rs
with_limits limits old ps ds rs has prefixes servers names room = record {
  neighbours = has.neighbours;
  routers = has.routers;
  prefixes = prefixes ∙ has.prefixes;
  addresses = has.addresses;
  servers = servers ∙ has.servers;
  names = names ∙ has.names;
  redirects = room.redirects ∙ has.redirects;
  destinations = room.destinations ∙ has.destinations;
  waiting = has.waiting;
}

module _ {R A : Type 0} (stream : R → Stream) (old new : Node R A) (outs : List (ℕ × Out A)) (now : ℕ) (settled : now < next_of old) where
  pub clears_prefixes : (ps : Prefixes) (rs : choice.Table) → ps ≡ record { limit = old.prefixes.limit; entries = [] } → rs ≡ record old.choice { memory = record { limit = old.choice.memory.limit; hops = []; until = None } } → new ≡ record old { last = now; prefixes = ps; choice = rs }
      → ((at : ℕ) (history : List (lifetimes.Row PrefixValue)) → lists.Stands same_prefix ps.entries (lifetimes.Cleared at ∷ history))
      → AddsEvent stream old new outs outs now (events.Clears events.ClearPrefixes) Done
  clears_prefixes ps rs none forgot is stands = record {
    each = λ start c s le.
        let later' : Chronicle = (now, Passed) ∷ c in (
          (now, ClearedPrefixes) ∷ later',
          refl,
          rw is (silent_stands stream start old c now ClearedPrefixes (cleared_prefixes now) s settled ps old.dns rs
              (stands now (prefix_history c)) s.dns (redirects_stand old.choice rs (redirect_history c) (ap (λ (t : choice.Table). t.redirects) forgot) s.redirects) (omega arith) (omega (arith, s.servers_by_then, le)) (omega (arith, s.names_by_then, le))
              (with_limits start.limits old ps old.dns rs s.limits (ap (λ (t : Prefixes). t.limit) none) refl refl (room_kept old.choice rs (ap (λ (t : choice.Table). t.redirects) forgot)))
              (rw (none, forgot) (remembers_nothing now _ old.addresses.addresses [] old.neighbours.entries old.routers refl (λ moment after asked. refl)))),
          record { newer = []; told = append-nil (items later'); outs = sym (append-nil (happenings outs)) },
          refl,
        );
  }

  pub clears_redirects : (rs : choice.Table) → new ≡ record old { last = now; choice = rs } → choice.GainsRow old.choice rs (redirect_rows.Cleared now) → KeepsRoom old.choice rs → rs.memory ≡ forgotten old.choice.memory
      → AddsEvent stream old new outs outs now (events.Clears events.ClearRedirects) Done
  clears_redirects rs is gains room forgot = record {
    each = λ start c s le.
        let later' : Chronicle = (now, Passed) ∷ c in (
          (now, ClearedRedirects) ∷ later',
          refl,
          rw is (silent_stands stream start old c now ClearedRedirects (cleared_redirects now) s settled old.prefixes old.dns rs
              s.prefixes s.dns (gains.stands (redirect_history c) s.redirects)
              (omega (arith, s.prefixes_by_then, le)) (omega (arith, s.servers_by_then, le)) (omega (arith, s.names_by_then, le))
              (with_limits start.limits old old.prefixes old.dns rs s.limits refl refl refl room)
              (forgets_all old (record old { last = now; choice = rs }) old.last now (omega (arith, s.last, le)) s.memo refl forgot)),
          record { newer = []; told = append-nil (items later'); outs = sym (append-nil (happenings outs)) },
          refl,
        );
  }

  pub clears_dns : (ds : dns.Table) → new ≡ record old { last = now; dns = ds } → ds ≡ record { server_limit = old.dns.server_limit; name_limit = old.dns.name_limit; servers = []; names = [] }
      → ((at : ℕ) (servers : List (lifetimes.Row Addr)) (names : List (lifetimes.Row (List ℕ))) → dns.Stands ds (lifetimes.Cleared at ∷ servers) (lifetimes.Cleared at ∷ names))
      → AddsEvent stream old new outs outs now (events.Clears events.ClearDns) Done
  clears_dns ds is none stands = record {
    each = λ start c s le.
        let later' : Chronicle = (now, Passed) ∷ c in (
          (now, ClearedDns) ∷ later',
          refl,
          rw is (silent_stands stream start old c now ClearedDns (cleared_dns now) s settled old.prefixes ds old.choice
              s.prefixes (stands now (server_history c) (name_history c)) s.redirects (omega (arith, s.prefixes_by_then, le)) (omega arith) (omega arith)
              (with_limits start.limits old old.prefixes ds old.choice s.limits refl (ap (λ (t : dns.Table). t.server_limit) none) (ap (λ (t : dns.Table). t.name_limit) none) (room_kept old.choice old.choice refl))
              (remembers_later old.last now old.choice old.addresses.addresses old.prefixes.entries old.neighbours.entries old.routers (omega (arith, s.last, le)) s.memo)),
          record { newer = []; told = append-nil (items later'); outs = sym (append-nil (happenings outs)) },
          refl,
        );
  }

-- ---- the neighbours, and what waits for them

-- packets that wait are reported as lost, one list behind the other
lost_both : (at : ℕ) (xs ys : List (List ℕ)) → lost_at at Forgotten (xs ++ ys) ≡ lost_at at Forgotten xs ++ lost_at at Forgotten ys
lost_both at [] ys = refl
lost_both at (x ∷ xs) ys = ap (λ l. (at, Lost Forgotten x) ∷ l) (lost_both at xs ys)

module _ (start : Start) (now : ℕ) where
  -- one of them goes, and what waits for it is lost
  abbrev going : neighbour_entries.NeighbourEntry → Chronicle → Chronicle
  going n c = losing now Forgotten (waiting_in n.stage) ((now, Neighbour n.key (rows.Forgot rows.Cleared)) ∷ c)

  abbrev forgotten_items : List neighbour_entries.NeighbourEntry → List (ℕ × Told)
  forgotten_items entries = flat_map items_at (lost_at now Forgotten (all_waiting entries))

  clearing_beside : (entries : List neighbour_entries.NeighbourEntry) (c : Chronicle) → Beside c (clearing start now entries c)
  clearing_beside [] c = record { parameters = refl; routers = refl; prefixes = refl; servers = refl; names = refl; redirects = refl; assigned = λ key. refl; solicited = refl; router = λ start'. refl; stream = λ start'. refl }
  clearing_beside (n ∷ entries) c =
      let row : Chronicle = (now, Neighbour n.key (rows.Forgot rows.Cleared)) ∷ c in
      let gone = beside_then c row (going n c) (beside_neighbour now n.key (rows.Forgot rows.Cleared) c (λ h. refl) (λ h. refl))
      (beside_quiet row (going n c) (losing_is_quiet now Forgotten (waiting_in n.stage) row (λ at. refl))) in
      beside_then c (going n c) (clearing start now entries (going n c)) gone (clearing_beside entries (going n c))

  clearing_history : (entries : List neighbour_entries.NeighbourEntry) (c : Chronicle) → neighbour_history (clearing start now entries c) ≡ cleared now entries (neighbour_history c)
  clearing_history [] c = refl
  clearing_history (n ∷ entries) c =
      let row : Chronicle = (now, Neighbour n.key (rows.Forgot rows.Cleared)) ∷ c in
      clearing_history entries (going n c) ∙ ap (λ h. cleared now entries h) (losing_is_quiet now Forgotten (waiting_in n.stage) row (λ at. refl)).neighbours

  clearing_addresses : (entries : List neighbour_entries.NeighbourEntry) (c : Chronicle) → address_history (clearing start now entries c) ≡ address_history c
  clearing_addresses [] c = refl
  clearing_addresses (n ∷ entries) c =
      let row : Chronicle = (now, Neighbour n.key (rows.Forgot rows.Cleared)) ∷ c in
      clearing_addresses entries (going n c) ∙ (losing_is_quiet now Forgotten (waiting_in n.stage) row (λ at. refl)).addresses

  clearing_last : (entries : List neighbour_entries.NeighbourEntry) (c : Chronicle) (at : ℕ) → last_moment at c ≡ now → last_moment at (clearing start now entries c) ≡ now
  clearing_last [] c at is = is
  clearing_last (n ∷ entries) c at is =
      let row : Chronicle = (now, Neighbour n.key (rows.Forgot rows.Cleared)) ∷ c in
      clearing_last entries (going n c) at ((losing_is_quiet now Forgotten (waiting_in n.stage) row (λ at'. refl)).last at)

  clearing_items : (entries : List neighbour_entries.NeighbourEntry) (c : Chronicle) → items (clearing start now entries c) ≡ items c ++ forgotten_items entries
  clearing_items [] c = sym (append-nil (items c))
  clearing_items (n ∷ entries) c =
      let row : Chronicle = (now, Neighbour n.key (rows.Forgot rows.Cleared)) ∷ c in
      let these : List (ℕ × Told) = flat_map items_at (lost_at now Forgotten (waiting_in n.stage)) in
      let first : items (going n c) ≡ items c ++ these = lost_items now Forgotten (waiting_in n.stage) row ∙ ap (λ (t : List (ℕ × Told)). t ++ these) (append-nil (items c)) in
      let both : forgotten_items (n ∷ entries) ≡ these ++ forgotten_items entries =
      ap (λ l. flat_map items_at l) (lost_both now (waiting_in n.stage) (all_waiting entries)) ∙ flat_map-append items_at (lost_at now Forgotten (waiting_in n.stage)) (lost_at now Forgotten (all_waiting entries)) in
      clearing_items entries (going n c) ∙ (ap (λ (t : List (ℕ × Told)). t ++ forgotten_items entries) first ∙ (append_assoc (items c) these (forgotten_items entries) ∙ ap (λ (t : List (ℕ × Told)). items c ++ t) (sym both)))

module _ {R A : Type 0} (stream : R → Stream) (old new : Node R A) (x room y : List (ℕ × Out A)) (now : ℕ) (settled : now < next_of old)
    (same : Same (record old { last = now }) new) (is : new.addresses ≡ old.addresses) (may : MayRemember old.choice new.choice old.neighbours.entries new.neighbours.entries) where
  pub clears_neighbours : ((at : ℕ) (history : List rows.Row) → neighbours.Stands old.neighbours.entries history → neighbours.Stands new.neighbours.entries (cleared at old.neighbours.entries history))
      → new.neighbours.entries ≡ [] → (packets : List (List ℕ)) → packets ≡ all_waiting old.neighbours.entries → room ≡ x → happenings y ≡ happenings room ++ lost_at now Forgotten packets
      → AddsEvent stream old new x y now (events.Clears events.ClearNeighbours) Done
  clears_neighbours stands none packets packets_are reserved told = record {
    each = λ start c s le.
        let entries : List neighbour_entries.NeighbourEntry = old.neighbours.entries in
        let later' : Chronicle = (now, Passed) ∷ c in
        let d : Chronicle = clearing start now entries later' in
        let base : Node R A = record old { last = now } in
        let history_is : neighbour_history d ≡ cleared now entries (neighbour_history c) = clearing_history start now entries later' in
        let neighbours' = subst (λ (h : List rows.Row). neighbours.Stands new.neighbours.entries h) (sym history_is) (stands now (neighbour_history c) s.neighbours) in (
          d,
          (entries, s.neighbours, refl),
          stands_neighbours stream start base new later' d now same (clearing_beside start now entries later') (passed stream start old base c now s le settled refl) refl
              (clearing_last start now entries later' start.at refl) is (clearing_addresses start now entries later') neighbours' (rw none tt) may,
          record {
            newer = lost_at now Forgotten (all_waiting entries);
            told = clearing_items start now entries later' ∙ ap (λ (t : List (ℕ × Told)). t ++ forgotten_items start now entries) (append-nil (items c));
            outs = told ∙ (ap (λ (r : List (ℕ × Out A)). happenings r ++ lost_at now Forgotten packets) reserved
                ∙ ap (λ (p : List (List ℕ)). happenings x ++ lost_at now Forgotten p) packets_are);
          },
          sym (clearing_done start now entries later' refl),
        );
  }

-- ---- the routers, and all redirects

-- the redirects to each of them end
abbrev then_gone : ℕ → List ℕ → List RedirectRow → List RedirectRow
then_gone at [] history = history
then_gone at (key ∷ those) history = then_gone at those (redirect_rows.TargetGone at key ∷ history)

gone_destinations : (at : ℕ) (those : List ℕ) (history : List RedirectRow) → destinations (then_gone at those history) ≡ destinations history
gone_destinations at [] history = refl
gone_destinations at (key ∷ those) history = gone_destinations at those (redirect_rows.TargetGone at key ∷ history)

-- where all redirects end, it doesn't matter what ended before
ended_target : (at : ℕ) (target : Option ℕ) (history : List RedirectRow) → unless_ended target (redirect_rows.Cleared at ∷ history) ≡ None
ended_target at None history = refl
ended_target at (Some target) history = refl

-- the destination with nothing left of its redirect
abbrev bare : ℕ → ℕ × Option ℕ
bare key = (key, None)

-- with what is left of its redirect once all ended
abbrev left_over : ℕ → List RedirectRow → ℕ → ℕ × Option ℕ
left_over at history key = (key, target_left key (redirect_rows.Cleared at ∷ history))

nothing_left : (at : ℕ) (history : List RedirectRow) (those : List ℕ) → map (λ key. left_over at history key) those ≡ map (λ key. bare key) those
nothing_left at history [] = refl
nothing_left at history (key ∷ those) =
    ap (λ (o : Option ℕ). (key, o) ∷ map (λ k. left_over at history k) those) (ended_target at (target_of key history) (since key history))
    ∙ ap (λ (l : List (ℕ × Option ℕ)). bare key ∷ l) (nothing_left at history those)

all_ended : (limit at : ℕ) (first other : List RedirectRow) → destinations other ≡ destinations first → remembered limit (redirect_rows.Cleared at ∷ first) ≡ remembered limit (redirect_rows.Cleared at ∷ other)
all_ended limit at first other same =
    nothing_left at first (take limit (destinations first)) ∙ (ap (λ (l : List ℕ). map (λ key. bare key) (take limit l)) (sym same)
    ∙ sym (nothing_left at other (take limit (destinations other))))

-- the routers left, and nothing else is changed
record Left (now : ℕ) (those : List ℕ) (c d : Chronicle) : Type 0 where
  apart : Apart c d
  routers : router_history d ≡ then_left now those (router_history c)
  redirects : redirect_history d ≡ then_gone now those (redirect_history c)
  neighbours : neighbour_history d ≡ neighbour_history c
  addresses : address_history d ≡ address_history c
  told : items d ≡ items c ++ flat_map items_at (left_at now those)

all_left : (start : Start) (now : ℕ) (es : List (Lasting ℕ)) (c : Chronicle) → Left now (keys es) c (all_leaving start now es c)
all_left start now [] c = record {
  apart = record { parameters = refl; prefixes = refl; servers = refl; names = refl; assigned = λ k. refl; solicited = refl; router = λ start'. refl; stream = λ start'. refl };
  routers = refl;
  redirects = refl;
  neighbours = refl;
  addresses = refl;
  told = sym (append-nil (items c));
}
all_left start now (e ∷ es) c =
    let row : Chronicle = (now, LeftRouter e.key) ∷ c in
    let d : Chronicle = all_leaving start now es row in
    let rest = all_left start now es row in
    let first : Apart c row = record { parameters = refl; prefixes = refl; servers = refl; names = refl; assigned = λ k. refl; solicited = refl; router = λ start'. refl; stream = λ start'. refl } in
    record {
      apart = apart_then c row d first rest.apart;
      routers = rest.routers;
      redirects = rest.redirects;
      neighbours = rest.neighbours;
      addresses = rest.addresses;
      told = rest.told ∙ append_assoc (items c) (items_at (now, LeftRouter e.key)) (flat_map items_at (left_at now (keys es)));
    }

module _ {R A : Type 0} (stream : R → Stream) (old new : Node R A) (x room y : List (ℕ × Out A)) (now : ℕ) (settled : now < next_of old)
    (same : Still old new now) (addresses_are : new.addresses ≡ old.addresses) (neighbours_are : new.neighbours ≡ old.neighbours) where
  pub clears_routers : ((at : ℕ) (history : List router_rows.RouterRow) → routers.Stands old.routers history → routers.Stands new.routers (then_left at (keys old.routers.entries) history))
      → new.routers.entries ≡ [] → choice.GainsRow old.choice new.choice (redirect_rows.Cleared now) → new.choice.memory ≡ forgotten old.choice.memory
      → (addrs : List Addr) → numbers addrs ≡ keys old.routers.entries → room ≡ x → happenings y ≡ happenings room ++ left_at now (numbers addrs)
      → AddsEvent stream old new x y now (events.Clears events.ClearRouters) Done
  clears_routers stands none gains forgot addrs addrs_are reserved told = record {
    each = λ start c s le.
        let es : List (Lasting ℕ) = old.routers.entries in
        let those : List ℕ = keys es in
        let later' : Chronicle = (now, Passed) ∷ c in
        let mid : Chronicle = all_leaving start now es later' in
        let d : Chronicle = (now, ClearedRedirects) ∷ mid in
        let left = all_left start now es later' in
        let not_past : now ≤ next_of old = omega (arith, settled) in
        let before : Apart c mid = apart_then c later' mid (record { parameters = refl; prefixes = refl; servers = refl; names = refl; assigned = λ k. refl; solicited = refl; router = λ start'. refl; stream = λ start'. refl }) left.apart in
        let apart : Apart c d = apart_then c mid d before (record { parameters = refl; prefixes = refl; servers = refl; names = refl; assigned = λ k. refl; solicited = refl; router = λ start'. refl; stream = λ start'. refl }) in
        let ended : choice.Stands new.choice (redirect_rows.Cleared now ∷ redirect_history c) = gains.stands (redirect_history c) s.redirects in
        let redirects' : choice.Stands new.choice (redirect_rows.Cleared now ∷ then_gone now those (redirect_history c)) = record {
          entries_are = ended.entries_are ∙ all_ended new.choice.redirects.limit now (redirect_history c) (then_gone now those (redirect_history c)) (gone_destinations now those (redirect_history c));
        } in
        let redirects_are = ap (λ (h : List RedirectRow). redirect_rows.Cleared now ∷ h) left.redirects in (
          d,
          (es, routers_listed stream start old c now s le settled, refl),
          stands_at stream start old new c d now same apart s le not_past refl
              (subst (λ (h : List router_rows.RouterRow). routers.Stands new.routers h) (sym left.routers) (stands now (router_history c) s.routers)) (rw none tt)
              (rw (addresses_are, left.addresses) s.addresses) (rw addresses_are (addresses_before old now not_past))
              (rw (neighbours_are, left.neighbours) s.neighbours) (rw neighbours_are (neighbours_before old now not_past))
              (subst (λ (h : List RedirectRow). choice.Stands new.choice h) (sym redirects_are) redirects')
              (forgets_all old new old.last now (omega (arith, s.last, le)) s.memo same.prefixes forgot),
          record {
            newer = left_at now those;
            told = append-nil (items mid) ∙ (left.told ∙ ap (λ (t : List (ℕ × Told)). t ++ flat_map items_at (left_at now those)) (append-nil (items c)));
            outs = told ∙ (ap (λ (r : List (ℕ × Out A)). happenings r ++ left_at now (numbers addrs)) reserved ∙ ap (λ (l : List ℕ). happenings x ++ left_at now l) addrs_are);
          },
          refl,
        );
  }
