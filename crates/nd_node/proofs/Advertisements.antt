-- A Neighbor Advertisement, and the chronicle that a node stands for.
use Rattle.std.proofs.Common.{◌≡◌, ◌↔◌, ℕ, ◌<◌, ◌≤◌, Bool, true, false, List, [], ◌∷◌, ◌++◌, append-nil, Option, Some, None, refl, sym, ◌∙◌, ap, subst, arith}
use Rattle.std.specs.Prelude.{◌&&◌, ◌||◌, if◌then◌else◌}
use Rattle.std.specs.List.{flat_map}
use Rattle.std.specs.Option.{option_map}
use Rattle.rand_core.specs.Stream.{Stream}
use Rattle.nd_addr.specs.declared.addr.Addr.{Addr}
use Rattle.nd_addr.specs.declared.role.Role.{Role}
use Rattle.nd_addr.specs.Number.{number_of}
use Rattle.nd_decode.specs.Message.{Parts}
use Rattle.nd_decode.specs.Option.{Said}
use Rattle.nd_decode.specs.declared.body.Body.TheVariants as bodies
use Rattle.nd_decode.specs.declared.neighbor_advertisement.NeighborAdvertisement.{NeighborAdvertisement}
use Rattle.nd_table.specs.Announcements.{stands}
use Rattle.nd_neighbour.specs.declared.news.Flags.{Flags}
use Rattle.nd_neighbour.specs.declared.news.News.{News}
use Rattle.nd_neighbour.specs.declared.news.News.TheVariants as news
use Rattle.nd_neighbour.specs.declared.news.Times.{Times}
use Rattle.nd_neighbour.specs.EntryKept as neighbour_entries
use Rattle.nd_neighbour.specs.History as rows
use Rattle.nd_neighbour.specs.News.{ends_router}
use Rattle.nd_neighbour.specs.TableKept as neighbours
use Rattle.nd_routers.specs.History.{RouterRow, announcements}
use Rattle.nd_routers.specs.RoutersKept as routers
use Rattle.nd_routers.specs.Routers.{same}
use Rattle.nd_routers.specs.RoutersKept.{IsSettled}
use Rattle.nd_nexthop.specs.Choice as choice
use Rattle.nd_slaac.specs.AddressKept as own
use Rattle.nd_slaac.specs.Dates as address_dates
use Rattle.nd_slaac.specs.Due as address_due
use Rattle.nd_slaac.specs.History as address_rows
use Rattle.nd_slaac.specs.TableKept as addresses
use Rattle.nd_chronicle.specs.Start.{Policies, is_host}
use Rattle.nd_chronicle.specs.Happening.{Chronicle, Heard, Passed, last_moment}
use Rattle.nd_chronicle.specs.Histories.{neighbour_history, router_history, address_history, redirect_history, said_of_neighbour, advertised_by}
use Rattle.nd_chronicle.specs.InForce.{reachable_time}
use Rattle.nd_chronicle.specs.LinkLayerAddress.{first_tlla}
use Rattle.nd_chronicle.specs.Message.{said, releasing, leaving}
use Rattle.nd_chronicle.specs.NeighborAdvertisement.{conflicting, ends_in_list}
use Rattle.nd_chronicle.specs.OwnAddress.{is_tentative}
use Rattle.nd_chronicle.specs.Told.{items_at, items}
use Rattle.nd_out.specs.declared.out.Out.{Out}
use Rattle.nd_out.specs.Out.{happening}
use Rattle.nd_steps.specs.DefaultRouterList.{with_left, with_gone, Leaves, told_left}
use Rattle.nd_steps.specs.NeighbourCache.{said_by, HasPlace, HearsOf, released_rows}
use Rattle.nd_steps.specs.OwnAddresses.{Conflicts, with_conflict, told_conflict}
use Rattle.nd_steps.specs.Outputs.{at_moment, happenings, Tells}
use Rattle.nd_steps.proofs.Quiet.{Quiet}
use Rattle.nd_steps.proofs.Saying.{NoneOverdueStill, OneGoes, OverdueByTable, none_before_said, releasing_is_quiet, releasing_items}
use Rattle.nd_steps.proofs.Telling.{one, above_silent, Tells-then, one_more}
use Rattle.nd_chronicle.specs.Answer.{Done}
use Rattle.nd_chronicle.proofs.Answering.{message_done}
use Rattle.nd_node.specs.declared.node.Node.{Node}
use Rattle.nd_node.specs.Hearing.{AddsMessage}
use Rattle.nd_node.specs.NodeKept.{next_of}
use Rattle.nd_nexthop.specs.Memo.{forgotten}
use Rattle.nd_steps.specs.DestinationCache.{MayRemember}
use Rattle.nd_node.proofs.Recalling.{Recalls, forgot_redirects, may_redirects, own_same, recalls_advertised, redirects_stand}
use Rattle.nd_node.proofs.Standing.{Apart, Still, apart_quiet, apart_then, settled_none, stands_at}
use Rattle.nd_node.proofs.Turns.{addresses_before, neighbours_before}

-- an advertisement
abbrev pub advertisement : NeighborAdvertisement → List Said → Parts
advertisement na options = record { body = bodies.Na na; options = options }

-- ---- it lets no neighbour enter

abbrev kind_in : Option (ℕ × rows.RowKind) → Option rows.RowKind
kind_in None = None
kind_in (Some said) = Some said.1

pub silent_news : (limit now : ℕ) (entries : List neighbour_entries.NeighbourEntry) (news : Option News) (times : Times) (key : ℕ) (flags : Flags) (mac : Option ℕ) (reachable : ℕ)
    → option_map (said_by times) news ≡ Some (key, rows.Advertised flags mac reachable) → HasPlace limit now news entries
silent_news limit now entries None times key flags mac reachable e = tt
silent_news limit now entries (Some (news.Given addr m mark)) times key flags mac reachable e =
    let kind : Some (rows.Given (number_of m.0) mark) ≡ Some (rows.Advertised flags mac reachable) = ap kind_in e in
    let never : ⊥ = cc in absurd never
silent_news limit now entries (Some (news.Advert addr f m)) times key flags mac reachable e = λ enters. let never : ⊥ = cc in absurd never
silent_news limit now entries (Some (news.Marked addr router)) times key flags mac reachable e = λ enters. let never : ⊥ = cc in absurd never

-- ---- the rows

-- rows of one of the node's addresses, or of a router, and what they leave as it was
record Conflicted (now : ℕ) (b : Bool) (key : ℕ) (c d : Chronicle) : Type 0 where
  apart : Apart c d
  routers : router_history d ≡ router_history c
  redirects : redirect_history d ≡ redirect_history c
  neighbours : neighbour_history d ≡ neighbour_history c
  addresses : address_history d ≡ with_conflict now b key (address_history c)
  last : (at : ℕ) → last_moment at d ≡ now
  told : items d ≡ items c ++ flat_map items_at (told_conflict now b key)

conflicted : (now : ℕ) (b : Bool) (key : ℕ) (c : Chronicle) → ((at : ℕ) → last_moment at c ≡ now) → Conflicted now b key c (conflicting now b key c)
conflicted now true key c is = record {
  apart = record { parameters = refl; prefixes = refl; servers = refl; names = refl; assigned = λ k. refl; solicited = refl; router = λ start'. refl; stream = λ start. refl };
  routers = refl;
  redirects = refl;
  neighbours = refl;
  addresses = refl;
  last = λ at. refl;
  told = one (items c) _;
}
conflicted now false key c is = record {
  apart = record { parameters = refl; prefixes = refl; servers = refl; names = refl; assigned = λ k. refl; solicited = refl; router = λ start'. refl; stream = λ start. refl };
  routers = refl;
  redirects = refl;
  neighbours = refl;
  addresses = refl;
  last = is;
  told = sym (append-nil (items c));
}

pub record Left (now : ℕ) (b : Bool) (key : ℕ) (c d : Chronicle) : Type 0 where
  pub apart : Apart c d
  pub routers : router_history d ≡ with_left now b key (router_history c)
  pub redirects : redirect_history d ≡ with_gone now b key (redirect_history c)
  pub neighbours : neighbour_history d ≡ neighbour_history c
  pub addresses : address_history d ≡ address_history c
  pub last : (at : ℕ) → last_moment at d ≡ now
  pub told : items d ≡ items c ++ flat_map items_at (told_left now b key)

pub left_list : (now : ℕ) (b : Bool) (key : ℕ) (c : Chronicle) → ((at : ℕ) → last_moment at c ≡ now) → Left now b key c (leaving now b key c)
left_list now true key c is = record {
  apart = record { parameters = refl; prefixes = refl; servers = refl; names = refl; assigned = λ k. refl; solicited = refl; router = λ start'. refl; stream = λ start. refl };
  routers = refl;
  redirects = refl;
  neighbours = refl;
  addresses = refl;
  last = λ at. refl;
  told = one (items c) _;
}
left_list now false key c is = record {
  apart = record { parameters = refl; prefixes = refl; servers = refl; names = refl; assigned = λ k. refl; solicited = refl; router = λ start'. refl; stream = λ start. refl };
  routers = refl;
  redirects = refl;
  neighbours = refl;
  addresses = refl;
  last = is;
  told = sym (append-nil (items c));
}

-- ---- what it adds

abbrev StillOverdue : Type 0
StillOverdue = (transmits : ℕ) (history : List address_rows.Row) (now key : ℕ) (kind : address_rows.RowKind) → address_due.NoneOverdue transmits history now → address_due.NoneOverdue transmits ((now, key, kind) ∷ history) now

abbrev ByTable : Type 0
ByTable = (transmits : ℕ) (those : List own.Address) (history : List address_rows.Row) (now : ℕ) → addresses.Stands those history → address_dates.NoneBefore those now ↔ address_due.NoneOverdue transmits history now

conflict_later : StillOverdue → (transmits now : ℕ) (b : Bool) (key : ℕ) (history : List address_rows.Row) → address_due.NoneOverdue transmits history now → address_due.NoneOverdue transmits (with_conflict now b key history) now
conflict_later still transmits now true key history h = still transmits history now key address_rows.Conflict h
conflict_later still transmits now false key history h = h

module _ {R A : Type 0} (stream : R → Stream) (old new : Node R A) (x room y1 y2 y3 z : List (ℕ × Out A)) (now : ℕ) (source destination : Addr) (na : NeighborAdvertisement) (options : List Said)
    (settled : now < next_of old) (times : Times) (news : Option News) (ends left tentative : Bool) (heard : Out A)
    (still : NoneOverdueStill) (table : OverdueByTable) (one_goes : OneGoes) (still_addresses : StillOverdue) (address_table : ByTable)
    (same' : Still old new now)
    (news_is : option_map (said_by times) news ≡ said_of_neighbour source (bodies.Na na) options times.reachable) (reachable_is : times.reachable ≡ old.params.reachable_time)
    (reserved : room ≡ x) (told : y1 ≡ room ++ (now, heard) ∷ []) (heard_is : happening heard ≡ Heard source destination (record { body = bodies.Na na; options = [] }))
    (conflicts : Conflicts now (number_of na.target.0) old.addresses.addresses new.addresses.addresses y1 y2 tentative)
    (hears : HearsOf old.neighbours.limit now (option_map (said_by times) news) old.neighbours.entries new.neighbours.entries y2 y3 ends)
    (first second : choice.Table) (holds : first ≡ (if tentative then record old.choice { memory = forgotten old.choice.memory } else old.choice)) (may : MayRemember first second old.neighbours.entries new.neighbours.entries)
    (left_says : (history : List RouterRow) → routers.Stands old.routers history → left ≡ (ends && ((old.policies.strict && is_host old.role) || stands same (number_of na.target.0) (announcements history) now)))
    (leaves : Leaves now (number_of na.target.0) left old.routers new.routers second new.choice y3 z)
    (routers_settled : IsSettled new.routers.entries now) where
  pub adds_advertisement : AddsMessage stream old new x z now source destination (advertisement na options) Done
  adds_advertisement = record {
    each = λ start c s le takes.
        let key : ℕ = number_of na.target.0 in
        let later : Chronicle = (now, Passed) ∷ c in
        let message : Parts = advertisement na options in
        let history : List rows.Row = neighbour_history c in
        let limit : ℕ = start.limits.neighbours in
        let kind : rows.RowKind = advertised_by na (first_tlla options) (reachable_time later) in
        let this : Option (ℕ × rows.RowKind) = Some (key, kind) in
        let this_is : option_map (said_by times) news ≡ this =
        news_is ∙ ap (λ (r : ℕ). said_of_neighbour source (bodies.Na na) options r) (reachable_is ∙ s.params.reachable_time) in
        let hears' : HearsOf limit now this old.neighbours.entries new.neighbours.entries y2 y3 ends =
        subst (λ (l : ℕ). HearsOf l now this old.neighbours.entries new.neighbours.entries y2 y3 ends) s.limits.neighbours
        (subst (λ (o : Option (ℕ × rows.RowKind)). HearsOf old.neighbours.limit now o old.neighbours.entries new.neighbours.entries y2 y3 ends) this_is hears) in
        let h = hears'.each history s.neighbours in
        let cf = conflicts.stands (address_history c) s.addresses in
        let t : Bool = is_tentative later na.target.0 in
        let l : Bool = ends_in_list start now later this in
        let listed : Bool = stands same key (announcements (router_history c)) now in
        let left_is : left ≡ l =
        left_says (router_history c) s.routers
        ∙ ap (λ (b : Bool). b && ((old.policies.strict && is_host old.role) || listed)) h.4
        ∙ ap (λ (p : Policies). ends_router now kind (rows.story key history) && ((p.strict && is_host old.role) || listed)) s.policies
        ∙ ap (λ (r : Role). ends_router now kind (rows.story key history) && ((start.policies.strict && is_host r) || listed)) s.role in
        let e0 : Chronicle = (now, Heard source destination message) ∷ later in
        let e1 : Chronicle = conflicting now t key e0 in
        let e2 : Chronicle = releasing now this history e1 in
        let d : Chronicle = leaving now l key e2 in
        let k1 = conflicted now t key e0 (λ at. refl) in
        let q : Quiet e1 e2 = releasing_is_quiet now this history e1 k1.last in
        let k3 = left_list now l key e2 (λ at. q.last at ∙ k1.last at) in
        let apart0 : Apart c e0 = record { parameters = refl; prefixes = refl; servers = refl; names = refl; assigned = λ k. refl; solicited = refl; router = λ start'. refl; stream = λ start'. refl } in
        let apart : Apart c d = apart_then c e0 d apart0 (apart_then e0 e1 d k1.apart (apart_then e1 e2 d (apart_quiet e1 e2 q) k3.apart)) in
        let not_past : now ≤ next_of old = omega (arith, settled) in
        let routers_are : router_history d ≡ with_left now l key (router_history c) =
        k3.routers ∙ ap (λ r. with_left now l key r) (q.routers ∙ k1.routers) in
        let redirects_are : redirect_history d ≡ with_gone now l key (redirect_history c) =
        k3.redirects ∙ ap (λ r. with_gone now l key r) (q.redirects ∙ k1.redirects) in
        let addresses_are : address_history d ≡ with_conflict now t key (address_history c) = k3.addresses ∙ (q.addresses ∙ k1.addresses) in
        let neighbours_are : neighbour_history d ≡ (now, key, kind) ∷ history = k3.neighbours ∙ (q.neighbours ∙ k1.neighbours) in
        let routers' = subst (λ r. routers.Stands new.routers r) (sym routers_are) (subst (λ (b : Bool). routers.Stands new.routers (with_left now b key (router_history c))) left_is (leaves.routers (router_history c) s.routers)) in
        let redirects' = subst (λ r. choice.Stands new.choice r) (sym redirects_are) (subst (λ (b : Bool). choice.Stands new.choice (with_gone now b key (redirect_history c))) left_is (leaves.redirects (redirect_history c) (redirects_stand old.choice second (redirect_history c) (may_redirects first second old.neighbours.entries new.neighbours.entries may ∙ forgot_redirects tentative old.choice first holds) s.redirects))) in
        let own' : addresses.Stands new.addresses.addresses (with_conflict now t key (address_history c)) = subst (λ (b : Bool). addresses.Stands new.addresses.addresses (with_conflict now b key (address_history c))) cf.0 cf.1 in
        let addresses' = subst (λ r. addresses.Stands new.addresses.addresses r) (sym addresses_are) own' in
        let made_is : h.0 ≡ history = h.1 in
        let entries' : neighbours.Stands new.neighbours.entries ((now, key, kind) ∷ history) = subst (λ (m : List rows.Row). neighbours.Stands new.neighbours.entries ((now, key, kind) ∷ m)) made_is h.2 in
        let neighbours' = subst (λ r. neighbours.Stands new.neighbours.entries r) (sym neighbours_are) entries' in
        let none_address = (address_table start.transmits new.addresses.addresses (with_conflict now t key (address_history c)) now own').1
        (conflict_later still_addresses start.transmits now t key (address_history c) ((address_table start.transmits old.addresses.addresses (address_history c) now s.addresses).0 (addresses_before old now not_past))) in
        let none_neighbour = none_before_said table still one_goes limit now this old.neighbours.entries new.neighbours.entries history h.0 s.neighbours h.1 h.2 (neighbours_before old now not_past) in
        let recalls : Recalls now new = recalls_advertised old new old.last now (omega (arith, s.last, le)) s.memo same'.prefixes first second tentative left holds may leaves.remembers history s.neighbours
        (λ e. own_same old.addresses.addresses new.addresses.addresses (address_history c) s.addresses (subst (λ (b : Bool). addresses.Stands new.addresses.addresses (with_conflict now b key (address_history c))) e cf.1)) in
        let stands' = stands_at stream start old new c d now same' apart s le not_past (k3.last start.at)
        routers' (settled_none now (routers.next_end new.routers.entries) routers_settled) addresses' none_address neighbours' none_neighbour redirects' recalls in
        let heard_items : Tells c e0 x y1 = record {
          newer = (now, Heard source destination (record { body = bodies.Na na; options = [] })) ∷ [];
          told = above_silent (items c) (items_at (now, Heard source destination message));
          outs = ap happenings told ∙ (ap (λ r. happenings (r ++ (now, heard) ∷ [])) reserved ∙ (one_more x (x ++ (now, heard) ∷ []) now heard refl ∙ ap (λ w. happenings x ++ (now, w) ∷ []) heard_is));
        } in
        let conflict_items : Tells e0 e1 y1 y2 = record { newer = told_conflict now t key; told = k1.told; outs = conflicts.told ∙ ap (λ (b : Bool). happenings y1 ++ told_conflict now b key) cf.0 } in
        let frames_items : Tells e1 e2 y2 y3 = record { newer = at_moment now (released_rows now this history); told = releasing_items now this history e1; outs = h.3 } in
        let left_items : Tells e2 d y3 z = record { newer = told_left now l key; told = k3.told; outs = leaves.told ∙ ap (λ (b : Bool). happenings y3 ++ told_left now b key) left_is } in (
          d,
          (
            None,
            record { neighbours = true; placed = λ enters full. let never : ⊥ = cc in absurd never; first = refl },
            (later, record { pushed = None; place = refl; with_it = refl }, refl),
          ),
          stands',
          Tells-then c e0 d x y1 z heard_items (Tells-then e0 e1 d y1 y2 z conflict_items (Tells-then e1 e2 d y2 y3 z frames_items left_items)),
          sym (message_done start now source destination message later d refl (later, record { pushed = None; place = refl; with_it = refl }, refl)),
        );
  }
