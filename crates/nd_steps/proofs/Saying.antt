-- What is said of a neighbour, in the chronicle: what makes room for it, and what is released.
use Rattle.std.proofs.Common.{◌≡◌, ◌↔◌, ℕ, Bool, true, false, List, [], ◌∷◌, ◌++◌, map, Option, Some, None, append-nil, append_assoc, refl, sym, ◌∙◌, ap, subst, arith}
use Rattle.std.specs.Prelude.{◌&&◌, ◌==◌, not, MatchBool, if◌then◌else◌}
use Rattle.std.specs.List.{flat_map}
use Rattle.nd_addr.specs.Frame.{addressed}
use Rattle.nd_addr.specs.Number.{mac_at}
use Rattle.nd_neighbour.specs.EntryKept.{NeighbourEntry}
use Rattle.nd_neighbour.specs.History.{Row, RowKind, story, Forgot, PushedOut}
use Rattle.nd_neighbour.specs.Due as dates
use Rattle.nd_neighbour.specs.DueKept as kept_dates
use Rattle.nd_neighbour.specs.News.{released_by}
use Rattle.nd_neighbour.specs.Place.{MakesPlace, HadPlace, Pushed, Prepares, pushing}
use Rattle.nd_neighbour.specs.Story.{is_awaited, is_present, mac_of}
use Rattle.nd_neighbour.specs.TableKept.{Stands}
use Rattle.nd_chronicle.specs.Start.{Start}
use Rattle.nd_chronicle.specs.Happening.{Chronicle, Happening, Resolved, Sent, last_moment}
use Rattle.nd_chronicle.specs.Histories.{parameter_history, neighbour_history, router_history, prefix_history, address_history, server_history, name_history, redirect_history, then_neighbour}
use Rattle.nd_chronicle.specs.Generator.{stream_left}
use Rattle.nd_chronicle.specs.Due.{solicited_routers}
use Rattle.nd_chronicle.specs.Message.{lets_enter, PlaceFor, releasing, sending_if_known, telling_if_known}
use Rattle.nd_chronicle.specs.Packet.{with_pushed, sending}
use Rattle.nd_chronicle.specs.Told.{items_at, items}
use Rattle.nd_steps.specs.NeighbourCache.{PreparesFor, sent_if_known, told_if_known, released_rows}
use Rattle.nd_steps.specs.RouterTables.{router_side}
use Rattle.nd_steps.specs.Outputs.{at_moment}
use Rattle.nd_steps.proofs.Quiet.{Quiet, quiet_same, quiet_then, resolved_is_quiet}
use Rattle.std.proofs.lemmas.Grind.{flat_map-append}
use Rattle.std.proofs.lemmas.List.{map-append}

-- ---- what makes room

no_and_yes : (b : Bool) → b ≡ true → (e : Bool) → (e && not b) ≡ true → ⊥
no_and_yes true is true h = let no : ⊥ = cc in no
no_and_yes true is false h = let no : ⊥ = cc in no
no_and_yes false is e h = let no : ⊥ = cc in no

module _ (limit now key : ℕ) (enters : Bool) (history made : List Row) where
  -- another one goes
  gone_is_other : (k : ℕ) → is_present (story k history) ≡ true → (enters && not (is_present (story key history))) ≡ true → story key ((now, k, Forgot PushedOut) ∷ history) ≡ story key history
  gone_is_other k present absent = by (k == key) refl
    where
      by : (b : Bool) → k == key ≡ b → (if b then [] else story key history) ≡ story key history
      by false e = refl
      by true e = let same : k ≡ key = grind (arith, e) in absurd (no_and_yes (is_present (story key history)) (subst (λ (x : ℕ). is_present (story x history) ≡ true) same present) enters absent)

  kept_by : (b : Bool) → (enters && not (is_present (story key history))) ≡ b → MatchBool b (MakesPlace limit now history made) (made ≡ history) → story key made ≡ story key history
  kept_by true absent (HadPlace entries those few is) = ap (λ (h : List Row). story key h) is
  kept_by true absent (Pushed entries k those many longest is) = ap (λ (h : List Row). story key h) is ∙ gone_is_other k longest.stale.0 absent
  kept_by false absent is = ap (λ (h : List Row). story key h) is

  -- the story of a neighbour is the same behind what makes room for it
  pub story_kept : Prepares limit now enters key history made → story key made ≡ story key history
  story_kept h = kept_by (enters && not (is_present (story key history))) refl h

-- what is released is the same behind what makes room
pub released_kept : (limit now : ℕ) (said : Option (ℕ × RowKind)) (history made : List Row) → PreparesFor limit now said history made → released_rows now said made ≡ released_rows now said history
released_kept limit now None history made is = refl
released_kept limit now (Some said) history made place =
    ap (λ s. sent_if_known (mac_of ((now, said.1) ∷ s)) (released_by now said.1 s) ++ told_if_known said.0 (mac_of ((now, said.1) ∷ s)) (is_awaited s)) (story_kept limit now said.0 (lets_enter said.1) history made place)

-- a neighbour that may be evicted concerns no other table, and isn't reported
pub record Others (c d : Chronicle) : Type 0 where
  pub parameters : parameter_history d ≡ parameter_history c
  pub routers : router_history d ≡ router_history c
  pub prefixes : prefix_history d ≡ prefix_history c
  pub addresses : address_history d ≡ address_history c
  pub servers : server_history d ≡ server_history c
  pub names : name_history d ≡ name_history c
  pub redirects : redirect_history d ≡ redirect_history c
  pub solicited : solicited_routers d ≡ solicited_routers c
  pub router : (start : Start) → router_side start d ≡ router_side start c
  pub stream : (start : Start) → stream_left start d ≡ stream_left start c
  pub last : (at : ℕ) → last_moment at d ≡ last_moment at c
  pub told : items d ≡ items c

pub others_same : (c : Chronicle) → Others c c
others_same c = record {
  parameters = refl;
  routers = refl;
  prefixes = refl;
  addresses = refl;
  servers = refl;
  names = refl;
  redirects = refl;
  solicited = refl;
  router = λ start. refl;
  stream = λ start. refl;
  last = λ at. refl;
  told = refl;
}

pub others_pushed : (now : ℕ) (pushed : Option ℕ) (c : Chronicle) → ((at : ℕ) → last_moment at c ≡ now) → Others c (with_pushed now pushed c)
others_pushed now None c is = others_same c
others_pushed now (Some key) c is = record {
  parameters = refl;
  routers = refl;
  prefixes = refl;
  addresses = refl;
  servers = refl;
  names = refl;
  redirects = refl;
  solicited = refl;
  router = λ start. refl;
  stream = λ start. refl;
  last = λ at. sym (is at);
  told = append-nil (items c);
}

-- one after the other
pub others_then : {c d e : Chronicle} → Others c d → Others d e → Others c e
others_then o p = record {
  parameters = p.parameters ∙ o.parameters;
  routers = p.routers ∙ o.routers;
  prefixes = p.prefixes ∙ o.prefixes;
  addresses = p.addresses ∙ o.addresses;
  servers = p.servers ∙ o.servers;
  names = p.names ∙ o.names;
  redirects = p.redirects ∙ o.redirects;
  solicited = p.solicited ∙ o.solicited;
  router = λ start. p.router start ∙ o.router start;
  stream = λ start. p.stream start ∙ o.stream start;
  last = λ at. p.last at ∙ o.last at;
  told = p.told ∙ o.told;
}

pub pushed_history : (now : ℕ) (pushed : Option ℕ) (c : Chronicle) → neighbour_history (with_pushed now pushed c) ≡ pushing now pushed (neighbour_history c)
pushed_history now None c = refl
pushed_history now (Some key) c = refl

-- there is a chronicle with place for the neighbour
pub record Placed (start : Start) (c : Chronicle) (now : ℕ) (said : Option (ℕ × RowKind)) (made : List Row) : Type 0 where
  pub placed : Chronicle
  pub place : PlaceFor start c now said placed
  pub history : neighbour_history placed ≡ made
  pub others : Others c placed

-- who goes is one neighbour (a law of the neighbours)
abbrev pub OneGoes : Type 0
OneGoes = (limit now key : ℕ) (enters : Bool) (history made : List Row) → Prepares limit now enters key history made → (pushed : Option ℕ) × (made ≡ pushing now pushed history)

pub placed_by : (start : Start) (c : Chronicle) (now : ℕ) (said : Option (ℕ × RowKind)) (made : List Row) → OneGoes → ((at : ℕ) → last_moment at c ≡ now)
    → PreparesFor start.limits.neighbours now said (neighbour_history c) made → Placed start c now said made
placed_by start c now None made law is place = record { placed = c; place = refl; history = sym place; others = others_same c }
placed_by start c now (Some said) made law is place =
    let limit = start.limits.neighbours in
    let p = law limit now said.0 (lets_enter said.1) (neighbour_history c) made place in
    record {
      placed = with_pushed now p.0 c;
      place = record {
        pushed = p.0;
        place = subst (λ (m : List Row). Prepares limit now (lets_enter said.1) said.0 (neighbour_history c) m) p.1 place;
        with_it = refl;
      };
      history = pushed_history now p.0 c ∙ sym p.1;
      others = others_pushed now p.0 c is;
    }

-- ---- nothing is overdue behind it

-- laws of the neighbours
abbrev pub OverdueByTable : Type 0
OverdueByTable = (entries : List NeighbourEntry) (history : List Row) (now : ℕ) → Stands entries history → kept_dates.NoneBefore entries now ↔ dates.NoneOverdue history now

abbrev pub NoneOverdueStill : Type 0
NoneOverdueStill = (history : List Row) (now key : ℕ) (kind : RowKind) → dates.NoneOverdue history now → dates.NoneOverdue ((now, key, kind) ∷ history) now

pub pushed_later : NoneOverdueStill → (now : ℕ) (pushed : Option ℕ) (history : List Row) → dates.NoneOverdue history now → dates.NoneOverdue (pushing now pushed history) now
pushed_later still now None history h = h
pushed_later still now (Some key) history h = still history now key (Forgot PushedOut) h

pub said_later : NoneOverdueStill → (now : ℕ) (said : Option (ℕ × RowKind)) (history : List Row) → dates.NoneOverdue history now → dates.NoneOverdue (then_neighbour now said history) now
said_later still now None history h = h
said_later still now (Some said) history h = still history now said.0 said.1 h

pub made_later : NoneOverdueStill → OneGoes → (limit now : ℕ) (said : Option (ℕ × RowKind)) (history made : List Row) → PreparesFor limit now said history made
    → dates.NoneOverdue history now → dates.NoneOverdue made now
made_later still law limit now None history made is h = rw is h
made_later still law limit now (Some said) history made place h =
    let p = law limit now said.0 (lets_enter said.1) history made place in
    rw p.1 (pushed_later still now p.0 history h)

pub none_before_said : OverdueByTable → NoneOverdueStill → OneGoes → (limit now : ℕ) (said : Option (ℕ × RowKind)) (old new : List NeighbourEntry) (history made : List Row)
    → Stands old history → PreparesFor limit now said history made → Stands new (then_neighbour now said made) → kept_dates.NoneBefore old now → kept_dates.NoneBefore new now
none_before_said table still law limit now said old new history made before place after h =
    (table new (then_neighbour now said made) now after).1 (said_later still now said made (made_later still law limit now said history made place ((table old history now before).0 h)))

-- ---- what is released

sending_is_quiet : (at mac : ℕ) (packets : List (List ℕ)) (c : Chronicle) → ((start : ℕ) → last_moment start c ≡ at) → Quiet c (sending at mac packets c)
sending_is_quiet at mac [] c now = quiet_same c
sending_is_quiet at mac (packet ∷ packets) c now =
    let q = sending_is_quiet at mac packets ((at, Sent (addressed (mac_at mac) packet)) ∷ c) (λ start. refl) in
    record {
      parameters = q.parameters;
      neighbours = q.neighbours;
      routers = q.routers;
      prefixes = q.prefixes;
      addresses = q.addresses;
      servers = q.servers;
      names = q.names;
      redirects = q.redirects;
      solicited = q.solicited;
      router = q.router;
      stream = q.stream;
      last = λ start. q.last start ∙ sym (now start);
    }

sending_if_known_is_quiet : (at : ℕ) (known : Option ℕ) (packets : List (List ℕ)) (c : Chronicle) → ((start : ℕ) → last_moment start c ≡ at) → Quiet c (sending_if_known at known packets c)
sending_if_known_is_quiet at None packets c now = quiet_same c
sending_if_known_is_quiet at (Some mac) packets c now = sending_is_quiet at mac packets c now

telling_if_known_is_quiet : (at key : ℕ) (known : Option ℕ) (awaited : Bool) (c : Chronicle) → ((start : ℕ) → last_moment start c ≡ at) → Quiet c (telling_if_known at key known awaited c)
telling_if_known_is_quiet at key None awaited c now = quiet_same c
telling_if_known_is_quiet at key (Some mac) true c now = resolved_is_quiet at key mac c now
telling_if_known_is_quiet at key (Some mac) false c now = quiet_same c

-- it concerns no table
pub releasing_is_quiet : (at : ℕ) (said : Option (ℕ × RowKind)) (history : List Row) (c : Chronicle) → ((start : ℕ) → last_moment start c ≡ at) → Quiet c (releasing at said history c)
releasing_is_quiet at None history c now = quiet_same c
releasing_is_quiet at (Some said) history c now =
    let s = story said.0 history in
    let known = mac_of ((at, said.1) ∷ s) in
    let sent = sending_if_known at known (released_by at said.1 s) c in
    let q = sending_if_known_is_quiet at known (released_by at said.1 s) c now in
    quiet_then c sent (telling_if_known at said.0 known (is_awaited s) sent) q (telling_if_known_is_quiet at said.0 known (is_awaited s) sent (λ start. q.last start ∙ now start))

sending_items : (at mac : ℕ) (packets : List (List ℕ)) (c : Chronicle) → items (sending at mac packets c) ≡ items c ++ flat_map items_at (at_moment at (map (λ packet. Sent (addressed (mac_at mac) packet)) packets))
sending_items at mac [] c = sym (append-nil (items c))
sending_items at mac (packet ∷ packets) c =
    let frame = addressed (mac_at mac) packet in
    sending_items at mac packets ((at, Sent frame) ∷ c) ∙ append_assoc (items c) (items_at (at, Sent frame)) (flat_map items_at (at_moment at (map (λ p. Sent (addressed (mac_at mac) p)) packets)))

sending_if_known_items : (at : ℕ) (known : Option ℕ) (packets : List (List ℕ)) (c : Chronicle) → items (sending_if_known at known packets c) ≡ items c ++ flat_map items_at (at_moment at (sent_if_known known packets))
sending_if_known_items at None packets c = sym (append-nil (items c))
sending_if_known_items at (Some mac) packets c = sending_items at mac packets c

telling_if_known_items : (at key : ℕ) (known : Option ℕ) (awaited : Bool) (c : Chronicle) → items (telling_if_known at key known awaited c) ≡ items c ++ flat_map items_at (at_moment at (told_if_known key known awaited))
telling_if_known_items at key None awaited c = sym (append-nil (items c))
telling_if_known_items at key (Some mac) true c = ap (λ l. items c ++ l) (sym (append-nil (items_at (at, Resolved key mac))))
telling_if_known_items at key (Some mac) false c = sym (append-nil (items c))

-- rows of a moment, one list behind the other
pub items_of_both : (at : ℕ) (a b : List Happening) → flat_map items_at (at_moment at (a ++ b)) ≡ flat_map items_at (at_moment at a) ++ flat_map items_at (at_moment at b)
items_of_both at a b = ap (flat_map items_at) (map-append (λ h. (at, h)) a b) ∙ flat_map-append items_at (at_moment at a) (at_moment at b)

-- and is reported by its frames, and by the address
pub releasing_items : (at : ℕ) (said : Option (ℕ × RowKind)) (history : List Row) (c : Chronicle) → items (releasing at said history c) ≡ items c ++ flat_map items_at (at_moment at (released_rows at said history))
releasing_items at None history c = sym (append-nil (items c))
releasing_items at (Some said) history c =
    let s = story said.0 history in
    let known = mac_of ((at, said.1) ∷ s) in
    let packets = released_by at said.1 s in
    telling_if_known_items at said.0 known (is_awaited s) (sending_if_known at known packets c)
    ∙ (ap (λ l. l ++ flat_map items_at (at_moment at (told_if_known said.0 known (is_awaited s)))) (sending_if_known_items at known packets c)
    ∙ (append_assoc (items c) (flat_map items_at (at_moment at (sent_if_known known packets))) (flat_map items_at (at_moment at (told_if_known said.0 known (is_awaited s))))
    ∙ ap (λ l. items c ++ l) (sym (items_of_both at (sent_if_known known packets) (told_if_known said.0 known (is_awaited s))))))
