-- The walk over the milliseconds, and the turns that make it.
use Rattle.std.proofs.Common.{◌≡◌, ℕ, ◌+◌, ◌<◌, ◌≤◌, List, [], ◌++◌, append-nil, Option, Some, None, refl, sym, ◌∙◌, ap, subst, arith, ⊎_elim}
use Rattle.std.proofs.lemmas.Bool.{cases_lt}
use Rattle.std.specs.Option.{option_map}
use Rattle.rand_core.specs.Stream.{Stream}
use Rattle.nd_addr.specs.declared.addr.Addr.{Addr}
use Rattle.nd_addr.specs.declared.mac.Mac.{Mac}
use Rattle.nd_advertiser.specs.Advertising.{advertised_by as advertised_by_history}
use Rattle.nd_advertiser.specs.Config.{Settings}
use Rattle.nd_advertiser.specs.Contents.{contents_of}
use Rattle.nd_advertiser.specs.Table as advertising
use Rattle.nd_advertiser.proofs.ByRows.{contents_are}
use Rattle.nd_neighbour.specs.Due as neighbours
use Rattle.nd_slaac.specs.Due as addresses
use Rattle.nd_chronicle.specs.Start.{Start, link_local}
use Rattle.nd_chronicle.specs.Advertising.{advertising_by}
use Rattle.nd_chronicle.specs.Histories.{advertising_history}
use Rattle.nd_compose.specs.Frames.{router_advertisement_frame}
use Rattle.nd_chronicle.specs.Happening.{Chronicle, Happening, Unreachable, last_moment}
use Rattle.nd_chronicle.specs.Due.{What, RouterEnds, AddressFalls, NeighbourFalls, RoutersSolicited, RouterAdvertises, Redraws, Due, comes}
use Rattle.nd_chronicle.specs.History.{Walk, over, adds}
use Rattle.nd_chronicle.specs.Told.{items}
use Rattle.nd_out.specs.declared.out.Out.{Out}
use Rattle.nd_steps.specs.RouterTables.{advertised, frame_of}
use Rattle.nd_steps.specs.declared.router_tables.RouterTables.{RouterTables}
use Rattle.nd_steps.specs.DueRows.{advertised_by, frame_in, told_of}
use Rattle.nd_steps.specs.Outputs.{at_moment, happenings}
use Rattle.nd_steps.proofs.RouterSide.{due_has_settings}
use Rattle.nd_steps.proofs.Quiet.{losing_is_quiet}
use Rattle.nd_steps.proofs.Telling.{due_items, Tells-then}
use Rattle.nd_node.specs.declared.node.Node.{Node}
use Rattle.nd_node.specs.Node.{NextDue}
use Rattle.nd_node.specs.NodeKept.{Stands}
use Rattle.nd_node.specs.Time.{Leads, Advances, Comes, Passes, Onward}

-- the newest moment is that of what was due
pub last_of : (start : Start) (c : Chronicle) (at : ℕ) (what : What) → Due start c at (Some what) → last_moment start.at (comes start at what c) ≡ at
last_of start c at (RouterEnds key) due = refl
last_of start c at (AddressFalls (addresses.Ends key)) due = refl
last_of start c at (AddressFalls (addresses.Solicits key)) due = refl
last_of start c at (AddressFalls (addresses.Assigns key)) due = refl
last_of start c at (NeighbourFalls (neighbours.Multicasts key)) due = refl
last_of start c at (NeighbourFalls (neighbours.Unicasts key mac)) due = refl
last_of start c at (NeighbourFalls (neighbours.Fails key packets)) due = (losing_is_quiet at Unreachable packets _ (λ s. refl)).last start.at
last_of start c at (NeighbourFalls (neighbours.Ages key)) due = refl
last_of start c at RoutersSolicited due = refl
last_of start c at RouterAdvertises due =
    let s = due_has_settings start c at due.4 in ap (λ (x : Option Settings). last_moment start.at (advertising_by start at x c)) s.1
last_of start c at Redraws due = refl

-- what is advertised stays when an advertisement was sent
still_advertised : (start : Start) (c : Chronicle) (now : ℕ) (settings : Option Settings)
    → contents_of start.mac (advertising_history start (advertising_by start now settings c)) ≡ contents_of start.mac (advertising_history start c)
still_advertised start c now None = refl
still_advertised start c now (Some settings) = refl

-- the frame of what a node advertises once it has sent an advertisement is that of the chronicle before
made_after : {A : Type 0} (start : Start) (c : Chronicle) (now : ℕ) (mac : Mac) (own : Addr) (tables : RouterTables A) → mac ≡ start.mac → own ≡ link_local start
    → advertising.Stands tables.advertiser (advertising_history start (comes start now RouterAdvertises c))
    → frame_in mac own tables ≡ frame_of start (contents_of start.mac (advertising_history start c))
made_after start c now mac own tables mac_is own_is s =
    ap (λ (m : Mac). frame_in m own tables) mac_is
    ∙ (ap (λ (a : Addr). frame_in start.mac a tables) own_is
    ∙ ap (option_map (router_advertisement_frame start.mac (link_local start)))
    (contents_are start.mac tables.advertiser (advertising_history start (comes start now RouterAdvertises c)) s ∙ still_advertised start c now (advertised_by_history (advertising_history start c))))

-- with the Router Advertisement that is sent where one is due, what is reported is that of the chronicle
told_of_due : {A : Type 0} (start : Start) (c : Chronicle) (now : ℕ) (mac : Mac) (own : Addr) (tables : RouterTables A) (what : What) → mac ≡ start.mac → own ≡ link_local start
    → advertising.Stands tables.advertiser (advertising_history start (comes start now what c))
    → told_of mac own (advertised_by (frame_in mac own tables)) what ≡ told_of start.mac (link_local start) (advertised start c) what
told_of_due start c now mac own tables what mac_is own_is s =
    ap (λ (m : Mac). told_of m own (advertised_by (frame_in mac own tables)) what) mac_is
    ∙ (ap (λ (a : Addr). told_of start.mac a (advertised_by (frame_in mac own tables)) what) own_is ∙ by what s)
  where
    by : (w : What) → advertising.Stands tables.advertiser (advertising_history start (comes start now w c))
        → told_of start.mac (link_local start) (advertised_by (frame_in mac own tables)) w ≡ told_of start.mac (link_local start) (advertised start c) w
    by (RouterEnds key) h = refl
    by (AddressFalls falls) h = refl
    by (NeighbourFalls falls) h = refl
    by RoutersSolicited h = refl
    by RouterAdvertises h = ap advertised_by (made_after start c now mac own tables mac_is own_is h)
    by Redraws h = refl

-- a turn leads to what comes
pub turn_leads : {R A : Type 0} (stream : R → Stream) (old new : Node R A) (x y : List (ℕ × Out A)) (now : ℕ) (what : What) (own : Addr)
    → ((start : Start) (c : Chronicle) → Stands stream start old c → Due start c now (Some what))
    → ((start : Start) (c : Chronicle) → Stands stream start old c → Stands stream start new (comes start now what c))
    → ((start : Start) → old.addresses.mac ≡ start.mac → own ≡ link_local start)
    → happenings y ≡ happenings x ++ at_moment now (told_of new.mac own (advertised_by (frame_in new.mac own new.router)) what) → Leads stream old new x y (Comes now)
turn_leads stream old new x y now what own due stands own_is told = record {
  each = λ start c s.
      let n = stands start c s in (
        comes start now what c,
        (what, due start c s, refl),
        n,
        record {
          newer = at_moment now (told_of start.mac (link_local start) (advertised start c) what);
          told = due_items start c now what;
          outs = told ∙ ap (λ (l : List Happening). happenings x ++ at_moment now l)
              (told_of_due start c now new.mac own new.router what n.mac (own_is start s.address_mac) n.router.advertiser);
        },
      );
}

abbrev Idle : Type 0
Idle = (start : Start) (c d : Chronicle) (next end : ℕ) → ((moment : ℕ) → moment < next → Due start c moment None) → (moment : ℕ) → moment ≤ next → next ≤ end + 1
    → Walk start c next end d → Walk start c moment end d

module _ {R A : Type 0} (stream : R → Stream) where
  pub settle_more : Idle → (origin old new : Node R A) (x y z : List (ℕ × Out A)) (now next : ℕ)
      → Leads stream origin old x y (Onward now)
      → ((start : Start) (c : Chronicle) → Stands stream start old c → NextDue start c next)
      → Leads stream old new y z (Comes next) → next ≤ now → Leads stream origin new x z (Onward now)
  settle_more idle origin old new x y z now next sofar due turn le = record {
    each = λ start c s.
        let l = sofar.each start c s in
        let d = l.0 in
        let n = due start d l.2 in
        let t = turn.each start d l.2 in (
          t.0,
          λ e w. l.1 e (idle start d e next now n.nothing_before (last_moment start.at d) n.not_past (omega (arith, le))
              (adds t.1.0 le t.1.1 (subst (λ (b : Chronicle). Walk start b next now e) t.1.2 (subst (λ (m : ℕ). Walk start t.0 m now e) (ap (last_moment start.at) t.1.2 ∙ last_of start d next t.1.0 t.1.1) w)))),
          t.2,
          Tells-then c d t.0 x y z l.3 t.3,
        );
  }

  pub settle_end : Idle → (origin old : Node R A) (x y : List (ℕ × Out A)) (now next : ℕ)
      → Leads stream origin old x y (Onward now)
      → ((start : Start) (c : Chronicle) → Stands stream start old c → NextDue start c next)
      → now < next → Leads stream origin old x y (Passes now)
  settle_end idle origin old x y now next sofar due lt = record {
    each = λ start c s.
        let l = sofar.each start c s in
        let d = l.0 in
        let n = due start d l.2 in
        let rest : Walk start d (last_moment start.at d) now d = ⊎_elim
        (λ past. over past)
        (λ before. idle start d d (now + 1) now (λ i h. n.nothing_before i (omega (arith, h, lt))) (last_moment start.at d) (omega (arith, before)) (omega arith) (over (omega arith)))
        (cases_lt now (last_moment start.at d)) in
        (d, l.1 d rest, l.2, l.3);
  }

  -- nothing has happened yet
  pub still : (node : Node R A) (x : List (ℕ × Out A)) (now : ℕ) → Leads stream node node x x (Onward now)
  still node x now = record { each = λ start c s. (c, λ e w. w, s, record { newer = []; told = sym (append-nil (items c)); outs = sym (append-nil (happenings x)) }) }

  -- what is due first comes, and then time goes on
  module _ (idle : Idle) (old mid new : Node R A) (x y z : List (ℕ × Out A)) (now next : ℕ) (due : (start : Start) (c : Chronicle) → Stands stream start old c → NextDue start c next)
      (turn : Leads stream old mid x y (Comes next)) (le : next ≤ now) where
    first_comes : Leads stream old mid x y (Onward now)
    first_comes = settle_more idle old old mid x x y now next (still old x now) due turn le

    pub first_onward : Leads stream mid new y z (Onward now) → Leads stream old new x z (Onward now)
    first_onward rest = record {
      each = λ start c s.
          let a = first_comes.each start c s in
          let b = rest.each start a.0 a.2 in
          (b.0, λ e w. a.1 e (b.1 e w), b.2, Tells-then c a.0 b.0 x y z a.3 b.3);
    }

    pub first_passes : Leads stream mid new y z (Passes now) → Leads stream old new x z (Passes now)
    first_passes rest = record {
      each = λ start c s.
          let a = first_comes.each start c s in
          let b = rest.each start a.0 a.2 in
          (b.0, a.1 b.0 b.1, b.2, Tells-then c a.0 b.0 x y z a.3 b.3);
    }

    pub first_advances : Leads stream mid new y z (Onward now) → Leads stream old new x z (Advances now)
    first_advances rest = record {
      each = λ start c s.
          let a = turn.each start c s in
          let b = rest.each start a.0 a.2 in
          (b.0, record { at = next; first = due start c s; due = le; between = a.0; comes = a.1; onward = b.1 }, b.2, Tells-then c a.0 b.0 x y z a.3 b.3);
    }
