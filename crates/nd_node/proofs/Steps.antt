-- What an event does to the chronicle that a node stands for.
use Rattle.std.proofs.Common.{◌≡◌, ℕ, suc, ◌<◌, ◌≤◌, false, List, [], ◌∷◌, ◌++◌, append-nil, refl, sym, ◌∙◌, ap, arith}
use Rattle.std.specs.Prelude.{Bool, nat_lt, if◌then◌else◌}
use Rattle.std.proofs.lemmas.Bool.{lt-ltb}
use Rattle.rand_core.specs.Stream.{Stream}
use Rattle.nd_table.proofs.Tests.{by_true, by_false}
use Rattle.nd_chronicle.specs.Start.{Start}
use Rattle.nd_chronicle.specs.Happening.{Chronicle, Passed, Shown, TooLate, last_moment}
use Rattle.nd_chronicle.specs.Shown as shown
use Rattle.nd_chronicle.specs.Shown.{AreRows}
use Rattle.nd_chronicle.specs.Told.{items_at, items}
use Rattle.nd_chronicle.specs.Due.{comes}
use Rattle.nd_chronicle.specs.Event as events
use Rattle.nd_chronicle.specs.Answer as answers
use Rattle.nd_chronicle.specs.History.{Walk, over, adds, passes}
use Rattle.nd_out.specs.declared.out.Out.{Out}
use Rattle.nd_out.specs.Out.{happening}
use Rattle.nd_steps.specs.Outputs.{happenings}
use Rattle.nd_steps.proofs.Quiet.{Quiet}
use Rattle.nd_steps.proofs.Remembering.{remembers_later}
use Rattle.nd_steps.proofs.RouterSide.{side_stands}
use Rattle.nd_steps.proofs.Telling.{one, above_silent, Tells-then, one_more}
use Rattle.nd_node.specs.declared.node.Node.{Node}
use Rattle.nd_node.specs.NodeKept.{Stands, next_of}
use Rattle.nd_node.specs.Time.{Leads, Passes}
use Rattle.nd_node.specs.Event.{FollowsBy}
use Rattle.nd_node.specs.EventKept.{AddsEvent}
use Rattle.nd_node.proofs.Quiet.{stands_quiet}
use Rattle.nd_node.proofs.Walks.{last_of}

-- ---- time has passed

-- a node at which nothing is due up to a moment stands for the same with that moment
pub passed : {R A : Type 0} (stream : R → Stream) (start : Start) (old new : Node R A) (c : Chronicle) (now : ℕ) → Stands stream start old c → last_moment start.at c ≤ now → now < next_of old
    → new ≡ record old { last = now } → Stands stream start new ((now, Passed) ∷ c)
passed stream start old new c now s le settled is = rw is (record {
  role = s.role;
  mac = s.mac;
  chosen = s.chosen;
  policies = s.policies;
  address_mac = s.address_mac;
  address_transmits = s.address_transmits;
  limits = s.limits;
  params = s.params;
  routers = s.routers;
  prefixes = s.prefixes;
  addresses = s.addresses;
  neighbours = s.neighbours;
  dns = s.dns;
  redirects = s.redirects;
  solicitations = record { assigned = s.solicitations.assigned; sent = s.solicitations.sent; heard = s.solicitations.heard };
  router = side_stands start old.router c ((now, Passed) ∷ c) refl s.router;
  generator = s.generator;
  last = refl;
  prefixes_by_then = omega (arith, s.prefixes_by_then, le);
  servers_by_then = omega (arith, s.servers_by_then, le);
  names_by_then = omega (arith, s.names_by_then, le);
  memo = remembers_later old.last now old.choice old.addresses.addresses old.prefixes.entries old.neighbours.entries old.routers (omega (arith, s.last, le)) s.memo;
  in_time = omega (arith, settled);
})

-- ---- what is reported alone

shown_is_quiet : (at : ℕ) (rows : List (List ℕ)) (c : Chronicle) → ((start : ℕ) → last_moment start c ≡ at) → Quiet c ((at, Shown rows) ∷ c)
shown_is_quiet at rows c now = record {
  parameters = refl;
  neighbours = refl;
  routers = refl;
  prefixes = refl;
  addresses = refl;
  servers = refl;
  names = refl;
  redirects = refl;
  solicited = refl;
  router = λ start. refl;
  stream = λ start. refl;
  last = λ start. sym (now start);
}

too_late_is_quiet : (at last : ℕ) (c : Chronicle) → Quiet c ((at, TooLate last) ∷ c)
too_late_is_quiet at last c = record {
  parameters = refl;
  neighbours = refl;
  routers = refl;
  prefixes = refl;
  addresses = refl;
  servers = refl;
  names = refl;
  redirects = refl;
  solicited = refl;
  router = λ start. refl;
  stream = λ start. refl;
  last = λ start. refl;
}

-- ---- events

-- only time passes
pub passing : {R A : Type 0} (stream : R → Stream) (old new : Node R A) (outs : List (ℕ × Out A)) (now : ℕ) → now < next_of old → new ≡ record old { last = now } → AddsEvent stream old new outs outs now events.Passes answers.Done
passing stream old new outs now settled is = record {
  each = λ start c s le. (
    (now, Passed) ∷ c,
    refl,
    passed stream start old new c now s le settled is,
    record { newer = []; told = refl; outs = sym (append-nil _) },
    refl,
  );
}

-- a table is shown
pub showing : {R A : Type 0} (stream : R → Stream) (old new : Node R A) (x y : List (ℕ × Out A)) (now : ℕ) (table : shown.Table) (rows : List (List ℕ)) (out : Out A) → happening out ≡ Shown rows
    → ((start : Start) (c : Chronicle) → Stands stream start old c → last_moment start.at c ≤ now → AreRows start c now table rows)
    → now < next_of old → new ≡ record old { last = now } → y ≡ x ++ (now, out) ∷ [] → AddsEvent stream old new x y now (events.Shows table) answers.Done
showing stream old new x y now table rows out out_is are settled is told = record {
  each = λ start c s le.
      let later = passed stream start old new c now s le settled is in (
        (now, Shown rows) ∷ (now, Passed) ∷ c,
        (rows, passed_rows start c table (are start c s le), refl),
        stands_quiet stream start new _ _ (shown_is_quiet now rows _ (λ at. refl)) later,
        record {
          newer = (now, Shown rows) ∷ [];
          told = above_silent (items c) (items_at (now, Shown rows));
          outs = one_more x y now out told ∙ ap (λ h. happenings x ++ (now, h) ∷ []) out_is;
        },
        refl,
      );
}
  where
    -- what is shown is the same once time has passed
    passed_rows : (start : Start) (c : Chronicle) (t : shown.Table) → AreRows start c now t rows → AreRows start ((now, Passed) ∷ c) now t rows
    passed_rows start c shown.NeighbourTable h = h
    passed_rows start c shown.RouterTable h = h
    passed_rows start c shown.PrefixTable h = h
    passed_rows start c shown.AddressTable h = h
    passed_rows start c shown.DnsTable h = h
    passed_rows start c shown.RedirectTable h = h
    passed_rows start c shown.ParameterTable h = h
    passed_rows start c shown.AdvertiseTable h = h
    passed_rows start c shown.RouteTable h = h

-- ---- an event comes

-- the moments of a walk are not above its end
pub walk_last : (start : Start) (c d : Chronicle) (moment end : ℕ) → Walk start c moment end d → last_moment start.at c ≤ end → last_moment start.at d ≤ end
walk_last start c d moment end (over past) le = le
walk_last start c d moment end (adds what soon due rest) le =
    walk_last start (comes start moment what c) d moment end rest (rw (last_of start c moment what due) soon)
walk_last start c d moment end (passes soon due rest) le = walk_last start c d (suc moment) end rest le

not_before : (now last : ℕ) → last ≤ now → nat_lt now last ≡ false
not_before now last le = grind (arith, le)

-- what is asked of the last moment of a node is asked of its chronicle
asked_of : (last now : ℕ) (event : events.Event) (start : Start) (c d : Chronicle) → last ≡ last_moment start.at c → now < last → answers.Past last ≡ answers.answer_to start c now event d
asked_of last now event start c d is lt =
    ap answers.Past is ∙ sym (ap (λ (late : Bool). if late then answers.Past (last_moment start.at c) else answers.answer_after d (answers.is_packet event)) (lt-ltb now (last_moment start.at c) (omega (arith, lt, is))))

-- one that comes too late is reported alone, and answered so
pub too_late : {R A : Type 0} (stream : R → Stream) (node : Node R A) (x y : List (ℕ × Out A)) (now : ℕ) (event : events.Event) (out : Out A) → happening out ≡ TooLate node.last → now < node.last
    → y ≡ x ++ (now, out) ∷ [] → Leads stream node node x y (FollowsBy now event (answers.Past node.last))
too_late stream node x y now event out out_is lt told = record {
  each = λ start c s.
      let last = last_moment start.at c in (
        (now, TooLate last) ∷ c,
        (by_true (nat_lt now last) _ _ (lt-ltb now last (omega (arith, lt, s.last))) refl, asked_of node.last now event start c ((now, TooLate last) ∷ c) s.last lt),
        stands_quiet stream start node _ _ (too_late_is_quiet now last c) s,
        record {
          newer = (now, TooLate last) ∷ [];
          told = one (items c) (items_at (now, TooLate last));
          outs = one_more x y now out told ∙ ap (λ h. happenings x ++ (now, h) ∷ []) (out_is ∙ ap TooLate s.last);
        },
      );
}

-- one that comes too late comes at no moment of a chronicle
pub not_past : {R A : Type 0} (stream : R → Stream) (old new : Node R A) (x y : List (ℕ × Out A)) (now : ℕ) (event : events.Event) {answer : answers.Answer} → now < old.last → AddsEvent stream old new x y now event answer
not_past stream old new x y now event {answer} lt = record { each = λ start c s le. absurd (omega (arith, lt, le, s.last)) }

-- another one adds what it adds, once all that is due up to it is done
pub follows : {R A : Type 0} (stream : R → Stream) (old mid new : Node R A) (x y z : List (ℕ × Out A)) (now : ℕ) (event : events.Event) {answer : answers.Answer} → old.last ≤ now
    → Leads stream old mid x y (Passes now) → AddsEvent stream mid new y z now event answer → Leads stream old new x z (FollowsBy now event answer)
follows stream old mid new x y z now event {answer} le settled added = record {
  each = λ start c s.
      let came : last_moment start.at c ≤ now = omega (arith, le, s.last) in
      let e = settled.each start c s in
      let d = added.each start e.0 e.2 (walk_last start c e.0 (last_moment start.at c) now e.1 came) in (
        d.0,
        (
          by_false (nat_lt now (last_moment start.at c)) _ _ (not_before now (last_moment start.at c) came) (e.0, e.1, d.1),
          d.4 ∙ sym (ap (λ (late : Bool). if late then answers.Past (last_moment start.at c) else answers.answer_after d.0 (answers.is_packet event)) (not_before now (last_moment start.at c) came)),
        ),
        d.2,
        Tells-then c e.0 d.0 x y z e.3 d.3,
      );
}
