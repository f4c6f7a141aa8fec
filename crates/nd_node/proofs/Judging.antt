-- What a node makes of a frame, and the chronicle that it stands for.
use Rattle.std.proofs.Common.{◌≡◌, ◌↔◌, ℕ, ◌+◌, ◌-◌, ◌<◌, ◌≤◌, Bool, true, false, List, [], ◌∷◌, ◌++◌, length, take, drop, min, refl, sym, ◌∙◌, ap, subst, arith}
use Rattle.std.specs.Prelude.{slice_range}
use Rattle.std.proofs.lemmas.List.{length-take, length-drop, take_min}
use Rattle.rand_core.specs.Stream.{Stream}
use Rattle.nd_addr.specs.declared.addr.Addr.{Addr}
use Rattle.nd_addr.specs.declared.mac.Mac.{Mac}
use Rattle.nd_addr.specs.declared.role.Role.{Role}
use Rattle.nd_addr.specs.declared.why.Why.{Why}
use Rattle.nd_addr.specs.declared.why.Why.TheVariants.{NotForUs, NotFirstHop}
use Rattle.nd_addr.specs.Ip6.{PacketParts, ipv6_header_length, payload_length_of}
use Rattle.nd_addr.specs.Number.{number_of}
use Rattle.nd_addr.specs.Places.{packet_in}
use Rattle.nd_decode.specs.Message.{Parts, parts}
use Rattle.nd_decode.specs.Pieces.{options_left}
use Rattle.nd_decode.specs.declared.message_ref.MessageRef.{MessageRef}
use Rattle.nd_decode.specs.Option.{Said}
use Rattle.nd_decode.specs.declared.body.Body.{Body}
use Rattle.nd_decode.specs.declared.body.Body.TheVariants as bodies
use Rattle.nd_decode.specs.declared.redirect.Redirect.{Redirect}
use Rattle.nd_validity.specs.Hearing.{Outcome, Hears, valid, other, dropped}
use Rattle.nd_nexthop.specs.NextHop.{NextHop, via}
use Rattle.nd_chronicle.specs.Start.{Policies, Start}
use Rattle.nd_chronicle.specs.Reading.{read_body, read_options, read_outcome, reading_of}
use Rattle.nd_chronicle.specs.Solicited.{IsReadAt, body_at, outcome_at}
use Rattle.nd_decode.specs.Reading.{options_read}
use Rattle.nd_node.specs.Hearing as kept
use Rattle.nd_chronicle.specs.Happening.{Chronicle, Happening, Dropped, Up, Passed, last_moment}
use Rattle.nd_chronicle.specs.Hearing as verdicts
use Rattle.nd_chronicle.specs.Hearing.{FromFirstHop, NotFromFirstHop, IsForUs, IsPacketForUs, IsInTransit, IsDropped, IsTaken, IsStrange, IsMisdirected, IsPacket, IsPassing, IsStrangePacket, Judges, Verdict, takes_target}
use Rattle.nd_chronicle.specs.NextHop.{IsNextHop}
use Rattle.nd_chronicle.specs.Event as events
use Rattle.nd_chronicle.specs.Told.{items_at, items}
use Rattle.nd_out.specs.declared.out.Out.{Out}
use Rattle.nd_out.specs.Out.{happening}
use Rattle.nd_steps.specs.Outputs.{happenings}
use Rattle.nd_steps.proofs.Quiet.{Quiet}
use Rattle.nd_steps.proofs.Telling.{above_silent, one_more}
use Rattle.nd_chronicle.specs.Answer.{Answer, Done}
use Rattle.nd_node.specs.declared.node.Node.{Node}
use Rattle.nd_node.specs.EventKept.{AddsEvent}
use Rattle.nd_node.specs.Forwarding.{AddsForwarded}
use Rattle.nd_node.specs.Frame.{AddsAlone, Stays}
use Rattle.nd_node.specs.Hearing.{AddsMessage, Keeps, LeavesTables}
use Rattle.nd_node.specs.NodeKept.{Stands, next_of}
use Rattle.nd_chronicle.proofs.Hops.{one_next_hop}
use Rattle.nd_node.proofs.Quiet.{stands_quiet}
use Rattle.nd_node.proofs.Steps.{passed}

-- ---- what is reported alone

abbrev pub IsQuiet : ℕ → Happening → Type 0
IsQuiet now what = (c : Chronicle) → ((at : ℕ) → last_moment at c ≡ now) → Quiet c ((now, what) ∷ c)

dropped_is_quiet : (now : ℕ) (why : Why) → IsQuiet now (Dropped why)
dropped_is_quiet now why c is = record {
  parameters = refl;
  neighbours = refl;
  routers = refl;
  prefixes = refl;
  addresses = refl;
  servers = refl;
  names = refl;
  redirects = refl;
  solicited = refl;
  router = λ start. refl;
  stream = λ start. refl;
  last = λ start. sym (is start);
}

up_is_quiet : (now : ℕ) (packet : List ℕ) → IsQuiet now (Up packet)
up_is_quiet now packet c is = record {
  parameters = refl;
  neighbours = refl;
  routers = refl;
  prefixes = refl;
  addresses = refl;
  servers = refl;
  names = refl;
  redirects = refl;
  solicited = refl;
  router = λ start. refl;
  stream = λ start. refl;
  last = λ start. sym (is start);
}

module _ {R A : Type 0} (stream : R → Stream) (old new : Node R A) (x y : List (ℕ × Out A)) (now : ℕ) (out : Out A) (settled : now < next_of old) (is : new ≡ record old { last = now }) (told : y ≡ x ++ (now, out) ∷ []) where
  pub alone : (what : Happening) → IsQuiet now what → happening out ≡ what → AddsAlone stream old new x y now what
  alone what quiet out_is = record {
    each = λ start c s le. (
      stands_quiet stream start new ((now, Passed) ∷ c) ((now, what) ∷ (now, Passed) ∷ c) (quiet ((now, Passed) ∷ c) (λ at. refl)) (passed stream start old new c now s le settled is),
      record {
        newer = (now, what) ∷ [];
        told = above_silent (items c) (items_at (now, what));
        outs = one_more x y now out told ∙ ap (λ w. happenings x ++ (now, w) ∷ []) out_is;
      },
    );
  }

  pub drops : (why : Why) → happening out ≡ Dropped why → AddsAlone stream old new x y now (Dropped why)
  drops why out_is = alone (Dropped why) (dropped_is_quiet now why) out_is

  pub goes_up : (packet : List ℕ) → happening out ≡ Up packet → AddsAlone stream old new x y now (Up packet)
  goes_up packet out_is = alone (Up packet) (up_is_quiet now packet) out_is

-- ---- it stands for the same

pub stays_same : {R A : Type 0} (stream : R → Stream) (old new : Node R A) → new ≡ old → Stays stream old new
stays_same stream old new is = record { each = λ start c s. rw is s }

pub stays_keeps : {R A : Type 0} (stream : R → Stream) (old new : Node R A) → Keeps old new → Stays stream old new
stays_keeps stream old new k = record {
  each = λ start c s. record {
    role = k.role ∙ s.role;
    mac = k.mac ∙ s.mac;
    chosen = k.chosen ∙ s.chosen;
    policies = k.policies ∙ s.policies;
    address_mac = rw k.addresses s.address_mac;
    address_transmits = rw k.addresses s.address_transmits;
    limits = record {
      neighbours = k.limit ∙ s.limits.neighbours;
      routers = rw k.routers s.limits.routers;
      prefixes = rw k.prefixes s.limits.prefixes;
      addresses = rw k.addresses s.limits.addresses;
      servers = rw k.dns s.limits.servers;
      names = rw k.dns s.limits.names;
      redirects = rw k.choice s.limits.redirects;
      destinations = rw k.choice s.limits.destinations;
      waiting = k.waiting ∙ s.limits.waiting;
    };
    params = rw k.params s.params;
    routers = rw k.routers s.routers;
    prefixes = rw k.prefixes s.prefixes;
    addresses = rw k.addresses s.addresses;
    neighbours = rw k.entries s.neighbours;
    dns = rw k.dns s.dns;
    redirects = rw k.choice s.redirects;
    solicitations = rw k.solicitations s.solicitations;
    router = rw k.router s.router;
    generator = ap stream k.generator ∙ s.generator;
    last = k.last ∙ s.last;
    memo = rw (k.last, k.choice, k.addresses, k.prefixes, k.entries, k.routers) s.memo;
    prefixes_by_then = s.prefixes_by_then;
    servers_by_then = s.servers_by_then;
    names_by_then = s.names_by_then;
    in_time = rw (k.role, k.params, k.routers, k.addresses, k.entries, k.solicitations, k.router) s.in_time;
  };
}

-- ---- time that passed changes none of the questions

pub next_later : (start : Start) (c : Chronicle) (now : ℕ) (destination : Addr) (next : NextHop) → IsNextHop start c now destination next → IsNextHop start ((now, Passed) ∷ c) now destination next
next_later start c now destination next h = record {
  prefixes = h.prefixes;
  standing = h.standing;
  routers = h.routers;
  those = record { entries = h.those.entries; listed = h.those.listed; failed = h.those.failed; failures = h.those.failures; routers_are = h.those.routers_are };
  next_is = h.next_is;
}

-- ---- a message that is for the node

abbrev SameTarget : ℕ → Addr → Parts → Type 0
SameTarget now source message = (c : Chronicle) → takes_target ((now, Passed) ∷ c) source message.body ≡ takes_target c source message.body

-- it is not both from the first hop and from another node
pub one_source : (start : Start) (c : Chronicle) (now : ℕ) (source : Addr) (body : Body) → FromFirstHop start c now source body → NotFromFirstHop start c now source body → ⊥
one_source start c now source bodies.Rs from n = n
one_source start c now source (bodies.Ra ra) from n = n
one_source start c now source (bodies.Ns ns) from n = n
one_source start c now source (bodies.Na na) from n = n
one_source start c now source (bodies.Redirect r) from n = n.2 (sym (one_next_hop c now start r.destination (via (number_of source.0)) n.0 from n.1))

-- one that is for the node, and comes from where it has to, is heard
pub message_is_heard : (start : Start) (c : Chronicle) (now : ℕ) {frame : List ℕ} (source destination : Addr) (message : Parts) (verdict : Verdict) → IsForUs start c source destination message → FromFirstHop start c now source message.body
    → Judges start c now frame (valid source destination message) verdict → LeavesTables verdict → ⊥
message_is_heard start c now source destination message verdict u from (IsTaken v f) leaves = leaves
message_is_heard start c now source destination message verdict u from (IsStrange n) leaves = n u
message_is_heard start c now source destination message verdict u from (IsMisdirected v n) leaves = one_source start c now source message.body from n

-- a packet in transit goes on
pub packet_passes : (start : Start) (c : Chronicle) (now : ℕ) {frame : List ℕ} (packet : PacketParts) (verdict : Verdict) → IsInTransit start c frame packet → Judges start c now frame (other packet) verdict → LeavesTables verdict → ⊥
packet_passes start c now packet verdict t (IsPacket u) leaves = t.not_ours u
packet_passes start c now packet verdict t (IsPassing v) leaves = leaves
packet_passes start c now packet verdict t (IsStrangePacket n stranger) leaves = stranger t

-- only a Redirect has to be from the first hop
pub from_any : (start : Start) (c : Chronicle) (now : ℕ) (source : Addr) (body : Body) → ((r : Redirect) → body ≡ bodies.Redirect r → ⊥) → FromFirstHop start c now source body
from_any start c now source bodies.Rs n = tt
from_any start c now source (bodies.Ra ra) n = tt
from_any start c now source (bodies.Ns ns) n = tt
from_any start c now source (bodies.Na na) n = tt
from_any start c now source (bodies.Redirect r) n = absurd (n r refl)

-- ---- a frame

-- whether a packet is in transit is the same once time has passed
pub in_transit_later : (start : Start) (c : Chronicle) (now : ℕ) (frame : List ℕ) (packet : PacketParts) → IsInTransit start c frame packet → IsInTransit start ((now, Passed) ∷ c) frame packet
in_transit_later start c now frame packet t = record { role = t.role; not_ours = λ f. t.not_ours (record { destination_is = f.destination_is; up = f.up; allowed = f.allowed }); not_own = t.not_own; may = t.may; up = t.up; came = t.came; foreign = t.foreign }

in_transit_before : (start : Start) (c : Chronicle) (now : ℕ) (frame : List ℕ) (packet : PacketParts) → IsInTransit start ((now, Passed) ∷ c) frame packet → IsInTransit start c frame packet
in_transit_before start c now frame packet t = record { role = t.role; not_ours = λ f. t.not_ours (record { destination_is = f.destination_is; up = f.up; allowed = f.allowed }); not_own = t.not_own; may = t.may; up = t.up; came = t.came; foreign = t.foreign }

-- what the node makes of a message by its policies, and of its flag S by its neighbours, is what it reads
pub as_read : {R A : Type 0} (start : Start) (c : Chronicle) (node : Node R A) (now : ℕ) (source destination : Addr) (message read : MessageRef) (body : Body)
    → read.body ≡ read_body node.policies message.body → options_left read.options ≡ options_read (reading_of node.policies) (options_left message.options) → body ≡ body_at start c now read.body
    → valid source destination (record { body = body; options = kept.options_read node read.options }) ≡ outcome_at start c now (read_outcome node.policies node.mac (valid source destination (parts message)))
as_read start c node now source destination message read body body_is options_are at_moment =
    ap (λ (b : Body). let m : Parts = record { body = b; options = kept.options_read node read.options } in valid source destination m) (at_moment ∙ ap (body_at start c now) body_is)
    ∙ ap (λ (os : List Said). let m : Parts = record { body = body_at start c now (read_body node.policies message.body); options = read_options node.policies node.mac os } in valid source destination m) options_are

pub is_not : (answer : Bool) (P : Type 0) → answer ≡ true ↔ P → answer ≡ false → P → ⊥
is_not answer P says is p = let yes' = says.1 p in let never : ⊥ = cc in never

module _ {R A : Type 0} (stream : R → Stream) (old new : Node R A) (x y : List (ℕ × Out A)) (now : ℕ) (frame : List ℕ) where
  -- what it says by itself, at the role of the node
  by_role : (start : Start) (c : Chronicle) (outcome : Outcome) → Stands stream start old c → Hears frame old.role outcome → Hears frame start.role outcome
  by_role start c outcome s h = subst (λ (r : Role). Hears frame r outcome) s.role h

  -- the same as it is read, which the policies and the neighbours of the node say
  pub read_by_start : (start : Start) (c : Chronicle) (said outcome : Outcome) → Stands stream start old c → Hears frame old.role said → outcome ≡ outcome_at start c now (read_outcome old.policies old.mac said)
      → IsReadAt start ((now, Passed) ∷ c) now frame outcome
  read_by_start start c said outcome s h is = record {
    read = read_outcome start.policies start.mac said;
    by_frame = record { said = said; by_frame = by_role start c said s h; as_read = refl };
    at_moment = is
        ∙ ap (λ (p : Policies). outcome_at start c now (read_outcome p old.mac said)) s.policies
        ∙ ap (λ (m : Mac). outcome_at start c now (read_outcome start.policies m said)) s.mac;
  }

  -- it is dropped for what it says by itself
  pub dropped_by_frame : (why : Why) → Hears frame old.role (dropped why) → AddsAlone stream old new x y now (Dropped why) → AddsEvent stream old new x y now (events.Receives frame) Done
  dropped_by_frame why h adds = record {
    each = λ start c s le.
        let a = adds.each start c s le in (
          (now, Dropped why) ∷ (now, Passed) ∷ c,
          record { verdict = verdicts.drops why; heard = record { outcome = dropped why; by_frame = record { read = dropped why; by_frame = record { said = dropped why; by_frame = by_role start c (dropped why) s h; as_read = refl }; at_moment = refl }; by_node = IsDropped }; adds = refl },
          a.0,
          a.1,
          refl,
        );
  }

  module _ (source destination : Addr) (message : Parts) (h : (start : Start) (c : Chronicle) → Stands stream start old c → IsReadAt start ((now, Passed) ∷ c) now frame (valid source destination message)) (ours : Bool)
      (says : (start : Start) (c : Chronicle) → Stands stream start old c → ours ≡ true ↔ IsForUs start c source destination message) (same : SameTarget now source message) where
    -- time that passed doesn't change for whom it is
    for_us_later : (start : Start) (c : Chronicle) → IsForUs start c source destination message → IsForUs start ((now, Passed) ∷ c) source destination message
    for_us_later start c f = record { destination_is = f.destination_is; target = same c ∙ f.target; awake = f.awake; foreign = f.foreign; allowed = f.allowed }

    for_us_before : (start : Start) (c : Chronicle) → IsForUs start ((now, Passed) ∷ c) source destination message → IsForUs start c source destination message
    for_us_before start c f = record { destination_is = f.destination_is; target = sym (same c) ∙ f.target; awake = f.awake; foreign = f.foreign; allowed = f.allowed }

    pub message_taken : {answer : Answer} → ours ≡ true
        → ((start : Start) (c : Chronicle) → Stands stream start old c → last_moment start.at c ≤ now → FromFirstHop start ((now, Passed) ∷ c) now source message.body)
        → AddsMessage stream old new x y now source destination message answer → AddsEvent stream old new x y now (events.Receives frame) answer
    message_taken {answer} is from adds = record {
      each = λ start c s le.
          let for_us = (says start c s).0 is in
          let a = adds.each start c s le for_us.target in (
            a.0,
            record {
              verdict = verdicts.hears source destination message;
              heard = record { outcome = valid source destination message; by_frame = h start c s; by_node = IsTaken (for_us_later start c for_us) (from start c s le) };
              adds = a.1;
            },
            a.2,
            a.3,
            a.4,
          );
    }

    pub message_is_misdirected : ours ≡ true
        → ((start : Start) (c : Chronicle) → Stands stream start old c → last_moment start.at c ≤ now → NotFromFirstHop start ((now, Passed) ∷ c) now source message.body)
        → AddsAlone stream old new x y now (Dropped NotFirstHop) → AddsEvent stream old new x y now (events.Receives frame) Done
    message_is_misdirected is not_from adds = record {
      each = λ start c s le.
          let a = adds.each start c s le in (
            (now, Dropped NotFirstHop) ∷ (now, Passed) ∷ c,
            record {
              verdict = verdicts.drops NotFirstHop;
              heard = record {
                outcome = valid source destination message;
                by_frame = h start c s;
                by_node = IsMisdirected (for_us_later start c ((says start c s).0 is)) (not_from start c s le);
              };
              adds = refl;
            },
            a.0,
            a.1,
            refl,
          );
    }

    pub message_is_strange : ours ≡ false → AddsAlone stream old new x y now (Dropped NotForUs) → AddsEvent stream old new x y now (events.Receives frame) Done
    message_is_strange is adds = record {
      each = λ start c s le.
          let a = adds.each start c s le in (
            (now, Dropped NotForUs) ∷ (now, Passed) ∷ c,
            record {
              verdict = verdicts.drops NotForUs;
              heard = record {
                outcome = valid source destination message;
                by_frame = h start c s;
                by_node = IsStrange (λ f. let yes' = (says start c s).1 (for_us_before start c f) in let never : ⊥ = cc in never);
              };
              adds = refl;
            },
            a.0,
            a.1,
            refl,
          );
    }

  module _ (packet : PacketParts) (h : Hears frame old.role (other packet)) (ours : Bool) (says : (start : Start) (c : Chronicle) → Stands stream start old c → ours ≡ true ↔ IsPacketForUs start c packet) where
    -- it is to be sent on
    module _ (stranger : ours ≡ false) (passes : Bool) (in_transit : (start : Start) (c : Chronicle) → Stands stream start old c → (IsPacketForUs start c packet → ⊥) → passes ≡ true ↔ IsInTransit start c frame packet) where
      not_ours : (start : Start) (c : Chronicle) → Stands stream start old c → IsPacketForUs start c packet → ⊥
      not_ours start c s = is_not ours (IsPacketForUs start c packet) (says start c s) stranger

      pub packet_is_strange : passes ≡ false → AddsAlone stream old new x y now (Dropped NotForUs) → AddsEvent stream old new x y now (events.Receives frame) Done
      packet_is_strange is adds = record {
        each = λ start c s le.
            let a = adds.each start c s le in (
              (now, Dropped NotForUs) ∷ (now, Passed) ∷ c,
              record {
                verdict = verdicts.drops NotForUs;
                heard = record {
                  outcome = other packet;
                  by_frame = record { read = other packet; by_frame = record { said = other packet; by_frame = by_role start c (other packet) s h; as_read = refl }; at_moment = refl };
                  by_node = IsStrangePacket (λ f. not_ours start c s (record { destination_is = f.destination_is; up = f.up; allowed = f.allowed }))
                      (λ t. is_not passes (IsInTransit start c frame packet) (in_transit start c s (not_ours start c s)) is (in_transit_before start c now frame packet t));
                };
                adds = refl;
              },
              a.0,
              a.1,
              refl,
            );
      }

      pub packet_goes_on : {answer : Answer} → passes ≡ true → AddsForwarded stream old new x y now packet (events.packet_bytes frame) answer → AddsEvent stream old new x y now (events.Receives frame) answer
      packet_goes_on {answer} is adds = record {
        each = λ start c s le.
            let a = adds.each start c s le in (
              a.0,
              record {
                verdict = verdicts.goes_on packet;
                heard = record {
                  outcome = other packet;
                  by_frame = record { read = other packet; by_frame = record { said = other packet; by_frame = by_role start c (other packet) s h; as_read = refl }; at_moment = refl };
                  by_node = IsPassing (in_transit_later start c now frame packet ((in_transit start c s (not_ours start c s)).0 is));
                };
                adds = a.1;
              },
              a.2,
              a.3,
              a.4,
            );
      }

    pub packet_goes_up : ours ≡ true → AddsAlone stream old new x y now (Up (take (ipv6_header_length + payload_length_of (packet_in frame)) (packet_in frame))) → AddsEvent stream old new x y now (events.Receives frame) Done
    packet_goes_up is adds = record {
      each = λ start c s le.
          let a = adds.each start c s le in
          let f = (says start c s).0 is in (
            (now, Up (take (ipv6_header_length + payload_length_of (packet_in frame)) (packet_in frame))) ∷ (now, Passed) ∷ c,
            record {
              verdict = verdicts.goes_up packet;
              heard = record {
                outcome = other packet;
                by_frame = record { read = other packet; by_frame = record { said = other packet; by_frame = by_role start c (other packet) s h; as_read = refl }; at_moment = refl };
                by_node = IsPacket (record { destination_is = f.destination_is; up = f.up; allowed = f.allowed });
              };
              adds = refl;
            },
            a.0,
            a.1,
            refl,
          );
    }

-- what is asked of the target is the same once time has passed
pub same_target : (now : ℕ) (source : Addr) (body : Body) (options : List Said) → SameTarget now source (record { body = body; options = options })
same_target now source bodies.Rs options c = refl
same_target now source (bodies.Ra ra) options c = refl
same_target now source (bodies.Ns ns) options c = refl
same_target now source (bodies.Na na) options c = refl
same_target now source (bodies.Redirect r) options c = refl

-- ---- the bytes of a packet

ends_with_payload : (m n : ℕ) → min (40 + min (40 + n - 40) (m - 40)) m ≡ min (40 + n) m
ends_with_payload m n = omega arith

-- a payload is as long as the header says, where the frame has so many bytes
pub up_to_payload : (bytes : List ℕ) (n : ℕ) → take (40 + length (slice_range bytes 40 (40 + n))) bytes ≡ take (40 + n) bytes
up_to_payload bytes n =
    let rest : List ℕ = drop 40 bytes in
    let long : length (take (40 + n - 40) rest) ≡ min (40 + n - 40) (length bytes - 40) = length-take (40 + n - 40) rest ∙ ap (λ (k : ℕ). min (40 + n - 40) k) (length-drop 40 bytes) in
    sym (take_min (40 + length (take (40 + n - 40) rest)) bytes)
    ∙ (ap (λ (k : ℕ). take k bytes) (ap (λ (k : ℕ). min (40 + k) (length bytes)) long ∙ ends_with_payload (length bytes) n) ∙ take_min (40 + n) bytes)
