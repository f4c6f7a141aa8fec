-- A frame is heard as a message exactly where it carries the message.
use Rattle.std.proofs.Common.{◌≡◌, ◌≢◌, ◌↔◌, ℕ, ◌+◌, ◌%◌, ◌<◌, ◌≤◌, true, false, ltb, List, length, Option, Some, None, Ok, refl, sym, ap, subst, ◌∙◌, arith, inl, inr}
use Rattle.std.proofs.lemmas.Bool.{cases_Bool, cases_lt, cases_eq, eq-eqb, le-ltb}
use Rattle.nd_addr.specs.declared.addr.Addr.{Addr}
use Rattle.nd_addr.specs.declared.ip6.Ip6.{Ip6}
use Rattle.nd_addr.specs.declared.role.Role.{Role}
use Rattle.nd_addr.specs.declared.why.Why.{Why}
use Rattle.nd_addr.specs.Checksum.{total, IsGoodSum}
use Rattle.nd_addr.specs.Ip6.{header_of, payload_length_of, payload_of, packet_of}
use Rattle.nd_addr.specs.Places.{packet_in, header_in, payload_in}
use Rattle.nd_decode.specs.Message.{Parts}
use Rattle.nd_decode.specs.Decoding.{decode_of}
use Rattle.nd_decode.specs.Carried.{HoldsMessage, Carries}
use Rattle.nd_decode.proofs.Types.{spelled_known}
use Rattle.nd_decode.proofs.Deciding.{decode_spelled}
use Rattle.nd_validity.specs.Validity.{fault_of, is_not_for}
use Rattle.nd_validity.specs.Hearing.{Outcome, valid, Hears, HearsInSomeRole, has_good_sum, is_message, unless, outcome_of_message, outcome_in_frame, hearing_in_some_role, taken_by, hearing_of}
use Rattle.nd_validity.proofs.Frames.{is_tested}
use Rattle.nd_validity.proofs.Deciding.{sum_tested, hears, hears_one, hears_in_some_role, hears_one_in_some_role}

-- ---- what is carried is heard, or dropped for its first fault

message_heard : (header : Ip6) (source destination : Addr) (m : Parts) → header.source ≡ source → header.destination ≡ destination
    → outcome_of_message header (Ok m) ≡ unless (fault_of source destination m) (valid source destination m)
message_heard header source destination m e f =
    ap (λ (a : Addr). unless (fault_of a header.destination m) (valid a header.destination m)) e ∙ ap (λ (b : Addr). unless (fault_of source b m) (valid source b m)) f

good_sum_at : (a b : Addr) (source destination : Addr) (message : List ℕ) → a ≡ source → b ≡ destination → IsGoodSum source.0 destination.0 message → has_good_sum a b message ≡ true
good_sum_at a b source destination message e f h =
    sum_tested a b message (subst (λ (x : Addr). IsGoodSum x.0 b.0 message) (sym e) (subst (λ (x : Addr). IsGoodSum source.0 x.0 message) (sym f) h))

packet_heard : (packet : List ℕ) (source destination : Addr) (m : Parts) → HoldsMessage packet source destination m
    → outcome_in_frame (packet_of packet) ≡ unless (fault_of source destination m) (valid source destination m)
packet_heard packet source destination m h =
    let e1 : ltb (length packet) 40 ≡ false = le-ltb _ _ h.header in
    let e2 = eq-eqb _ _ h.version in
    let e3 : ltb (length packet) (40 + payload_length_of packet) ≡ false = le-ltb _ _ h.whole in
    let is : is_message (header_of packet) (payload_of packet) ≡ true = is_tested (header_of packet) (payload_of packet) (record { icmpv6 = h.icmpv6; kind = spelled_known (payload_of packet) m h.spelled }) in
    let hop = eq-eqb _ _ h.hop_limit in
    let sum = good_sum_at (header_of packet).source (header_of packet).destination source destination (payload_of packet) h.source_is h.destination_is h.sum in
    let read : decode_of (payload_of packet) ≡ Ok m = decode_spelled (payload_of packet) m h.spelled in
    rw (e1, e2, e3) (rw is (rw hop (rw sum (rw read (message_heard (header_of packet) source destination m h.source_is h.destination_is)))))

carried : (frame : List ℕ) (source destination : Addr) (m : Parts) → Carries frame source destination m
    → hearing_in_some_role frame ≡ unless (fault_of source destination m) (valid source destination m)
unfolding hearing_in_some_role
carried frame source destination m h =
    let e1 : ltb (length frame) 14 ≡ false = le-ltb _ _ h.ethernet in
    let e2 = eq-eqb _ _ h.ipv6 in
    rw (e1, e2) (packet_heard (packet_in frame) source destination m h.packet)

-- ---- what is heard is carried

at_least : (a b : ℕ) → (a < b → ⊥) → b ≤ a
at_least a b h = elim (cases_lt a b) [ inl lt ↦ absurd (h lt) | inr le ↦ le ]

equal_by : (a b : ℕ) → (a ≢ b → ⊥) → a ≡ b
equal_by a b h = elim (cases_eq a b) [ inl e ↦ e | inr ne ↦ absurd (h ne) ]

good_by : (s d message : List ℕ) → (((IsGoodSum s d message) → ⊥) → ⊥) → IsGoodSum s d message
good_by s d message h =
    elim (cases_lt 0 (total s d message)) [
      | inr none ↦ absurd (h (λ g. omega (arith, g.0, none)))
      | inl some ↦ elim (cases_eq (total s d message % 65535) 0) [ inl e ↦ (some, e) | inr ne ↦ absurd (h (λ g. ne g.1)) ]
    ]

carried_by : (frame : List ℕ) (role : Role) (source destination : Addr) (m : Parts) → Hears frame role (valid source destination m) → Carries frame source destination m
carried_by frame role source destination m h =
    let none = h.0 in
    let sum = good_by (header_in frame).source.0 (header_in frame).destination.0 (payload_in frame) (λ g. none.1.1.1.1.1.1.0 (h.1, g)) in
    record {
      ethernet = at_least _ _ none.0;
      ipv6 = equal_by _ _ none.1.0;
      packet =
          record {
            header = at_least _ _ none.1.1.0;
            version = equal_by _ _ none.1.1.1.0;
            whole = at_least _ _ none.1.1.1.1.0;
            source_is = sym h.2;
            destination_is = sym h.3;
            hop_limit = equal_by _ _ (λ ne. none.1.1.1.1.1.0 (h.1, ne));
            icmpv6 = h.1.icmpv6;
            sum = subst (λ (a : Addr). IsGoodSum a.0 destination.0 (payload_in frame)) (sym h.2) (subst (λ (b : Addr). IsGoodSum (header_in frame).source.0 b.0 (payload_in frame)) (sym h.3) sum);
            spelled = h.4;
          };
    }

-- ---- both

no_fault_by : (fault : Option Why) (source destination : Addr) (m : Parts) → unless fault (valid source destination m) ≡ valid source destination m → fault ≡ None
no_fault_by None source destination m e = refl
no_fault_by (Some why) source destination m e = absurd cc

taken_whole : (role : Role) (fault : Option Why) (source destination : Addr) (m : Parts) → taken_by role (unless fault (valid source destination m)) ≡ valid source destination m
    → (fault ≡ None) × (is_not_for role m.body ≡ false)
taken_whole role (Some why) source destination m e = absurd cc
taken_whole role None source destination m e = elim (cases_Bool (is_not_for role m.body)) [
  | inl on ↦ absurd (let f = rw on at e in cc)
  | inr off ↦ (refl, off)
]

pub heard_exactly : (frame : List ℕ) (role : Role) (source destination : Addr) (m : Parts)
    → (hearing_of frame role ≡ valid source destination m) ↔ (Carries frame source destination m × (fault_of source destination m ≡ None) × (is_not_for role m.body ≡ false))
heard_exactly frame role source destination m = (
  λ e.
      let c = carried_by frame role source destination m (subst (λ (o : Outcome). Hears frame role o) e (hears frame role)) in
      let t = taken_whole role (fault_of source destination m) source destination m (sym (ap (taken_by role) (carried frame source destination m c)) ∙ e) in
      (c, t.0, t.1),
  λ h.
      let whole : hearing_in_some_role frame ≡ valid source destination m = carried frame source destination m h.0 ∙ ap (λ (fault : Option Why). unless fault (valid source destination m)) h.1 in
      let off : is_not_for role m.body ≡ false = h.2 in
      ap (taken_by role) whole ∙ rw off refl,
)

pub in_some_role_exactly : (frame : List ℕ) (source destination : Addr) (m : Parts)
    → (hearing_in_some_role frame ≡ valid source destination m) ↔ (Carries frame source destination m × (fault_of source destination m ≡ None))
in_some_role_exactly frame source destination m = (
  λ e.
      let h = subst (λ (o : Outcome). HearsInSomeRole frame o) e (hears_in_some_role frame) in
      let c = carried_by frame h.0 source destination m h.1 in
      (c, no_fault_by (fault_of source destination m) source destination m (sym (carried frame source destination m c) ∙ e)),
  λ h. carried frame source destination m h.0 ∙ ap (λ (fault : Option Why). unless fault (valid source destination m)) h.1,
)

pub heard : (frame : List ℕ) (role : Role) (source destination : Addr) (m : Parts)
    → Hears frame role (valid source destination m) ↔ (Carries frame source destination m × (fault_of source destination m ≡ None) × (is_not_for role m.body ≡ false))
heard frame role source destination m =
    let o = valid source destination m in (
      λ h. (heard_exactly frame role source destination m).0 (hears_one frame role (hearing_of frame role) o (hears frame role) h),
      λ h. subst (λ (x : Outcome). Hears frame role x) ((heard_exactly frame role source destination m).1 h) (hears frame role),
    )

pub in_some_role : (frame : List ℕ) (source destination : Addr) (m : Parts)
    → HearsInSomeRole frame (valid source destination m) ↔ (Carries frame source destination m × (fault_of source destination m ≡ None))
in_some_role frame source destination m =
    let o = valid source destination m in (
      λ h. (in_some_role_exactly frame source destination m).0 (hears_one_in_some_role frame o h),
      λ h. subst (λ (x : Outcome). HearsInSomeRole frame x) ((in_some_role_exactly frame source destination m).1 h) (hears_in_some_role frame),
    )
