-- The reasons of frames and packets, and which frames hold a message.
use Rattle.std.proofs.Common.{◌≡◌, ◌≢◌, ℕ, ◌+◌, ◌/◌, ◌^◌, ◌<◌, true, eqb, leb, ltb, ◌&&◌, List, [], ◌∷◌, Option, Some, None, false, MatchOption, length, drop, slice_index, refl, arith, inl, inr}
use Rattle.std.proofs.lemmas.Bool.{cases_Bool, cases_lt, and_parts, and_from, leb-true, le-leb, eqb-true, eqb-false, eq-eqb, lt-ltb, le-ltb, ltb-true, false_from_ne_true}
use Rattle.byteorder.specs.Endian.{big_number}
use Rattle.nd_addr.specs.declared.ip6.Ip6.{Ip6}
use Rattle.nd_addr.specs.declared.role.Role.{Role}
use Rattle.nd_addr.specs.declared.why.Why.{Why}
use Rattle.nd_addr.specs.declared.why.Why.TheVariants.{FrameShort, NotIpv6, HeaderShort, Version, PayloadShort}
use Rattle.nd_addr.specs.Ip6.{packet_of, payload_length_of}
use Rattle.nd_decode.specs.declared.message_type.MessageType.{MessageType}
use Rattle.nd_decode.specs.MessageType.{type_number, IsOfType}
use Rattle.nd_decode.proofs.Types.{none_known, type_known}
use Rattle.nd_addr.specs.Places.{packet_in, parts_in}
use Rattle.nd_validity.specs.Reasons.{IsMessage, IsReason, IsFirstOf, NoneOf}
use Rattle.nd_validity.specs.Hearing.{Outcome, dropped, outcome_of_packet, outcome_in_frame, hearing_in_some_role, is_message}

-- the reasons of frames and packets
abbrev pub frame_reasons : List Why
frame_reasons = FrameShort ∷ NotIpv6 ∷ HeaderShort ∷ Version ∷ PayloadShort ∷ []

-- what the function gives where one of them holds, and where none does
pub data IsFramed (frame : List ℕ) (role : Role) : Outcome → Type 0 where
  no_packet : {why : Why} → IsFirstOf (IsReason frame role) frame_reasons why → IsFramed frame role (dropped why)
  packet : NoneOf (IsReason frame role) frame_reasons → IsFramed frame role (outcome_of_packet (parts_in frame))

pub framed : (frame : List ℕ) (role : Role) → IsFramed frame role (hearing_in_some_role frame)
unfolding hearing_in_some_role
framed frame role =
    elim (cases_lt (length frame) 14) [
      | inl short ↦ rw (lt-ltb _ _ short) (no_packet (inl (refl, short)))
      | inr long ↦
          let not_short : length frame < 14 → ⊥ = λ lt. omega (arith, lt, long) in
          rw (le-ltb _ _ long) (elim (cases_Bool (eqb (big_number 2 (drop 12 frame)) 0x86dd)) [
            | inr another ↦ rw another (no_packet (inr (not_short, inl (refl, eqb-false _ _ another))))
            | inl ipv6 ↦ rw ipv6 (packets frame role not_short (λ ne. ne (eqb-true _ _ ipv6)))
          ])
    ]
  where
    packets : (f : List ℕ) (r : Role) → (length f < 14 → ⊥) → (big_number 2 (drop 12 f) ≢ 0x86dd → ⊥) → IsFramed f r (outcome_in_frame (packet_of (packet_in f)))
    packets f r no_short no_other = elim (cases_lt (length (packet_in f)) 40) [
      | inl short ↦ rw (lt-ltb _ _ short) (no_packet (inr (no_short, inr (no_other, inl (refl, short)))))
      | inr long ↦
          let not_short : length (packet_in f) < 40 → ⊥ = λ lt. omega (arith, lt, long) in
          rw (le-ltb _ _ long) (elim (cases_Bool (eqb (big_number 4 (packet_in f) / 2 ^ 28) 6)) [
            | inr another ↦ rw another (no_packet (inr (no_short, inr (no_other, inr (not_short, inl (refl, eqb-false _ _ another))))))
            | inl six ↦ rw six (elim (cases_lt (length (packet_in f)) (40 + payload_length_of (packet_in f))) [
              | inl less ↦ rw (lt-ltb _ _ less) (no_packet (inr (no_short, inr (no_other, inr (not_short, inr ((λ ne. ne (eqb-true _ _ six)), inl (refl, less)))))))
              | inr whole ↦ rw (le-ltb _ _ whole) (packet (no_short, (no_other, (not_short, ((λ ne. ne (eqb-true _ _ six)), ((λ lt. omega (arith, lt, whole)), tt))))))
            ])
          ])
    ]

-- ---- messages

pub message_is : (header : Ip6) (payload : List ℕ) → is_message header payload ≡ true → IsMessage header payload
message_is header payload e =
    let a = and_parts (eqb header.next_header 58 && ltb 0 (length payload) && leb 133 (slice_index payload 0)) (leb (slice_index payload 0) 137) e in
    let b = and_parts (eqb header.next_header 58 && ltb 0 (length payload)) (leb 133 (slice_index payload 0)) a.0 in
    let c = and_parts (eqb header.next_header 58) (ltb 0 (length payload)) b.0 in
    record { icmpv6 = eqb-true _ _ c.0; kind = record { some = ltb-true _ _ c.1; least = leb-true _ _ b.1; most = leb-true _ _ a.1 } }

pub is_tested : (header : Ip6) (payload : List ℕ) → IsMessage header payload → is_message header payload ≡ true
is_tested header payload h =
    and_from (eqb header.next_header 58 && ltb 0 (length payload) && leb 133 (slice_index payload 0)) (leb (slice_index payload 0) 137)
    (and_from (eqb header.next_header 58 && ltb 0 (length payload)) (leb 133 (slice_index payload 0))
    (and_from (eqb header.next_header 58) (ltb 0 (length payload)) (eq-eqb _ _ h.icmpv6) (lt-ltb _ _ h.kind.some))
    (le-leb _ _ h.kind.least))
    (le-leb _ _ h.kind.most)

-- the type that its first byte tells
pub typed : (header : Ip6) (payload : List ℕ) (found : Option MessageType) → header.next_header ≡ 58 → length payload ≢ 0
    → MatchOption found ((kind : MessageType) → slice_index payload 0 ≢ type_number kind) (λ kind. slice_index payload 0 ≡ type_number kind)
    → MatchOption found (is_message header payload ≡ false) (λ kind. (is_message header payload ≡ true) × IsOfType kind payload)
typed header payload None icmpv6 some h = false_from_ne_true _ (λ e. none_known payload (message_is header payload e).kind h)
typed header payload (Some kind) icmpv6 some h =
    let is : IsOfType kind payload = record { some = omega (arith, some); kind_is = h } in
    (is_tested header payload (record { icmpv6 = icmpv6; kind = type_known kind payload is }), is)
