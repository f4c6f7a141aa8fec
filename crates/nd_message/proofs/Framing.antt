-- The frame of a message is its headers and the message, and carries it.
use Rattle.std.proofs.Common.{◌≡◌, ℕ, List, [], ◌++◌, length, sym, ap, subst, ◌∙◌, arith, ◌∷◌, drop, append_assoc, ◌+◌}
use Rattle.std.proofs.lemmas.List.{append-nil, length-append, length-drop, drop_at, drop-drop}
use Rattle.byteorder.specs.Endian.{big_number}
use Rattle.nd_addr.specs.declared.addr.Addr.{Addr}
use Rattle.nd_addr.specs.declared.mac.Mac.{Mac}
use Rattle.nd_addr.specs.declared.ip6.Ip6.{Ip6}
use Rattle.nd_addr.specs.Checksum.{IsGoodSum}
use Rattle.nd_addr.specs.Frame.{written_headers}
use Rattle.nd_addr.specs.Ip6.{FitsHeader, written_packet}
use Rattle.nd_addr.proofs.Written.{IsPacket, framed, packet_placed, headers_first}
use Rattle.nd_decode.specs.Message.{Parts, Spells}
use Rattle.nd_decode.specs.Carried.{HoldsMessage, Carries}
use Rattle.nd_message.specs.Spelling.{written_length, written_message}
use Rattle.nd_message.specs.Frame.{message_header, message_frame}
use Rattle.nd_message.specs.WellFormed.{IsWellFormed}
use Rattle.nd_message.proofs.Written.{message_good, message_spelled, message_short, message_length}

-- the headers, and the message behind them
pub frame_parts : (to from : Mac) (source destination : Addr) (m : Parts)
    → message_frame to from source destination m ≡ written_headers to from (message_header source destination) (written_length m) ++ written_message source destination m
unfolding message_frame
frame_parts to from source destination m =
    let header = message_header source destination in
    let message = written_message source destination m in
    headers_first to from header message ∙ ap (λ (n : ℕ). written_headers to from header n ++ message) (message_length source destination m)

packet_holds : (source destination : Addr) (m : Parts) → length source.0 ≡ 16 → length destination.0 ≡ 16 → IsWellFormed m
    → HoldsMessage (written_packet (message_header source destination) (written_message source destination m)) source destination m
packet_holds source destination m s d w =
    let header = message_header source destination in
    let payload = written_message source destination m in
    let fits : FitsHeader header = record { traffic_class = omega arith; flow_label = omega arith; source = s; destination = d } in
    let p : IsPacket (written_packet header payload) header payload = subst (λ (bytes : List ℕ). IsPacket bytes header payload) (append-nil (written_packet header payload)) (packet_placed header payload [] fits (message_short source destination m w)) in
    record {
      header = omega (arith, p.long);
      version = p.version;
      whole = omega (arith, p.long, p.told);
      source_is = ap (λ (h : Ip6). h.source) p.header_is;
      destination_is = ap (λ (h : Ip6). h.destination) p.header_is;
      hop_limit = ap (λ (h : Ip6). h.hop_limit) p.header_is;
      icmpv6 = ap (λ (h : Ip6). h.next_header) p.header_is;
      sum = subst (λ (bytes : List ℕ). IsGoodSum source.0 destination.0 bytes) (sym p.payload_is) (message_good source destination m s d);
      spelled = subst (λ (bytes : List ℕ). Spells bytes m) (sym p.payload_is) (message_spelled source destination m w);
    }

pub frame_carries : (to from : Mac) (source destination : Addr) (m : Parts) → length to.0 ≡ 6 → length from.0 ≡ 6 → length source.0 ≡ 16 → length destination.0 ≡ 16 → IsWellFormed m
    → Carries (message_frame to from source destination m) source destination m
unfolding message_frame
frame_carries to from source destination m t f s d w =
    let h = framed to.0 from.0 (written_packet (message_header source destination) (written_message source destination m)) t f in
    record { ethernet = h.long; ipv6 = h.ipv6; packet = subst (λ (packet : List ℕ). HoldsMessage packet source destination m) (sym h.behind) (packet_holds source destination m s d w) }

-- ---- another Ethernet destination

-- what stands behind the destination of a frame
behind_destination : (to from packet : List ℕ) → to ++ from ++ (0x86 ∷ 0xdd ∷ []) ++ packet ≡ to ++ (from ++ (0x86 ∷ 0xdd ∷ packet))
behind_destination to from packet = append_assoc (to ++ from) (0x86 ∷ 0xdd ∷ []) packet ∙ append_assoc to from (0x86 ∷ 0xdd ∷ packet)

pub readdressed : (to any from : Mac) (source destination : Addr) (m : Parts) → length any.0 ≡ 6
    → to.0 ++ drop 6 (message_frame any from source destination m) ≡ message_frame to from source destination m
unfolding message_frame
readdressed to any from source destination m a =
    let packet = written_packet (message_header source destination) (written_message source destination m) in
    ap (λ (xs : List ℕ). to.0 ++ drop 6 xs) (behind_destination any.0 from.0 packet)
    ∙ ap (λ (xs : List ℕ). to.0 ++ xs) (drop_at any.0 (from.0 ++ (0x86 ∷ 0xdd ∷ packet)) 6 a)
    ∙ sym (behind_destination to.0 from.0 packet)

-- what stands further behind stays
behind_same : (n : ℕ) (to frame : List ℕ) → length to ≡ 6 → drop (6 + n) (to ++ drop 6 frame) ≡ drop (6 + n) frame
behind_same n to frame t = sym (drop-drop n 6 (to ++ drop 6 frame)) ∙ ap (drop n) (drop_at to (drop 6 frame) 6 t) ∙ drop-drop n 6 frame

pub readdressed_carries : (to : Mac) (frame : List ℕ) (source destination : Addr) (m : Parts) → length to.0 ≡ 6 → Carries frame source destination m → Carries (to.0 ++ drop 6 frame) source destination m
readdressed_carries to frame source destination m t h = record {
  ethernet = omega (arith, t, h.ethernet, length-append to.0 (drop 6 frame), length-drop 6 frame);
  ipv6 = ap (big_number 2) (behind_same 6 to.0 frame t) ∙ h.ipv6;
  packet = subst (λ (packet : List ℕ). HoldsMessage packet source destination m) (sym (behind_same 8 to.0 frame t)) h.packet;
}
