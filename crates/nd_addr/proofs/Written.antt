-- Frames and packets that are written read back as what was written.
use Rattle.std.proofs.Common.{◌≡◌, ℕ, ◌+◌, ◌-◌, ◌*◌, ◌/◌, ◌%◌, ◌^◌, ◌<◌, ◌≤◌, false, ltb, List, [], ◌∷◌, ◌++◌, length, take, drop, slice_range, Ok, refl, sym, ap, ◌∙◌, arith, append_assoc}
use Rattle.std.proofs.lemmas.Bool.{eq-eqb, le-ltb}
use Rattle.std.proofs.lemmas.List.{length-append, take_at, drop_at}
use Rattle.byteorder.specs.Endian.{big_bytes, big_number}
use Rattle.byteorder.specs.Numbers.{big_number-reads_back}
use Rattle.nd_addr.specs.declared.mac.Mac.{Mac}
use Rattle.nd_addr.specs.declared.ip6.Ip6.{Ip6}
use Rattle.nd_addr.specs.Frame.{FrameParts, frame_of, written_headers, written_frame}
use Rattle.nd_addr.specs.Ip6.{FitsHeader, PacketParts, header_of, payload_length_of, packet_of, written_header, written_packet}

-- ---- the frame

-- the places of the fields of an Ethernet header
pub record IsFramed (frame to from packet : List ℕ) : Type 0 where
  pub long : 14 ≤ length frame
  pub destination : slice_range frame 0 6 ≡ to
  pub source : slice_range frame 6 12 ≡ from
  pub ipv6 : big_number 2 (drop 12 frame) ≡ 0x86dd
  pub behind : drop 14 frame ≡ packet

pub framed : (to from packet : List ℕ) → length to ≡ 6 → length from ≡ 6 → IsFramed (to ++ from ++ (0x86 ∷ 0xdd ∷ []) ++ packet) to from packet
framed to from packet t f =
    let kind : List ℕ = 0x86 ∷ 0xdd ∷ [] in
    let addresses : length (to ++ from) ≡ 12 = omega (arith, length-append to from) in
    let front : length (to ++ from ++ kind) ≡ 14 = omega (arith, length-append (to ++ from) kind) in
    let one : to ++ from ++ kind ++ packet ≡ (to ++ from) ++ (kind ++ packet) = append_assoc (to ++ from) kind packet in
    let two : to ++ from ++ kind ++ packet ≡ to ++ (from ++ (kind ++ packet)) = one ∙ append_assoc to from (kind ++ packet) in
    record {
      long = omega (arith, length-append (to ++ from ++ kind) packet, front);
      destination = ap (take 6) two ∙ take_at to (from ++ (kind ++ packet)) 6 t;
      source = ap (λ (xs : List ℕ). take 6 (drop 6 xs)) two ∙ ap (take 6) (drop_at to (from ++ (kind ++ packet)) 6 t) ∙ take_at from (kind ++ packet) 6 f;
      ipv6 = ap (λ (xs : List ℕ). big_number 2 (drop 12 xs)) one ∙ ap (big_number 2) (drop_at (to ++ from) (kind ++ packet) 12 addresses);
      behind = drop_at (to ++ from ++ kind) packet 14 front;
    }

made_frame : List ℕ → List ℕ → List ℕ → FrameParts
made_frame to from packet = record { destination = record { 0 = to }; source = record { 0 = from }; rest = packet }

same_frame : (a a' b b' c c' : List ℕ) → a ≡ a' → b ≡ b' → c ≡ c' → made_frame a b c ≡ made_frame a' b' c'
same_frame a a' b b' c c' p q r = cc

pub frame_back : (to from : Mac) (header : Ip6) (payload : List ℕ) → length to.0 ≡ 6 → length from.0 ≡ 6
    → frame_of (written_frame to from header payload) ≡ Ok (record { destination = to; source = from; rest = written_packet header payload })
unfolding made_frame
frame_back to from header payload t f =
    let h = framed to.0 from.0 (written_packet header payload) t f in
    let e1 : ltb (length (written_frame to from header payload)) 14 ≡ false = le-ltb _ _ h.long in
    let e2 = eq-eqb _ _ h.ipv6 in
    rw (e1, e2) (ap Ok (same_frame _ to.0 _ from.0 _ (written_packet header payload) h.destination h.source h.behind))

-- ---- the packet

-- the places of the fields of an IPv6 header
pub record IsPacket (packet : List ℕ) (header : Ip6) (payload : List ℕ) : Type 0 where
  pub long : 40 + length payload ≤ length packet
  pub version : big_number 4 packet / 2 ^ 28 ≡ 6
  pub told : payload_length_of packet ≡ length payload
  pub header_is : header_of packet ≡ header
  pub payload_is : slice_range packet 40 (40 + payload_length_of packet) ≡ payload

-- the first four bytes: version, traffic class, flow label
pub record IsFirst (number class label : ℕ) : Type 0 where
  pub fits : number < 256 ^ 4
  pub version : number / 2 ^ 28 ≡ 6
  pub class_is : number / 2 ^ 20 % 256 ≡ class
  pub label_is : number % 2 ^ 20 ≡ label

first_number : (class label : ℕ) → class < 256 → label < 2 ^ 20 → IsFirst (6 * 2 ^ 28 + class * 2 ^ 20 + label % 2 ^ 20) class label
first_number class label c l = record { fits = omega arith; version = omega arith; class_is = omega arith; label_is = omega arith }

made_header : ℕ → ℕ → ℕ → ℕ → List ℕ → List ℕ → Ip6
made_header class label next hops source destination =
    record { traffic_class = class; flow_label = label; next_header = next; hop_limit = hops; source = record { 0 = source }; destination = record { 0 = destination } }

same_header : (a a' b b' n h : ℕ) (s s' d d' : List ℕ) → a ≡ a' → b ≡ b' → s ≡ s' → d ≡ d' → made_header a b n h s d ≡ made_header a' b' n h s' d'
same_header a a' b b' n h s s' d d' p q r t = cc

pub packet_placed : (header : Ip6) (payload padding : List ℕ) → FitsHeader header → length payload ≤ 65535 → IsPacket (written_packet header payload ++ padding) header payload
unfolding made_header
packet_placed header payload padding h short =
    let source = header.source.0 in
    let destination = header.destination.0 in
    let packet = written_packet header payload ++ padding in
    let number = 6 * 2 ^ 28 + header.traffic_class * 2 ^ 20 + header.flow_label % 2 ^ 20 in
    let behind = source ++ destination ++ payload ++ padding in
    let first = first_number header.traffic_class header.flow_label h.traffic_class h.flow_label in
    let read : big_number 4 packet ≡ number = big_number-reads_back 4 number (big_bytes 2 (length payload) ++ (header.next_header ∷ header.hop_limit ∷ behind)) first.fits in
    let told : payload_length_of packet ≡ length payload = big_number-reads_back 2 (length payload) (header.next_header ∷ header.hop_limit ∷ behind) (omega arith) in
    let both : length (source ++ destination) ≡ 32 = omega (arith, length-append source destination, h.source, h.destination) in
    let one : behind ≡ (source ++ destination) ++ (payload ++ padding) = append_assoc (source ++ destination) payload padding in
    let two : behind ≡ source ++ (destination ++ (payload ++ padding)) = one ∙ append_assoc source destination (payload ++ padding) in
    let source_is : take 16 behind ≡ source = ap (take 16) two ∙ take_at source (destination ++ (payload ++ padding)) 16 h.source in
    let destination_is : take 16 (drop 16 behind) ≡ destination =
    ap (λ (xs : List ℕ). take 16 (drop 16 xs)) two ∙ ap (take 16) (drop_at source (destination ++ (payload ++ padding)) 16 h.source) ∙ take_at destination (payload ++ padding) 16 h.destination in
    let rest : drop 32 behind ≡ payload ++ padding = ap (drop 32) one ∙ drop_at (source ++ destination) (payload ++ padding) 32 both in
    let all : 40 + payload_length_of packet - 40 ≡ length payload = omega (arith, told) in
    record {
      long = omega (arith, both, ap length one, length-append (source ++ destination) (payload ++ padding), length-append payload padding);
      version = ap (λ (n : ℕ). n / 2 ^ 28) read ∙ first.version;
      told = told;
      header_is = same_header _ header.traffic_class _ header.flow_label header.next_header header.hop_limit _ source _ destination (ap (λ (n : ℕ). n / 2 ^ 20 % 256) read ∙ first.class_is) (ap (λ (n : ℕ). n % 2 ^ 20) read ∙ first.label_is) source_is destination_is;
      payload_is = ap (λ (n : ℕ). take n (drop 32 behind)) all ∙ ap (take (length payload)) rest ∙ take_at payload padding (length payload) refl;
    }

made_packet : Ip6 → List ℕ → PacketParts
made_packet header payload = record { header = header; payload = payload }

same_packet : (a a' : Ip6) (b b' : List ℕ) → a ≡ a' → b ≡ b' → made_packet a b ≡ made_packet a' b'
same_packet a a' b b' p q = cc

pub packet_back : (header : Ip6) (payload padding : List ℕ) → FitsHeader header → length payload ≤ 65535
    → packet_of (written_packet header payload ++ padding) ≡ Ok (record { header = header; payload = payload })
unfolding made_packet
packet_back header payload padding h short =
    let p = packet_placed header payload padding h short in
    let packet = written_packet header payload ++ padding in
    let e1 : ltb (length packet) 40 ≡ false = le-ltb _ _ (omega (arith, p.long)) in
    let e2 = eq-eqb _ _ p.version in
    let e3 : ltb (length packet) (40 + payload_length_of packet) ≡ false = le-ltb _ _ (omega (arith, p.long, p.told)) in
    rw (e1, e2, e3) (ap Ok (same_packet _ header _ payload p.header_is p.payload_is))

-- ---- the headers

pub headers_first : (to from : Mac) (header : Ip6) (payload : List ℕ) → written_frame to from header payload ≡ written_headers to from header (length payload) ++ payload
headers_first to from header payload = sym (append_assoc (to.0 ++ from.0 ++ (0x86 ∷ 0xdd ∷ [])) (written_header header (length payload)) payload)

pub length-headers : (to from : Mac) (header : Ip6) (len : ℕ) → length to.0 ≡ 6 → length from.0 ≡ 6 → FitsHeader header → length (written_headers to from header len) ≡ 54
length-headers to from header len t f h =
    let front : List ℕ = to.0 ++ from.0 ++ (0x86 ∷ 0xdd ∷ []) in
    omega (arith, h.source, h.destination, length-append front (written_header header len), length-append (to.0 ++ from.0) (0x86 ∷ 0xdd ∷ []), length-append to.0 from.0, length-append header.source.0 header.destination.0)
