-- A whole packet is determined by its word.
use Rattle.std.proofs.Common.{◌≡◌, ◌∙◌, ◌<◌, ◌≤◌, ◌+◌, ◌-◌, ◌/◌, ◌%◌, ℕ, Bool, true, false, cond, List, [], ◌∷◌, Ok, Err, length, refl, sym, ap, subst, arith}
use Rattle.std.specs.Prelude.{Result, MatchResult, ◌==◌, drop, is_err, nat_lt, slice_index, ⊤}
use Rattle.std.proofs.lemmas.Bool.{true≢false}
use Rattle.std.proofs.lemmas.List.{length-take}
use Rattle.hex.specs.Hex.{decode_of, decode_pairs, decode_sized}
use Rattle.hex.specs.declared.error.FromHexError.{FromHexError}
use Rattle.hex.specs.declared.error.FromHexError.TheVariants.{InvalidStringLength, OddLength}
use Rattle.hex.proofs.HexLemmas.{decode_of-ok}
use Rattle.byteorder.specs.Endian.{big_number}
use Rattle.nd_addr.specs.Bytes.{IsBytes}
use Rattle.nd_addr.specs.declared.ip6.Ip6.{Ip6}
use Rattle.nd_addr.specs.declared.why.Why.TheVariants.{HeaderShort, PayloadShort, Version}
use Rattle.nd_addr.specs.Ip6.{PacketParts, header_of, ipv6_header_length, packet_of, payload_length_of, payload_of}
use Rattle.nd_addr.proofs.ByteLists.{IsBytes-drop}
use Rattle.nd_steps.specs.Packets.{IsWholePacket}
use Rattle.ndpctl_run.specs.Bytes.{IsBytesWord}
use Rattle.ndpctl_run.specs.Packet.{IsPacketWord}
use Rattle.ndpctl_run.proofs.BytesWords.{one_bytes}

-- what digits decode to in the room that there is, they decode to
sized : (word bytes : List ℕ) (n : ℕ) → decode_sized word n ≡ Ok bytes → decode_of word ≡ Ok bytes
sized word bytes n = by (length word % 2 == 1) (length word / 2 == n)
  where
    by : (odd fits : Bool) → cond odd (Err OddLength) (cond fits (decode_pairs 0 word) (Err InvalidStringLength)) ≡ Ok bytes → cond odd (Err OddLength) (decode_pairs 0 word) ≡ Ok bytes
    by true fits e = e
    by false true e = e
    by false false e = absurd (let no : ⊥ = cc in no)

pub sized_ok : (word new : List ℕ) (n : ℕ) (result : Result ⊤ FromHexError) → MatchResult (decode_sized word n) (λ s. (result ≡ Ok tt) × (new ≡ s)) (λ e. result ≡ Err e) → is_err result ≡ false → decode_of word ≡ Ok new
sized_ok word new n result = by (decode_sized word n) refl
  where
    by : (r : Result (List ℕ) FromHexError) → decode_sized word n ≡ r → MatchResult r (λ s. (result ≡ Ok tt) × (new ≡ s)) (λ e. result ≡ Err e) → is_err result ≡ false → decode_of word ≡ Ok new
    by (Ok s) is m not = sized word new n (is ∙ ap Ok (sym m.1))
    by (Err e) is m not = absurd (true≢false (ap is_err (sym m) ∙ not))

-- a packet has bytes
none_of_none : (packet : PacketParts) → IsWholePacket [] packet → ⊥
none_of_none packet whole = let all : 0 ≡ 40 + length packet.payload = whole.all in omega (arith, all)

-- they are what the digits decode to
pub spelled : (word bytes : List ℕ) (packet : PacketParts) → decode_of word ≡ Ok bytes → IsWholePacket bytes packet → IsPacketWord word packet
spelled word [] packet e whole = absurd (none_of_none packet whole)
spelled word (byte ∷ bytes) packet e whole = (byte ∷ bytes, e, whole)

pub decoded : (word bytes : List ℕ) (packet : PacketParts) → IsBytesWord word bytes → IsWholePacket bytes packet → decode_of word ≡ Ok bytes
decoded word [] packet e whole = absurd (none_of_none packet whole)
decoded word (byte ∷ bytes) packet e whole = e

-- the bytes are of one packet
one_of_bytes : (bytes : List ℕ) (p q : PacketParts) → packet_of bytes ≡ Ok p → packet_of bytes ≡ Ok q → p ≡ q
one_of_bytes bytes p q e f = let same = sym e ∙ f in cc

pub one_whole : (word : List ℕ) (p q : PacketParts) → IsPacketWord word p → IsPacketWord word q → p ≡ q
one_whole word p q a b =
    let same : a.0 ≡ b.0 = one_bytes word a.0 b.0 a.1 b.1 in
    one_of_bytes b.0 p q (subst (λ (bytes : List ℕ). packet_of bytes ≡ Ok p) same a.2.read) b.2.read

-- ---- a packet isn't longer than its payload length can say

payload_read : (short six cut : Bool) (header : Ip6) (payload : List ℕ) (packet : PacketParts)
    → cond short (Err HeaderShort) (cond six (cond cut (Err PayloadShort) (Ok (record { header = header; payload = payload }))) (Err Version)) ≡ Ok packet → packet.payload ≡ payload
payload_read true six cut header payload packet e = absurd (let no : ⊥ = cc in no)
payload_read false false cut header payload packet e = absurd (let no : ⊥ = cc in no)
payload_read false true true header payload packet e = absurd (let no : ⊥ = cc in no)
payload_read false true false header payload packet e =
    let same : record { header = header; payload = payload } ≡ packet = cc in
    sym (ap (λ (p : PacketParts). p.payload) same)

said_length : (bytes : List ℕ) → IsBytes bytes → payload_length_of bytes < 65536
said_length bytes each =
    let high : slice_index (drop 4 bytes) 0 < 256 = IsBytes-drop 4 bytes each 0 in
    let low : slice_index (drop 4 bytes) 1 < 256 = IsBytes-drop 4 bytes each 1 in
    omega (arith, high, low)

payload_short : (bytes : List ℕ) → length (payload_of bytes) ≤ payload_length_of bytes
payload_short bytes =
    let taken = length-take (ipv6_header_length + payload_length_of bytes - ipv6_header_length) (drop ipv6_header_length bytes) in
    omega (arith, taken)

-- so a word of more digits spells none
pub none_longer : (word : List ℕ) (packet : PacketParts) → IsPacketWord word packet → length word / 2 ≤ 65575
none_longer word packet (bytes, is, whole) =
    let ok = decode_of-ok word bytes (decoded word bytes packet is whole) in
    let payload : packet.payload ≡ payload_of bytes =
    payload_read (nat_lt (length bytes) ipv6_header_length) (big_number 4 bytes / 268435456 == 6) (nat_lt (length bytes) (ipv6_header_length + payload_length_of bytes)) (header_of bytes) (payload_of bytes) packet whole.read in
    omega (arith, ok.2, whole.all, ap length payload, payload_short bytes, said_length bytes ok.3)
