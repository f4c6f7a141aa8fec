-- Addresses one behind the other: a step, the end, and that reading them and spelling them are the same.
use Rattle.std.proofs.Common.{◌≡◌, ℕ, zero, suc, ◌*◌, ◌/◌, ◌<◌, ◌≤◌, true, eqb, ◌&&◌, not, List, [], ◌∷◌, ◌++◌, length, take, drop, slice_index, refl, sym, ap, ◌∙◌, arith}
use Rattle.std.specs.Prelude.{bytes_eq}
use Rattle.std.specs.List.{flat_map, list_all, AllByRecursion}
use Rattle.std.proofs.lemmas.Bool.{and_parts, and_from, eqb-false, ne_eqb, not-true, not_from_false, false_from_ne_true}
use Rattle.std.proofs.lemmas.List.{length-drop, length-append, length-take-le, take-append-drop, take_at, drop_at, nil_from_length}
use Rattle.std.proofs.lemmas.Slice.Eq.{bytes_eq-Decides}
use Rattle.nd_addr.specs.Kind.{unspecified_address, loopback_address}
use Rattle.nd_addr.specs.declared.addr.Addr.{Addr}
use Rattle.nd_decode.specs.Servers.{IsServer, SpellsServers, servers_from, servers_in, is_server}
use Rattle.nd_decode.specs.Option.{IsPiece, IsServersRow}

pub servers_in_step : (bytes : List ℕ) → 16 ≤ length bytes → servers_in bytes ≡ record { 0 = take 16 bytes } ∷ servers_in (drop 16 bytes)
unfolding servers_in
servers_in_step bytes long =
    let count : length bytes / 16 ≡ suc (length (drop 16 bytes) / 16) = omega (arith, length-drop 16 bytes) in
    ap (λ (n : ℕ). servers_from n bytes) count

pub servers_in_stop : (bytes : List ℕ) → length bytes < 16 → servers_in bytes ≡ []
unfolding servers_in
servers_in_stop bytes short =
    let count : length bytes / 16 ≡ 0 = omega arith in
    ap (λ (n : ℕ). servers_from n bytes) count

length-servers_from : (n : ℕ) (bytes : List ℕ) → length (servers_from n bytes) ≡ n
length-servers_from zero bytes = refl
length-servers_from (suc n) bytes = ap suc (length-servers_from n (drop 16 bytes))

pub servers_in_length : (bytes : List ℕ) → length (servers_in bytes) ≡ length bytes / 16
unfolding servers_in
servers_in_length bytes = length-servers_from (length bytes / 16) bytes

-- ---- the test of one address

ne_bytes : (a b : List ℕ) → not (bytes_eq a b) ≡ true → a ≡ b → ⊥
ne_bytes a b e f = let g = (bytes_eq-Decides a b).1 f in let h = not-true (bytes_eq a b) e in cc

bytes_ne : (a b : List ℕ) → (a ≡ b → ⊥) → not (bytes_eq a b) ≡ true
bytes_ne a b h = not_from_false (bytes_eq a b) (false_from_ne_true _ (λ e. h ((bytes_eq-Decides a b).0 e)))

pub server_is : (a : Addr) → length a.0 ≡ 16 → is_server a ≡ true → IsServer a
server_is a len e =
    let t = and_parts (not (eqb (slice_index a.0 0) 0xff) && not (bytes_eq a.0 unspecified_address)) (not (bytes_eq a.0 loopback_address)) e in
    let s = and_parts (not (eqb (slice_index a.0 0) 0xff)) (not (bytes_eq a.0 unspecified_address)) t.0 in
    record {
      len = len;
      not_multicast = eqb-false _ _ (not-true (eqb (slice_index a.0 0) 0xff) s.0);
      not_unspecified = ne_bytes a.0 unspecified_address s.1;
      not_loopback = ne_bytes a.0 loopback_address t.1;
    }

pub server_tests : (a : Addr) → IsServer a → is_server a ≡ true
server_tests a h =
    and_from (not (eqb (slice_index a.0 0) 0xff) && not (bytes_eq a.0 unspecified_address)) (not (bytes_eq a.0 loopback_address))
    (and_from (not (eqb (slice_index a.0 0) 0xff)) (not (bytes_eq a.0 unspecified_address)) (not_from_false _ (ne_eqb _ _ h.not_multicast)) (bytes_ne a.0 unspecified_address h.not_unspecified))
    (bytes_ne a.0 loopback_address h.not_loopback)

-- ---- what is read is spelled so

concatenated : (n : ℕ) (bytes : List ℕ) → length bytes ≡ 16 * n → bytes ≡ flat_map (λ (s : Addr). s.0) (servers_from n bytes)
concatenated zero bytes len = nil_from_length bytes len
concatenated (suc n) bytes len =
    let less : length (drop 16 bytes) ≡ 16 * n = omega (arith, length-drop 16 bytes) in
    sym (take-append-drop 16 bytes) ∙ ap (λ (t : List ℕ). take 16 bytes ++ t) (concatenated n (drop 16 bytes) less)

each : (n : ℕ) (bytes : List ℕ) → length bytes ≡ 16 * n → list_all is_server (servers_from n bytes) ≡ true → AllByRecursion IsServer (servers_from n bytes)
each zero bytes len e = tt
each (suc n) bytes len e =
    let less : length (drop 16 bytes) ≡ 16 * n = omega (arith, length-drop 16 bytes) in
    let first : Addr = record { 0 = take 16 bytes } in
    let t = and_parts (is_server first) (list_all is_server (servers_from n (drop 16 bytes))) e in
    (server_is first (length-take-le 16 bytes (omega arith)) t.0, each n (drop 16 bytes) less t.1)

whole_addresses : (piece : List ℕ) → IsPiece piece → IsServersRow piece → length (drop 8 piece) ≡ 16 * (length (drop 8 piece) / 16)
whole_addresses piece p row =
    let len = length-drop 8 piece in
    let odd = row.odd in
    let whole = p.whole in
    omega (arith, len, odd, whole, row.least)

pub servers_spelled : (piece : List ℕ) → IsPiece piece → IsServersRow piece → list_all is_server (servers_in (drop 8 piece)) ≡ true
    → SpellsServers (drop 8 piece) (servers_in (drop 8 piece))
unfolding servers_in
servers_spelled piece p row e =
    let len = whole_addresses piece p row in
    record { concatenated = concatenated _ (drop 8 piece) len; each = each _ (drop 8 piece) len e }

-- ---- and what is spelled is read

servers_again : (servers : List Addr) → AllByRecursion IsServer servers → servers_in (flat_map (λ (s : Addr). s.0) servers) ≡ servers
servers_again [] h = servers_in_stop [] (omega arith)
servers_again (s ∷ ss) h =
    let rest = flat_map (λ (x : Addr). x.0) ss in
    let long : 16 ≤ length (s.0 ++ rest) = omega (arith, length-append s.0 rest, h.0.len) in
    let first : take 16 (s.0 ++ rest) ≡ s.0 = take_at s.0 rest 16 h.0.len in
    let after : drop 16 (s.0 ++ rest) ≡ rest = drop_at s.0 rest 16 h.0.len in
    let later : servers_in (drop 16 (s.0 ++ rest)) ≡ ss = ap servers_in after ∙ servers_again ss h.1 in
    servers_in_step (s.0 ++ rest) long ∙ rw (first, later) refl

all_servers : (servers : List Addr) → AllByRecursion IsServer servers → list_all is_server servers ≡ true
all_servers [] h = refl
all_servers (s ∷ ss) h = and_from (is_server s) (list_all is_server ss) (server_tests s h.0) (all_servers ss h.1)

pub servers_one : (bytes : List ℕ) (servers : List Addr) → SpellsServers bytes servers
    → (list_all is_server (servers_in bytes) ≡ true) × (servers_in bytes ≡ servers)
servers_one bytes servers h =
    let read : servers_in bytes ≡ servers = ap servers_in h.concatenated ∙ servers_again servers h.each in
    (ap (λ (ss : List Addr). list_all is_server ss) read ∙ all_servers servers h.each, read)

-- the bytes of servers are 16 for each
pub spelled_length : (bytes : List ℕ) (servers : List Addr) → SpellsServers bytes servers → length bytes ≡ 16 * length servers
spelled_length bytes servers s = ap length s.concatenated ∙ joined_length servers s.each
  where
    joined_length : (servers : List Addr) → AllByRecursion IsServer servers → length (flat_map (λ (s : Addr). s.0) servers) ≡ 16 * length servers
    joined_length [] h = refl
    joined_length (server ∷ servers) h = omega (arith, length-append server.0 (flat_map (λ (s : Addr). s.0) servers), h.0.len, joined_length servers h.1)
