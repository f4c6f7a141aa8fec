-- Servers that are written are spelled, and servers that are spelled fit.
use Rattle.std.proofs.Common.{◌≡◌, ℕ, ◌+◌, ◌*◌, ◌<◌, ◌≤◌, Bool, false, List, [], ◌∷◌, length, drop, slice_index, get_or, refl, ap, subst, ◌∙◌, arith}
use Rattle.std.specs.List.{flat_map, AllByRecursion}
use Rattle.std.proofs.lemmas.List.{length-append, length-drop, drop_more}
use Rattle.byteorder.specs.Numbers.{big_from-lt}
use Rattle.nd_addr.specs.Bytes.{IsBytes}
use Rattle.nd_addr.specs.declared.addr.Addr.{Addr}
use Rattle.nd_decode.specs.Servers.{IsServer, SpellsServers, is_server}
use Rattle.nd_decode.proofs.Addresses.{server_tests}
use Rattle.nd_decode.specs.Option.{rdnss, IsPiece, IsServersRow, Says}
use Rattle.nd_message.specs.Rdnss.{rdnss_piece, FitsServer, FitsRdnss}
use Rattle.nd_addr.proofs.ByteLists.{AreSmall, AreSmall-from, AreSmall-append, IsBytes-drop, IsBytes-left, IsBytes-right, small_four}

abbrev addresses : List Addr → List ℕ
addresses servers = flat_map (λ (s : Addr). s.0) servers

length-addresses : (servers : List Addr) → AllByRecursion IsServer servers → length (addresses servers) ≡ 16 * length servers
length-addresses [] h = refl
length-addresses (s ∷ ss) h = omega (arith, length-append s.0 (addresses ss), h.0.len, length-addresses ss h.1)

are_servers : (servers : List Addr) → AllByRecursion FitsServer servers → AllByRecursion IsServer servers
are_servers [] h = tt
are_servers (s ∷ ss) h = (h.0.server_is, are_servers ss h.1)

-- ---- written

pub length-rdnss : (lifetime : ℕ) (servers : List Addr) → FitsRdnss lifetime servers → length (rdnss_piece lifetime servers) ≡ 8 + 16 * length servers
length-rdnss lifetime servers h = omega (arith, length-addresses servers (are_servers servers h.each))

pub rdnss_whole : (lifetime : ℕ) (servers : List Addr) → FitsRdnss lifetime servers → IsPiece (rdnss_piece lifetime servers)
rdnss_whole lifetime servers h = record { some = omega arith; whole = omega (arith, length-addresses servers (are_servers servers h.each)) }

pub rdnss_row : (lifetime : ℕ) (servers : List Addr) → FitsRdnss lifetime servers → IsServersRow (rdnss_piece lifetime servers)
rdnss_row lifetime servers h = record { kind_is = refl; odd = omega arith; least = omega (arith, h.some) }

pub servers_spell : (servers : List Addr) → AllByRecursion FitsServer servers → SpellsServers (addresses servers) servers
servers_spell servers h = record { concatenated = refl; each = are_servers servers h }

addresses_small : (servers : List Addr) → AllByRecursion FitsServer servers → AreSmall (addresses servers)
addresses_small [] h = tt
addresses_small (s ∷ ss) h = AreSmall-append s.0 (addresses ss) (AreSmall-from s.0 h.0.bytes) (addresses_small ss h.1)

pub rdnss_small : (lifetime : ℕ) (servers : List Addr) → FitsRdnss lifetime servers → AreSmall (rdnss_piece lifetime servers)
rdnss_small lifetime servers h = (omega arith, (omega (arith, h.most), (omega arith, (omega arith, small_four lifetime (addresses servers) (addresses_small servers h.each)))))

-- ---- spelled

servers_fit : (servers : List Addr) → AllByRecursion IsServer servers → IsBytes (addresses servers) → AllByRecursion FitsServer servers
servers_fit [] h b = tt
servers_fit (s ∷ ss) h b = (record { server_is = h.0; bytes = IsBytes-left s.0 (addresses ss) b }, servers_fit ss h.1 (IsBytes-right s.0 (addresses ss) b))

pub rdnss_fits : (piece : List ℕ) (lifetime : ℕ) (servers : List Addr) → IsBytes piece → IsPiece piece → Says piece (rdnss lifetime servers)
    → FitsRdnss lifetime servers × (length (rdnss_piece lifetime servers) ≤ length piece)
rdnss_fits piece lifetime servers h p s =
    let row = s.0 in
    let data_is = s.2 in
    let behind : IsBytes (addresses servers) = subst IsBytes data_is.concatenated (IsBytes-drop 8 piece h) in
    let len : length (drop 8 piece) ≡ 16 * length servers = ap length data_is.concatenated ∙ length-addresses servers data_is.each in
    let all = length-drop 8 piece in
    let byte : slice_index piece 1 < 256 = h 1 in
    let f : FitsRdnss lifetime servers = record {
      lifetime_is = rw s.1 (big_from-lt 0 4 (drop 4 piece) (IsBytes-drop 4 piece h));
      some = omega (arith, len, all, p.whole, row.least);
      most = omega (arith, len, all, p.whole, byte);
      each = servers_fit servers data_is.each behind;
    } in
    (f, omega (arith, length-rdnss lifetime servers f, len, all, p.whole, row.least))

-- where the next address can be no server's, those that are left do not fit
pub none_fit : (servers : List Addr) (i : ℕ) (d : Addr) (b : Bool) → i < length servers → b ≡ is_server (get_or servers i d) → b ≡ false → AllByRecursion FitsServer (drop i servers) → ⊥
none_fit servers i d b lt e bad h =
    let left = subst (λ (ss : List Addr). AllByRecursion FitsServer ss) (drop_more servers i d lt) h in
    let good = server_tests (get_or servers i d) left.0.server_is in
    cc
