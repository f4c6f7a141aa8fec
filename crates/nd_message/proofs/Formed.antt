-- Well-formed messages, by their parts.
use Rattle.std.proofs.Common.{◌≡◌, ℕ, ◌+◌, ◌/◌, ◌<◌, ◌≤◌, Bool, true, false, List, [], ◌∷◌, ◌++◌, length, drop, slice_index, slice_range, Option, Some, None, refl, sym, ap, subst, ◌∙◌, arith}
use Rattle.std.specs.List.{flat_map, AllByRecursion}
use Rattle.std.proofs.lemmas.List.{length-append, length-drop}
use Rattle.byteorder.specs.Endian.{big_bytes}
use Rattle.byteorder.specs.Numbers.{big_from-lt}
use Rattle.nd_addr.specs.Bytes.{IsBytes, AreBytes}
use Rattle.nd_addr.specs.Prefix.{masked}
use Rattle.nd_addr.specs.declared.mac.Mac.{Mac}
use Rattle.nd_addr.specs.declared.preference.Preference.{Preference}
use Rattle.nd_addr.specs.declared.preference.Preference.TheVariants.{High, Medium, Low}
use Rattle.nd_addr.proofs.Masking.{IsBytes-masked, masked_is_prefix}
use Rattle.nd_decode.specs.declared.body.Body.{Body}
use Rattle.nd_decode.specs.declared.body.Body.TheVariants as bodies
use Rattle.nd_decode.specs.Option.{Said, slla, tlla, prefix, redirected, mtu, rdnss, dnssl, other, IsPiece, SaysKnown, Says, known_of, mac_of, prefix_of}
use Rattle.nd_decode.specs.Options.{SpellsOptions}
use Rattle.nd_decode.specs.Message.{Parts, Spells, HasBody, HasFields, behind_fields, least_length, router_advertisement_of}
use Rattle.nd_message.specs.Spelling.{flags_of, router_flags_of, three_flags_of, other_piece, piece_of, fields_of, spelling}
use Rattle.nd_message.specs.WellFormed.{IsMediumAtZero, IsWellFormed, MayBeSent}
use Rattle.nd_message.specs.Fitting.{IsOther, FitsRedirected, FitsPrefix, FitsOption, FitsRouterAdvertisement, FitsBody, FitsBehind}
use Rattle.nd_addr.proofs.ByteLists.{AreSmall, IsBytes-from, AreSmall-from, AreSmall-append, IsBytes-drop, IsBytes-left, IsBytes-right, small_four, small_two, AreBytes-part}
use Rattle.nd_decode.proofs.Says.{known_says}
use Rattle.nd_message.proofs.DnsServers.{rdnss_small, rdnss_fits}
use Rattle.nd_message.proofs.SearchNames.{dnssl_small, dnssl_fits}
use Rattle.nd_message.proofs.Writing.{spelling_spells}

flags_small : (a b : Bool) → flags_of a b < 256
flags_small true true = omega arith
flags_small true false = omega arith
flags_small false true = omega arith
flags_small false false = omega arith

router_flags_small : (a b : Bool) (p : Preference) → router_flags_of a b p < 256
router_flags_small true true High = omega arith
router_flags_small true false High = omega arith
router_flags_small false true High = omega arith
router_flags_small false false High = omega arith
router_flags_small true true Medium = omega arith
router_flags_small true false Medium = omega arith
router_flags_small false true Medium = omega arith
router_flags_small false false Medium = omega arith
router_flags_small true true Low = omega arith
router_flags_small true false Low = omega arith
router_flags_small false true Low = omega arith
router_flags_small false false Low = omega arith

three_flags_small : (a b c : Bool) → three_flags_of a b c < 256
three_flags_small true true true = omega arith
three_flags_small true true false = omega arith
three_flags_small true false true = omega arith
three_flags_small true false false = omega arith
three_flags_small false true true = omega arith
three_flags_small false true false = omega arith
three_flags_small false false true = omega arith
three_flags_small false false false = omega arith

-- six zeros that are reserved
reserved_small : (rest : List ℕ) → AreSmall rest → AreSmall (0 ∷ 0 ∷ 0 ∷ 0 ∷ 0 ∷ 0 ∷ rest)
reserved_small rest h = (omega arith, (omega arith, (omega arith, (omega arith, (omega arith, (omega arith, h))))))

piece_small : (o : Said) → FitsOption o → AreSmall (piece_of o)
piece_small (slla mac) h = (omega arith, (omega arith, AreSmall-from mac.0 h.each))
piece_small (tlla mac) h = (omega arith, (omega arith, AreSmall-from mac.0 h.each))
piece_small (prefix p) h =
    let i = h.prefix_is in
    let tail : AreSmall ((0 ∷ 0 ∷ 0 ∷ 0 ∷ []) ++ p.prefix.address.0) = (omega arith, (omega arith, (omega arith, (omega arith, AreSmall-from p.prefix.address.0 i.address_is.each)))) in
    let numbers = small_four p.valid_lifetime (big_bytes 4 p.preferred_lifetime ++ (0 ∷ 0 ∷ 0 ∷ 0 ∷ []) ++ p.prefix.address.0) (small_four p.preferred_lifetime ((0 ∷ 0 ∷ 0 ∷ 0 ∷ []) ++ p.prefix.address.0) tail) in
    (omega arith, (omega arith, (omega (arith, i.short), (flags_small p.on_link p.autonomous, numbers))))
piece_small (redirected packet) h = (omega arith, (omega (arith, h.most), reserved_small packet (AreSmall-from packet h.bytes)))
piece_small (mtu n) h = (omega arith, (omega arith, (omega arith, (omega arith, small_four n [] tt))))
piece_small (rdnss lifetime servers) h = rdnss_small lifetime servers h
piece_small (dnssl lifetime names) h = dnssl_small lifetime names h
piece_small (other kind rest) h = (h.0, (omega (arith, h.2.most), AreSmall-from rest h.1))

pieces_small : (os : List Said) → AllByRecursion FitsOption os → AreSmall (flat_map piece_of os)
pieces_small [] h = tt
pieces_small (o ∷ os) h = AreSmall-append (piece_of o) (flat_map piece_of os) (piece_small o h.0) (pieces_small os h.1)

fields_small : (b : Body) → FitsBody b → AreSmall (fields_of 0 b)
fields_small bodies.Rs h = (omega arith, (omega arith, reserved_small [] tt))
fields_small (bodies.Ra r) h = (
  omega arith,
  (
    omega arith,
    (
      omega arith,
      (
        omega arith,
        (
          h.hop_limit,
          (
            router_flags_small r.managed r.other r.preference,
            small_two r.router_lifetime (big_bytes 4 r.reachable_time ++ big_bytes 4 r.retrans_timer) (small_four r.reachable_time (big_bytes 4 r.retrans_timer) (small_four r.retrans_timer [] tt)),
          ),
        ),
      ),
    ),
  ),
)
fields_small (bodies.Ns n) h = (omega arith, (omega arith, reserved_small n.target.0 (AreSmall-from n.target.0 h.each)))
fields_small (bodies.Na n) h = (
  omega arith,
  (
    omega arith,
    (omega arith, (omega arith, (three_flags_small n.router n.solicited n.override_flag, (omega arith, (omega arith, (omega arith, AreSmall-from n.target.0 h.each)))))),
  ),
)
fields_small (bodies.Redirect r) h =
    (omega arith, (omega arith, reserved_small (r.target.0 ++ r.destination.0) (AreSmall-append r.target.0 r.destination.0 (AreSmall-from r.target.0 h.0.each) (AreSmall-from r.destination.0 h.1.each))))

-- ---- what some bytes spell fits

mac_fits : (piece : List ℕ) (mac : Mac) → IsBytes piece → IsPiece piece → slice_index piece 1 ≡ 1 → mac ≡ mac_of piece → AreBytes 6 mac.0
mac_fits piece mac h p one e = rw e (AreBytes-part 2 6 piece (omega (arith, p.whole, one)) h)

-- a piece is its type, its length, and the bytes behind
other_piece_is : (piece : List ℕ) (kind : ℕ) (rest : List ℕ) → 2 ≤ length piece → kind ≡ slice_index piece 0 → rest ≡ drop 2 piece → (length rest + 2) / 8 ≡ slice_index piece 1 → other_piece kind rest ≡ piece
other_piece_is [] kind rest le k r u = absurd (omega arith)
other_piece_is (a ∷ []) kind rest le k r u = absurd (omega arith)
other_piece_is (a ∷ b ∷ more) kind rest le k r u = rw (u, k, r) refl

pub option_fits : (piece : List ℕ) (o : Said) → IsBytes piece → IsPiece piece → Says piece o → FitsOption o × (length (piece_of o) ≤ length piece)
option_fits piece (slla mac) h p s = let f = mac_fits piece mac h p s.0.len_is s.1 in (f, omega (arith, f.len_is, p.whole, s.0.len_is))
option_fits piece (tlla mac) h p s = let f = mac_fits piece mac h p s.0.len_is s.1 in (f, omega (arith, f.len_is, p.whole, s.0.len_is))
option_fits piece (prefix q) h p s =
    let long : length piece ≡ 32 = omega (arith, p.whole, s.0.len_is) in
    let a = AreBytes-part 16 16 piece (omega arith) h in
    let bits = slice_index piece 2 in
    let address = slice_range piece 16 32 in
    let i = masked_is_prefix bits address (masked bits address) s.1 a.len_is refl (IsBytes-masked bits address a.each) in
    let f : FitsPrefix (prefix_of piece) = record { prefix_is = i; valid = big_from-lt 0 4 (drop 4 piece) (IsBytes-drop 4 piece h); preferred = big_from-lt 0 4 (drop 8 piece) (IsBytes-drop 8 piece h) } in
    rw s.2 (f, omega (arith, i.address_is.len_is, long))
option_fits piece (redirected packet) h p s =
    let len : length packet + 8 ≡ length piece = rw s.1 (omega (arith, length-drop 8 piece, p.whole, p.some)) in
    let byte : slice_index piece 1 < 256 = h 1 in
    let f : FitsRedirected packet = record { bytes = rw s.1 (IsBytes-drop 8 piece h); most = omega (arith, len, p.whole, byte); eights = omega (arith, len, p.whole) } in
    (f, omega (arith, len))
option_fits piece (mtu n) h p s = (rw s.1 (big_from-lt 0 4 (drop 4 piece) (IsBytes-drop 4 piece h)), omega (arith, p.whole, s.0.len_is))
option_fits piece (rdnss lifetime servers) h p s = rdnss_fits piece lifetime servers h p s
option_fits piece (dnssl lifetime names) h p s = dnssl_fits piece lifetime names h p s
option_fits piece (other kind rest) h p s =
    let len : length rest + 2 ≡ length piece = rw s.2 (omega (arith, length-drop 2 piece, p.whole, p.some)) in
    let byte : slice_index piece 1 < 256 = h 1 in
    let same : other_piece kind rest ≡ piece = other_piece_is piece kind rest (omega (arith, p.whole, p.some)) s.1 s.2 (omega (arith, len, p.whole)) in
    let is_other : IsOther kind rest = record {
      least = omega (arith, len, p.whole, p.some);
      most = omega (arith, len, p.whole, byte);
      eights = omega (arith, len, p.whole, p.some);
      unknown = ap known_of same ∙ unknown_by piece p (known_of piece) refl s.0;
    } in
    ((omega (arith, s.1, h 0), rw s.2 (IsBytes-drop 2 piece h), is_other), omega (arith, len))
  where
    unknown_by : (b : List ℕ) → IsPiece b → (k : Option Said) → known_of b ≡ k → ((o : Said) → SaysKnown b o → ⊥) → k ≡ None
    unknown_by b p None e none = refl
    unknown_by b p (Some o) e none = absurd (none o (known_says b o p e))

pub options_fit : (os : List Said) (bytes : List ℕ) → IsBytes bytes → SpellsOptions bytes os → AllByRecursion FitsOption os × (length (flat_map piece_of os) ≤ length bytes)
options_fit [] bytes h s = (tt, omega arith)
options_fit (o ∷ os) bytes h s =
    let all : IsBytes (s.0 ++ s.1) = subst IsBytes s.2 h in
    let one = option_fits s.0 o (IsBytes-left s.0 s.1 all) s.3 s.4 in
    let more = options_fit os s.1 (IsBytes-right s.0 s.1 all) s.5 in
    ((one.0, more.0), omega (arith, length-append (piece_of o) (flat_map piece_of os), length-append s.0 s.1, one.1, more.1, ap length s.2))

pub body_fits : (bytes : List ℕ) (b : Body) → IsBytes bytes → HasFields bytes → HasBody bytes b → MayBeSent b → FitsBody b × (length (fields_of 0 b) ≡ least_length (slice_index bytes 0))
body_fits bytes bodies.Rs h f s may = let kind : least_length (slice_index bytes 0) ≡ 8 = rw s refl in (tt, sym kind)
body_fits bytes (bodies.Ra r) h f s may =
    let fits : FitsRouterAdvertisement (router_advertisement_of bytes) = record { hop_limit = h 4; lifetime = big_from-lt 0 2 (drop 6 bytes) (IsBytes-drop 6 bytes h); reachable = big_from-lt 0 4 (drop 8 bytes) (IsBytes-drop 8 bytes h); retrans = big_from-lt 0 4 (drop 12 bytes) (IsBytes-drop 12 bytes h); medium = subst IsMediumAtZero s.1 may } in
    let kind : least_length (slice_index bytes 0) ≡ 16 = rw s.0 refl in
    (rw s.1 fits, sym kind)
body_fits bytes (bodies.Ns n) h f s may =
    let kind : least_length (slice_index bytes 0) ≡ 24 = rw s.0 refl in
    let a = AreBytes-part 8 16 bytes (omega (arith, f.long, kind)) h in
    (rw s.1 a, rw (s.1, kind) (omega (arith, a.len_is)))
body_fits bytes (bodies.Na n) h f s may =
    let kind : least_length (slice_index bytes 0) ≡ 24 = rw s.0 refl in
    let a = AreBytes-part 8 16 bytes (omega (arith, f.long, kind)) h in
    (rw s.1 a, rw (s.1, kind) (omega (arith, a.len_is)))
body_fits bytes (bodies.Redirect r) h f s may =
    let kind : least_length (slice_index bytes 0) ≡ 40 = rw s.0 refl in
    let a = AreBytes-part 8 16 bytes (omega (arith, f.long, kind)) h in
    let b = AreBytes-part 24 16 bytes (omega (arith, f.long, kind)) h in
    let len = length-append (slice_range bytes 8 24) (slice_range bytes 24 40) in
    (rw s.1 (a, b), rw (s.1, kind) (omega (arith, a.len_is, b.len_is, len)))

-- ---- well-formed messages

may_be_sent : (b : Body) → FitsBody b → MayBeSent b
may_be_sent bodies.Rs h = tt
may_be_sent (bodies.Ra r) h = h.medium
may_be_sent (bodies.Ns n) h = tt
may_be_sent (bodies.Na n) h = tt
may_be_sent (bodies.Redirect r) h = tt

pub formed : (m : Parts) → FitsBody m.body → FitsBehind (length (fields_of 0 m.body)) m.options → IsWellFormed m
unfolding spelling
formed m b f = record {
  bytes = spelling 0 m;
  are_bytes = IsBytes-from (spelling 0 m) (AreSmall-append (fields_of 0 m.body) (flat_map piece_of m.options) (fields_small m.body b) (pieces_small m.options f.each));
  len = omega (arith, f.most, length-append (fields_of 0 m.body) (flat_map piece_of m.options));
  spelled = spelling_spells 0 m b f.each;
  medium = may_be_sent m.body b;
}

pub record IsFit (m : Parts) : Type 0 where
  pub body : FitsBody m.body
  pub behind : FitsBehind (length (fields_of 0 m.body)) m.options

pub fits_of : (m : Parts) → IsWellFormed m → IsFit m
fits_of m w =
    let b = body_fits w.bytes m.body w.are_bytes w.spelled.fields w.spelled.body w.medium in
    let os = options_fit m.options (behind_fields w.bytes) (IsBytes-drop (least_length (slice_index w.bytes 0)) w.bytes w.are_bytes) w.spelled.options in
    record { body = b.0; behind = record { each = os.0; most = omega (arith, b.1, os.1, w.len, w.spelled.fields.long, length-drop (least_length (slice_index w.bytes 0)) w.bytes) } }

-- bytes that are the spelling of a well-formed message spell it, whatever the sum
pub spelled_as : (m : Parts) (bytes : List ℕ) (x : ℕ) → IsWellFormed m → bytes ≡ spelling x m → Spells bytes m
spelled_as m bytes x w e = let f = fits_of m w in subst (λ (bs : List ℕ). Spells bs m) (sym e) (spelling_spells x m f.body f.behind.each)

pub length-fields_of : (x : ℕ) (b : Body) → length (fields_of x b) ≡ length (fields_of 0 b)
length-fields_of x bodies.Rs = refl
length-fields_of x (bodies.Ra r) = refl
length-fields_of x (bodies.Ns n) = refl
length-fields_of x (bodies.Na n) = refl
length-fields_of x (bodies.Redirect r) = refl

-- and they are at most 65535
pub short_spelling : (m : Parts) (bytes : List ℕ) (x : ℕ) → IsWellFormed m → bytes ≡ spelling x m → length bytes ≤ 65535
unfolding spelling
short_spelling m bytes x w e =
    let f = fits_of m w in omega (arith, ap length e, length-append (fields_of x m.body) (flat_map piece_of m.options), length-fields_of x m.body, f.behind.most)
