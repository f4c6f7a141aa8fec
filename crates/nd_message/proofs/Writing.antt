-- What is written is a spelling.
use Rattle.std.proofs.Common.{◌≡◌, ℕ, zero, suc, ◌^◌, ◌<◌, Bool, true, false, List, [], ◌∷◌, ◌++◌, length, take, drop, Some, refl, sym, ap, subst, ◌∙◌, arith, append_assoc}
use Rattle.std.specs.Prelude.{replicate}
use Rattle.std.specs.List.{flat_map, AllByRecursion}
use Rattle.std.proofs.lemmas.List.{length-append, drop_at}
use Rattle.byteorder.specs.Endian.{big_bytes, big_number}
use Rattle.byteorder.specs.Numbers.{big_number-reads_back}
use Rattle.nd_addr.specs.Bytes.{AreBytes}
use Rattle.nd_addr.specs.Prefix.{PrefixValue, masked}
use Rattle.nd_addr.specs.declared.addr.Addr.{Addr}
use Rattle.nd_addr.specs.declared.mac.Mac.{Mac}
use Rattle.nd_addr.specs.declared.preference.Preference.{Preference}
use Rattle.nd_addr.specs.declared.preference.Preference.TheVariants.{High, Medium, Low}
use Rattle.nd_decode.specs.declared.router_advertisement.RouterAdvertisement.{RouterAdvertisement}
use Rattle.nd_decode.specs.declared.neighbor_solicitation.NeighborSolicitation.{NeighborSolicitation}
use Rattle.nd_decode.specs.declared.neighbor_advertisement.NeighborAdvertisement.{NeighborAdvertisement}
use Rattle.nd_decode.specs.declared.redirect.Redirect.{Redirect}
use Rattle.nd_decode.specs.declared.body.Body.{Body}
use Rattle.nd_decode.specs.declared.body.Body.TheVariants as bodies
use Rattle.nd_decode.specs.declared.prefix_info.PrefixInfo.{PrefixInfo}
use Rattle.nd_decode.specs.Option.{Said, slla, tlla, prefix, redirected, mtu, rdnss, dnssl, other, IsPiece, Says, known_of, mac_of, prefix_of, is_set}
use Rattle.nd_decode.specs.Options.{SpellsOptions}
use Rattle.nd_decode.specs.Message.{Parts, HasBody, HasFields, Spells, behind_fields, preference_of, router_advertisement_of, neighbor_solicitation_of, neighbor_advertisement_of, redirect_of}
use Rattle.nd_decode.proofs.Says.{known_one}
use Rattle.nd_message.specs.Spelling.{flags_of, router_flags_of, three_flags_of, prefix_piece, other_piece, piece_of, fields_of, spelling}
use Rattle.nd_message.specs.Dnssl.{names_data, missing}
use Rattle.nd_message.specs.Fitting.{FitsPrefix, FitsOption, FitsRouterAdvertisement, FitsBody}
use Rattle.nd_message.proofs.DnsServers.{rdnss_whole, rdnss_row, servers_spell}
use Rattle.nd_message.proofs.SearchNames.{dnssl_whole, dnssl_row, names_spell}

-- ---- flags and numbers

managed_flag : (a b : Bool) (p : Preference) → a ≡ is_set (router_flags_of a b p) 0x80
managed_flag true true High = refl
managed_flag true false High = refl
managed_flag false true High = refl
managed_flag false false High = refl
managed_flag true true Medium = refl
managed_flag true false Medium = refl
managed_flag false true Medium = refl
managed_flag false false Medium = refl
managed_flag true true Low = refl
managed_flag true false Low = refl
managed_flag false true Low = refl
managed_flag false false Low = refl

other_flag : (a b : Bool) (p : Preference) → b ≡ is_set (router_flags_of a b p) 0x40
other_flag true true High = refl
other_flag true false High = refl
other_flag false true High = refl
other_flag false false High = refl
other_flag true true Medium = refl
other_flag true false Medium = refl
other_flag false true Medium = refl
other_flag false false Medium = refl
other_flag true true Low = refl
other_flag true false Low = refl
other_flag false true Low = refl
other_flag false false Low = refl

preference_back : (a b : Bool) (p : Preference) → p ≡ preference_of (router_flags_of a b p)
preference_back true true High = refl
preference_back true false High = refl
preference_back false true High = refl
preference_back false false High = refl
preference_back true true Medium = refl
preference_back true false Medium = refl
preference_back false true Medium = refl
preference_back false false Medium = refl
preference_back true true Low = refl
preference_back true false Low = refl
preference_back false true Low = refl
preference_back false false Low = refl

high_flag : (a b : Bool) → a ≡ is_set (flags_of a b) 0x80
high_flag true true = refl
high_flag true false = refl
high_flag false true = refl
high_flag false false = refl

low_flag : (a b : Bool) → b ≡ is_set (flags_of a b) 0x40
low_flag true true = refl
low_flag true false = refl
low_flag false true = refl
low_flag false false = refl

first_flag : (a b c : Bool) → a ≡ is_set (three_flags_of a b c) 0x80
first_flag true true true = refl
first_flag true true false = refl
first_flag true false true = refl
first_flag true false false = refl
first_flag false true true = refl
first_flag false true false = refl
first_flag false false true = refl
first_flag false false false = refl

second_flag : (a b c : Bool) → b ≡ is_set (three_flags_of a b c) 0x40
second_flag true true true = refl
second_flag true true false = refl
second_flag true false true = refl
second_flag true false false = refl
second_flag false true true = refl
second_flag false true false = refl
second_flag false false true = refl
second_flag false false false = refl

third_flag : (a b c : Bool) → c ≡ is_set (three_flags_of a b c) 0x20
third_flag true true true = refl
third_flag true true false = refl
third_flag true false true = refl
third_flag true false false = refl
third_flag false true true = refl
third_flag false true false = refl
third_flag false false true = refl
third_flag false false false = refl

four : (x : ℕ) (rest : List ℕ) → x < 2 ^ 32 → x ≡ big_number 4 (big_bytes 4 x ++ rest)
four x rest h = sym (big_number-reads_back 4 x rest h)

two : (x : ℕ) (rest : List ℕ) → x < 2 ^ 16 → x ≡ big_number 2 (big_bytes 2 x ++ rest)
two x rest h = sym (big_number-reads_back 2 x rest h)

-- ---- options

take_whole : (n : ℕ) (xs : List ℕ) → length xs ≡ n → take n xs ≡ xs
take_whole n [] e = let z : n ≡ 0 = sym e in rw z refl
take_whole zero (x ∷ xs) e = absurd (omega arith)
take_whole (suc n) (x ∷ xs) e = ap (λ (t : List ℕ). x ∷ t) (take_whole n xs (omega arith))

-- an address is what stands behind its type and length
mac_back : (kind : ℕ) (mac : Mac) → AreBytes 6 mac.0 → mac ≡ mac_of (kind ∷ 1 ∷ mac.0)
mac_back kind mac h = ap (λ (x : List ℕ). let m : Mac = record { 0 = x } in m) (sym (take_whole 6 mac.0 h.len_is))

same_prefix_value : (p : PrefixValue) (x : List ℕ) → p.address.0 ≡ x → p ≡ (let q : PrefixValue = record { address = record { 0 = x }; length = p.length } in q)
same_prefix_value p x e = ap (λ (y : List ℕ). let q : PrefixValue = record { address = record { 0 = y }; length = p.length } in q) e

made_prefix : PrefixValue → Bool → Bool → ℕ → ℕ → PrefixInfo
made_prefix x o a v p = record { prefix = x; on_link = o; autonomous = a; valid_lifetime = v; preferred_lifetime = p }

same_parts : (x x' : PrefixValue) (o o' a a' : Bool) (v v' p p' : ℕ) → x ≡ x' → o ≡ o' → a ≡ a' → v ≡ v' → p ≡ p' → made_prefix x o a v p ≡ made_prefix x' o' a' v' p'
same_parts x x' o o' a a' v v' p p' e f g h i = cc

same_prefix : (p q : PrefixInfo) → p.prefix ≡ q.prefix → p.on_link ≡ q.on_link → p.autonomous ≡ q.autonomous → p.valid_lifetime ≡ q.valid_lifetime → p.preferred_lifetime ≡ q.preferred_lifetime → p ≡ q
unfolding made_prefix
same_prefix p q a b c d e = same_parts p.prefix q.prefix p.on_link q.on_link p.autonomous q.autonomous p.valid_lifetime q.valid_lifetime p.preferred_lifetime q.preferred_lifetime a b c d e

prefix_back : (p : PrefixInfo) → FitsPrefix p → p ≡ prefix_of (prefix_piece p)
prefix_back p h =
    let i = h.prefix_is in
    let kept : p.prefix.address.0 ≡ masked p.prefix.length (take 16 p.prefix.address.0) = sym i.zeros ∙ ap (masked p.prefix.length) (sym (take_whole 16 p.prefix.address.0 i.address_is.len_is)) in
    let value = same_prefix_value p.prefix (masked p.prefix.length (take 16 p.prefix.address.0)) kept in
    same_prefix p (prefix_of (prefix_piece p)) value (high_flag p.on_link p.autonomous) (low_flag p.on_link p.autonomous) (four p.valid_lifetime (big_bytes 4 p.preferred_lifetime ++ (0 ∷ 0 ∷ 0 ∷ 0 ∷ []) ++ p.prefix.address.0) h.valid) (four p.preferred_lifetime ((0 ∷ 0 ∷ 0 ∷ 0 ∷ []) ++ p.prefix.address.0) h.preferred)

pub piece_says : (o : Said) → FitsOption o → IsPiece (piece_of o) × Says (piece_of o) o
piece_says (slla mac) h = (record { some = omega arith; whole = omega (arith, h.len_is) }, (record { kind_is = refl; len_is = refl }, mac_back 1 mac h))
piece_says (tlla mac) h = (record { some = omega arith; whole = omega (arith, h.len_is) }, (record { kind_is = refl; len_is = refl }, mac_back 2 mac h))
piece_says (prefix p) h =
    (record { some = omega arith; whole = omega (arith, h.prefix_is.address_is.len_is) }, (record { kind_is = refl; len_is = refl }, h.prefix_is.short, prefix_back p h))
piece_says (redirected packet) h = (record { some = omega arith; whole = omega (arith, h.eights) }, (refl, refl))
piece_says (mtu n) h = (record { some = omega arith; whole = refl }, (record { kind_is = refl; len_is = refl }, four n [] h))
piece_says (rdnss lifetime servers) h = (rdnss_whole lifetime servers h, (rdnss_row lifetime servers h, four lifetime (flat_map (λ (s : Addr). s.0) servers) h.lifetime_is, servers_spell servers h.each))
piece_says (dnssl lifetime names) h = (
  dnssl_whole lifetime names h,
  (dnssl_row lifetime names h, four lifetime (names_data names ++ replicate (missing (length (names_data names))) 0) h.lifetime_is, names_spell names h.names_are),
)
piece_says (other kind rest) h =
    let o = h.2 in
    (record { some = omega (arith, o.least); whole = omega (arith, o.eights) }, (λ option says. unknown option (known_one _ option says), refl, refl))
  where
    unknown : (option : Said) → known_of (other_piece kind rest) ≡ Some option → ⊥
    unknown option e = let none = h.2.unknown in cc

pub pieces_spell : (os : List Said) → AllByRecursion FitsOption os → SpellsOptions (flat_map piece_of os) os
pieces_spell [] h = refl
pieces_spell (o ∷ os) h = let p = piece_says o h.0 in (piece_of o, flat_map piece_of os, refl, p.0, p.1, pieces_spell os h.1)

-- ---- fields

made_fields : ℕ → Bool → Bool → Preference → ℕ → ℕ → ℕ → RouterAdvertisement
made_fields h m o p l r t = record { hop_limit = h; managed = m; other = o; preference = p; router_lifetime = l; reachable_time = r; retrans_timer = t }

same_fields : (h h' : ℕ) (m m' o o' : Bool) (p p' : Preference) (l l' r r' t t' : ℕ) → h ≡ h' → m ≡ m' → o ≡ o' → p ≡ p' → l ≡ l' → r ≡ r' → t ≡ t'
    → made_fields h m o p l r t ≡ made_fields h' m' o' p' l' r' t'
same_fields h h' m m' o o' p p' l l' r r' t t' a b c d e f g = cc

same_router_advertisement : (r s : RouterAdvertisement) → r.hop_limit ≡ s.hop_limit → r.managed ≡ s.managed → r.other ≡ s.other → r.preference ≡ s.preference → r.router_lifetime ≡ s.router_lifetime → r.reachable_time ≡ s.reachable_time → r.retrans_timer ≡ s.retrans_timer → r ≡ s
unfolding made_fields
same_router_advertisement r s a b c d e f g =
    same_fields r.hop_limit s.hop_limit r.managed s.managed r.other s.other r.preference s.preference r.router_lifetime s.router_lifetime r.reachable_time s.reachable_time r.retrans_timer s.retrans_timer a b c d e f g

router_advertisement_back : (x : ℕ) (r : RouterAdvertisement) (rest : List ℕ) → FitsRouterAdvertisement r → r ≡ router_advertisement_of (fields_of x (bodies.Ra r) ++ rest)
router_advertisement_back x r rest h =
    same_router_advertisement r (router_advertisement_of (fields_of x (bodies.Ra r) ++ rest)) refl (managed_flag r.managed r.other r.preference) (other_flag r.managed r.other r.preference) (preference_back r.managed r.other r.preference) (two r.router_lifetime (big_bytes 4 r.reachable_time ++ big_bytes 4 r.retrans_timer ++ rest) h.lifetime) (four r.reachable_time (big_bytes 4 r.retrans_timer ++ rest) h.reachable) (four r.retrans_timer rest h.retrans)

made_flags : Bool → Bool → Bool → Addr → NeighborAdvertisement
made_flags r s o t = record { router = r; solicited = s; override_flag = o; target = t }

same_flags : (r r' s s' o o' : Bool) (t t' : Addr) → r ≡ r' → s ≡ s' → o ≡ o' → t ≡ t' → made_flags r s o t ≡ made_flags r' s' o' t'
same_flags r r' s s' o o' t t' a b c d = cc

same_neighbor_advertisement : (n m : NeighborAdvertisement) → n.router ≡ m.router → n.solicited ≡ m.solicited → n.override_flag ≡ m.override_flag → n.target.0 ≡ m.target.0 → n ≡ m
unfolding made_flags
same_neighbor_advertisement n m a b c d =
    same_flags n.router m.router n.solicited m.solicited n.override_flag m.override_flag n.target m.target a b c (ap (λ (x : List ℕ). let t : Addr = record { 0 = x } in t) d)

made_redirect : Addr → Addr → Redirect
made_redirect t d = record { target = t; destination = d }

same_addresses : (t t' d d' : Addr) → t ≡ t' → d ≡ d' → made_redirect t d ≡ made_redirect t' d'
same_addresses t t' d d' a b = cc

same_redirect : (r s : Redirect) → r.target.0 ≡ s.target.0 → r.destination.0 ≡ s.destination.0 → r ≡ s
unfolding made_redirect
same_redirect r s a b =
    same_addresses r.target s.target r.destination s.destination (ap (λ (x : List ℕ). let t : Addr = record { 0 = x } in t) a) (ap (λ (x : List ℕ). let t : Addr = record { 0 = x } in t) b)

take_front : (n : ℕ) (xs rest : List ℕ) → length xs ≡ n → take n (xs ++ rest) ≡ xs
take_front zero [] rest e = refl
take_front zero (x ∷ xs) rest e = absurd (omega arith)
take_front (suc n) [] rest e = absurd (omega arith)
take_front (suc n) (x ∷ xs) rest e = ap (λ (t : List ℕ). x ∷ t) (take_front n xs rest (omega arith))

same_target : (n m : NeighborSolicitation) → n.target.0 ≡ m.target.0 → n ≡ m
same_target n m a = ap (λ (x : List ℕ). let t : NeighborSolicitation = record { target = record { 0 = x } } in t) a

-- two addresses, one behind the other
first_of_two : (a b rest : List ℕ) → length a ≡ 16 → take 16 ((a ++ b) ++ rest) ≡ a
first_of_two a b rest e = ap (take 16) (append_assoc a b rest) ∙ take_front 16 a (b ++ rest) e

second_of_two : (a b rest : List ℕ) → length a ≡ 16 → length b ≡ 16 → take 16 (drop 16 ((a ++ b) ++ rest)) ≡ b
second_of_two a b rest e f = ap (λ (t : List ℕ). take 16 (drop 16 t)) (append_assoc a b rest) ∙ ap (take 16) (drop_at a (b ++ rest) 16 e) ∙ take_front 16 b rest f

pub has_fields : (x : ℕ) (b : Body) (rest : List ℕ) → FitsBody b → HasBody (fields_of x b ++ rest) b
has_fields x bodies.Rs rest h = refl
has_fields x (bodies.Ra r) rest h = (refl, router_advertisement_back x r rest h)
has_fields x (bodies.Ns n) rest h = (refl, same_target n (neighbor_solicitation_of (fields_of x (bodies.Ns n) ++ rest)) (sym (take_front 16 n.target.0 rest h.len_is)))
has_fields x (bodies.Na n) rest h = (
  refl,
  same_neighbor_advertisement n (neighbor_advertisement_of (fields_of x (bodies.Na n) ++ rest)) (first_flag n.router n.solicited n.override_flag) (second_flag n.router n.solicited n.override_flag) (third_flag n.router n.solicited n.override_flag) (sym (take_front 16 n.target.0 rest h.len_is)),
)
has_fields x (bodies.Redirect r) rest h = (
  refl,
  same_redirect r (redirect_of (fields_of x (bodies.Redirect r) ++ rest)) (sym (first_of_two r.target.0 r.destination.0 rest h.0.len_is)) (sym (second_of_two r.target.0 r.destination.0 rest h.0.len_is h.1.len_is)),
)

pub fields_front : (x : ℕ) (b : Body) (rest : List ℕ) → FitsBody b → HasFields (fields_of x b ++ rest) × (behind_fields (fields_of x b ++ rest) ≡ rest)
fields_front x bodies.Rs rest h = (record { code = refl; long = omega (arith, length-append (fields_of x bodies.Rs) rest) }, refl)
fields_front x (bodies.Ra r) rest h = (record { code = refl; long = omega (arith, length-append (fields_of x (bodies.Ra r)) rest) }, refl)
fields_front x (bodies.Ns n) rest h =
    (record { code = refl; long = omega (arith, h.len_is, length-append (fields_of x (bodies.Ns n)) rest) }, drop_at (fields_of x (bodies.Ns n)) rest 24 (omega (arith, h.len_is)))
fields_front x (bodies.Na n) rest h =
    (record { code = refl; long = omega (arith, h.len_is, length-append (fields_of x (bodies.Na n)) rest) }, drop_at (fields_of x (bodies.Na n)) rest 24 (omega (arith, h.len_is)))
fields_front x (bodies.Redirect r) rest h =
    let len = length-append r.target.0 r.destination.0 in
    (record { code = refl; long = omega (arith, h.0.len_is, h.1.len_is, len, length-append (fields_of x (bodies.Redirect r)) rest) }, drop_at (fields_of x (bodies.Redirect r)) rest 40 (omega (arith, h.0.len_is, h.1.len_is, len)))

-- what fits is spelled by its spelling, whatever the sum
pub spelling_spells : (x : ℕ) (m : Parts) → FitsBody m.body → AllByRecursion FitsOption m.options → Spells (spelling x m) m
unfolding spelling
spelling_spells x m b os =
    let f = fields_front x m.body (flat_map piece_of m.options) b in
    record { fields = f.0; body = has_fields x m.body (flat_map piece_of m.options) b; options = subst (λ (t : List ℕ). SpellsOptions t m.options) (sym f.1) (pieces_spell m.options os) }
