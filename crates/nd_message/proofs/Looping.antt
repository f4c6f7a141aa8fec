-- Loops over the options of a message.
use Rattle.std.proofs.Common.{◌≡◌, ℕ, ◌+◌, ◌/◌, ◌%◌, ◌<◌, ◌≤◌, ◌↔◌, false, ltb, List, [], ◌∷◌, ◌++◌, length, take, drop, map, get_or, set, refl, sym, ap, subst, ◌∙◌, arith}
use Rattle.std.specs.List.{flat_map}
use Rattle.std.proofs.lemmas.Bool.{le-ltb}
use Rattle.std.proofs.lemmas.List.{drop_more, drop_all, length-append}
use Rattle.byteorder.specs.Endian.{big_bytes}
use Rattle.nd_addr.specs.Checksum.{with_sum}
use Rattle.nd_message.specs.declared.opt.Opt.{Opt}
use Rattle.nd_decode.specs.declared.body.Body.{Body}
use Rattle.nd_decode.specs.declared.body.Body.TheVariants as bodies
use Rattle.nd_decode.specs.Option.{Said, slla, tlla, prefix, redirected, mtu, rdnss, dnssl, other}
use Rattle.nd_decode.specs.Message.{Parts}
use Rattle.nd_message.specs.Owned.{said, whole_of}
use Rattle.nd_message.specs.Spelling.{piece_of, fields_of, spelling, written_length}
use Rattle.nd_message.specs.Fitting.{FitsOption, FitsBehind}
use Rattle.nd_message.proofs.DnsServers.{length-rdnss}
use Rattle.nd_message.proofs.SearchNames.{length-dnssl}

-- the next that is left, seen by a view
pub next_seen : {X Y : Type 0} (view : X → Y) (items : List X) (i : ℕ) (x : X) → i < length items → x ≡ get_or items i x → map view (drop i items) ≡ view x ∷ map view (drop (i + 1) items)
next_seen {X} view items i x lt is = ap (map view) (drop_more items i x lt) ∙ ap (λ (o : X). view o ∷ map view (drop (i + 1) items)) (sym is)

-- it fits, where all that is left does
pub next_fits : {A : Type 0} (len : ℕ) (items : List (Opt A)) (i : ℕ) (x : Opt A) → i < length items → x ≡ get_or items i x → FitsBehind len (map said (drop i items)) → FitsBehind len (said x ∷ map said (drop (i + 1) items))
next_fits len items i x lt is h = subst (λ (os : List Said). FitsBehind len os) (next_seen said items i x lt is) h

-- what fits behind more bytes, fits behind fewer with the piece of those between
fits_step : (len more : ℕ) (o : Said) (os : List Said) → FitsOption o → more ≡ length (piece_of o) → FitsBehind (len + more) os ↔ FitsBehind len (o ∷ os)
fits_step len more o os f e =
    let all = length-append (piece_of o) (flat_map piece_of os) in (
      λ h. record { each = (f, h.each); most = omega (arith, h.most, e, all) },
      λ h. record { each = h.each.1; most = omega (arith, h.most, e, all) },
    )

pub next_behind : {A : Type 0} (len more : ℕ) (items : List (Opt A)) (i : ℕ) (x : Opt A) → i < length items → x ≡ get_or items i x → FitsOption (said x) → more ≡ length (piece_of (said x))
    → FitsBehind (len + more) (map said (drop (i + 1) items)) ↔ FitsBehind len (map said (drop i items))
next_behind len more items i x lt is f m =
    subst (λ (os : List Said). FitsBehind (len + more) (map said (drop (i + 1) items)) ↔ FitsBehind len os) (sym (next_seen said items i x lt is)) (fits_step len more (said x) (map said (drop (i + 1) items)) f m)

-- the next piece is what the length lacks less
pub next_left : {A : Type 0} (len more total : ℕ) (items : List (Opt A)) (i : ℕ) (x : Opt A) → i < length items → x ≡ get_or items i x → more ≡ length (piece_of (said x))
    → len + length (flat_map piece_of (map said (drop i items))) ≡ total → len + more + length (flat_map piece_of (map said (drop (i + 1) items))) ≡ total
next_left len more total items i x lt is m h =
    let pieces = ap (λ (os : List Said). length (flat_map piece_of os)) (next_seen said items i x lt is) in
    omega (arith, h, m, pieces, length-append (piece_of (said x)) (flat_map piece_of (map said (drop (i + 1) items))))

-- a piece has at most 255 units of 8 bytes
pub piece_short : (o : Said) (more : ℕ) → FitsOption o → more ≡ length (piece_of o) → more ≤ 2040
piece_short (slla mac) more h e = omega (arith, e, h.len_is)
piece_short (tlla mac) more h e = omega (arith, e, h.len_is)
piece_short (prefix p) more h e = omega (arith, e, h.prefix_is.address_is.len_is)
piece_short (redirected packet) more h e = omega (arith, e, h.most)
piece_short (mtu n) more h e = omega (arith, e)
piece_short (rdnss lifetime servers) more h e = omega (arith, e, length-rdnss lifetime servers h, h.most)
piece_short (dnssl lifetime names) more h e = omega (arith, e, length-dnssl lifetime names, h.names_are.most)
piece_short (other kind rest) more h e = omega (arith, e, h.2.most)

-- a message is not well-formed where the next option is too long
pub over : (len more : ℕ) (o : Said) (os : List Said) → FitsBehind len (o ∷ os) → more ≡ length (piece_of o) → 65535 < len + more → ⊥
over len more o os h e lt = omega (arith, h.most, e, lt, length-append (piece_of o) (flat_map piece_of os))

-- no options fit behind at most 65535 bytes
pub fits_none : {A : Type 0} (len : ℕ) (items : List (Opt A)) (i : ℕ) → length items ≤ i → len ≤ 65535 → FitsBehind len (map said (drop i items))
fits_none len items i past small = rw (drop_all i items past) (record { each = tt; most = omega arith })

-- with nothing left, the length is that of the spelling
pub whole_length : {A : Type 0} (len : ℕ) (body : Body) (items : List (Opt A)) (i : ℕ) → length items ≤ i
    → len + length (flat_map piece_of (map said (drop i items))) ≡ length (fields_of 0 body) + length (flat_map piece_of (map said items)) → len ≡ written_length (whole_of body items)
unfolding spelling
whole_length len body items i past h =
    let nothing : length (flat_map piece_of (map said (drop i items))) ≡ 0 = rw (drop_all i items past) refl in
    omega (arith, h, nothing, length-append (fields_of 0 body) (flat_map piece_of (map said items)))

-- with the fields put, the pieces of all options are what is left
pub fields_first : (m : Parts) → spelling 0 m ≡ fields_of 0 m.body ++ flat_map piece_of m.options
unfolding spelling
fields_first m = refl

long_fields : (b : Body) (rest : List ℕ) → 4 ≤ length (fields_of 0 b ++ rest)
long_fields bodies.Rs rest = omega arith
long_fields (bodies.Ra r) rest = omega arith
long_fields (bodies.Ns n) rest = omega arith
long_fields (bodies.Na n) rest = omega arith
long_fields (bodies.Redirect r) rest = omega arith

pub long_spelling : (m : Parts) → 4 ≤ length (spelling 0 m)
unfolding spelling
long_spelling m = long_fields m.body (flat_map piece_of m.options)

-- the sum put into a spelling makes the spelling with it
pub spelling_with : (x : ℕ) (m : Parts) → with_sum (big_bytes 2 x) (spelling 0 m) ≡ spelling x m
unfolding spelling with_sum
spelling_with x m =
    let long : ltb (length (fields_of 0 m.body ++ flat_map piece_of m.options)) 4 ≡ false = le-ltb _ _ (long_fields m.body (flat_map piece_of m.options)) in
    rw long (go m.body (flat_map piece_of m.options))
  where
    go : (b : Body) (rest : List ℕ) → take 2 (fields_of 0 b ++ rest) ++ big_bytes 2 x ++ drop 4 (fields_of 0 b ++ rest) ≡ fields_of x b ++ rest
    go bodies.Rs rest = refl
    go (bodies.Ra r) rest = refl
    go (bodies.Ns n) rest = refl
    go (bodies.Na n) rest = refl
    go (bodies.Redirect r) rest = refl

-- two numbers put into the field
sum_put : (bytes : List ℕ) (x y : ℕ) → 4 ≤ length bytes → set (set bytes 2 x) 3 y ≡ with_sum (x ∷ y ∷ []) bytes
unfolding with_sum
sum_put [] x y h = absurd (omega arith)
sum_put (a ∷ []) x y h = absurd (omega arith)
sum_put (a ∷ b ∷ []) x y h = absurd (omega arith)
sum_put (a ∷ b ∷ c ∷ []) x y h = absurd (omega arith)
sum_put (a ∷ b ∷ c ∷ d ∷ rest) x y h = let long : ltb (length (a ∷ b ∷ c ∷ d ∷ rest)) 4 ≡ false = le-ltb _ _ h in rw long refl

-- a number of 16 bits put into the field
pub sum_put_number : (bytes : List ℕ) (x : ℕ) → x < 65536 → 4 ≤ length bytes → set (set bytes 2 (x / 256)) 3 (x % 256) ≡ with_sum (big_bytes 2 x) bytes
sum_put_number bytes x small h =
    let high : x / 256 ≡ x / 256 % 256 = omega arith in
    ap (λ (k : ℕ). set (set bytes 2 k) 3 (x % 256)) high ∙ sum_put bytes (x / 256 % 256) (x % 256) h
