-- Names that are written are spelled, and names that are spelled fit.
use Rattle.std.proofs.Common.{◌≡◌, ℕ, zero, suc, ◌+◌, ◌*◌, ◌/◌, ◌<◌, ◌≤◌, List, [], ◌∷◌, ◌++◌, length, drop, slice_index, refl, sym, ap, ◌∙◌, arith, append_assoc}
use Rattle.std.specs.Prelude.{replicate}
use Rattle.std.specs.List.{AllByRecursion}
use Rattle.std.specs.Char.{to_ascii_lowercase}
use Rattle.std.proofs.lemmas.List.{length-append, length-drop, length-map, length-replicate}
use Rattle.byteorder.specs.Numbers.{big_from-lt}
use Rattle.nd_addr.specs.Bytes.{IsBytes}
use Rattle.nd_search_list.specs.Name.{IsName}
use Rattle.nd_search_list.specs.Names.{SpellsBefore, SpellsNames}
use Rattle.nd_search_list.proofs.Lowering.{name_lowered, lowered_is_name, spelled_low}
use Rattle.nd_decode.specs.Option.{dnssl, IsPiece, IsNamesRow, Says}
use Rattle.nd_message.specs.Dnssl.{ended, names_data, missing, dnssl_piece, FitNames, FitsDnssl}
use Rattle.nd_addr.proofs.ByteLists.{AreSmall, AreSmall-append, IsBytes-drop, small_four}

length-ended : (name : List ℕ) → length (ended name) ≡ length name + 1
length-ended name = length-append name (0 ∷ [])

some_data : (names : List (List ℕ)) → 1 ≤ length names → 1 ≤ length (names_data names)
some_data [] h = h
some_data (name ∷ names) h = omega (arith, length-append (ended name) (names_data names), length-ended name)

abbrev padding : List (List ℕ) → List ℕ
padding names = replicate (missing (length (names_data names))) 0

-- with the least padding, bytes are whole units of 8
whole_units : (len : ℕ) → 8 + len + missing len ≡ 8 * ((8 + len + missing len) / 8)
whole_units len = omega arith

pub length-dnssl : (lifetime : ℕ) (names : List (List ℕ)) → length (dnssl_piece lifetime names) ≡ 8 + length (names_data names) + missing (length (names_data names))
length-dnssl lifetime names = omega (arith, length-append (names_data names) (padding names), length-replicate {A = ℕ} (missing (length (names_data names))) 0)

-- ---- written

pub dnssl_whole : (lifetime : ℕ) (names : List (List ℕ)) → FitsDnssl lifetime names → IsPiece (dnssl_piece lifetime names)
dnssl_whole lifetime names h = record { some = omega arith; whole = length-dnssl lifetime names ∙ whole_units (length (names_data names)) }

pub dnssl_row : (lifetime : ℕ) (names : List (List ℕ)) → FitsDnssl lifetime names → IsNamesRow (dnssl_piece lifetime names)
dnssl_row lifetime names h =
    let some = some_data names h.names_are.some in
    record { kind_is = refl; least = omega (arith, some, whole_units (length (names_data names))) }

zeros : (n : ℕ) → AllByRecursion (λ (byte : ℕ). byte ≡ 0) (replicate n 0)
zeros zero = tt
zeros (suc n) = (refl, zeros n)

data_spells : (names : List (List ℕ)) (rest : List ℕ) → AllByRecursion IsName names → AllByRecursion (λ (byte : ℕ). byte ≡ 0) rest → SpellsBefore (names_data names ++ rest) names
data_spells [] rest h z = z
data_spells (name ∷ names) rest h z =
    let parts : ((name ++ 0 ∷ []) ++ names_data names) ++ rest ≡ name ++ 0 ∷ (names_data names ++ rest) =
    append_assoc (name ++ 0 ∷ []) (names_data names) rest ∙ append_assoc name (0 ∷ []) (names_data names ++ rest) in
    (name, names_data names ++ rest, parts, h.0.spelled, sym (name_lowered name h.0), data_spells names rest h.1 z)

pub names_spell : (names : List (List ℕ)) → FitNames names → SpellsNames (names_data names ++ padding names) names
names_spell names h = record { some = h.some; spelled = data_spells names (padding names) h.each (zeros (missing (length (names_data names)))) }

low_small : (bytes : List ℕ) → AllByRecursion (λ byte. byte < 128) bytes → AreSmall bytes
low_small [] h = tt
low_small (byte ∷ bytes) h = (omega (arith, h.0), low_small bytes h.1)

pub zeros_small : (n : ℕ) → AreSmall (replicate n 0)
zeros_small zero = tt
zeros_small (suc n) = (omega arith, zeros_small n)

data_small : (names : List (List ℕ)) → AllByRecursion IsName names → AreSmall (names_data names)
data_small [] h = tt
data_small (name ∷ names) h =
    AreSmall-append (ended name) (names_data names) (AreSmall-append name (0 ∷ []) (low_small name (spelled_low name h.0.spelled)) (omega arith, tt)) (data_small names h.1)

pub dnssl_small : (lifetime : ℕ) (names : List (List ℕ)) → FitsDnssl lifetime names → AreSmall (dnssl_piece lifetime names)
dnssl_small lifetime names h =
    let tail = AreSmall-append (names_data names) (padding names) (data_small names h.names_are.each) (zeros_small (missing (length (names_data names)))) in
    (omega arith, (omega (arith, h.names_are.most), (omega arith, (omega arith, small_four lifetime (names_data names ++ padding names) tail))))

-- ---- spelled

spelled_fit : (names : List (List ℕ)) (bytes : List ℕ) → SpellsBefore bytes names → AllByRecursion IsName names × (length (names_data names) ≤ length bytes)
spelled_fit [] bytes s = (tt, omega arith)
spelled_fit (name ∷ names) bytes s =
    let more = spelled_fit names s.1 s.5 in
    let len : length name ≡ length s.0 = ap length s.4 ∙ length-map s.0 to_ascii_lowercase in
    let is_name : IsName name = rw s.4 (lowered_is_name s.0 s.3) in
    ((is_name, more.0), omega (arith, more.1, len, ap length s.2, length-append s.0 (0 ∷ s.1), length-append (ended name) (names_data names), length-ended name))

pub dnssl_fits : (piece : List ℕ) (lifetime : ℕ) (names : List (List ℕ)) → IsBytes piece → IsPiece piece → Says piece (dnssl lifetime names)
    → FitsDnssl lifetime names × (length (dnssl_piece lifetime names) ≤ length piece)
dnssl_fits piece lifetime names h p s =
    let fit = spelled_fit names (drop 8 piece) s.2.spelled in
    let all = length-drop 8 piece in
    let byte : slice_index piece 1 < 256 = h 1 in
    let most : length (names_data names) ≤ 2032 = omega (arith, fit.1, all, p.whole, byte) in
    let f : FitsDnssl lifetime names = record {
      lifetime_is = rw s.1 (big_from-lt 0 4 (drop 4 piece) (IsBytes-drop 4 piece h));
      names_are = record { some = s.2.some; each = fit.0; most = most };
    } in
    (f, omega (arith, length-dnssl lifetime names, fit.1, all, p.whole, p.some))
