use Rattle.std.proofs.Common.{◌≡◌, ℕ, ◌+◌, ◌/◌, List, [], ◌∷◌, ◌++◌, length, map, get_or, Option, Some, None, refl, ap, ◌∙◌, arith, append_assoc}
use Rattle.std.specs.Prelude.{replicate}
use Rattle.std.specs.Option.{SomeIff, unwrap_or}
use Rattle.std.proofs.lemmas.List.{length-append, length-replicate}
use Rattle.byteorder.specs.Endian.{big_bytes}
use Rattle.nd_message.specs.Owned.{labels_of}
use Rattle.nd_message.specs.Dnssl.{missing, names_data, FitNames}
use Rattle.nd_message.proofs.dnssl.put_dnssl.Goals as goal

-- where names fit, their length is told
told : (found : Option ℕ) (len : ℕ) (names : List (List ℕ)) → SomeIff found (FitNames names) (length (names_data names)) → FitNames names → len ≡ unwrap_or found 0 → len ≡ length (names_data names)
told None len names h f e = absurd (h f)
told (Some n) len names h f e = e ∙ h.1

-- three pieces, one behind the other
pieces : (old one two three head head' names zeros zeros' : List ℕ) → one ≡ old ++ head' → two ≡ one ++ names → three ≡ two ++ zeros' → head' ≡ head → zeros' ≡ zeros → three ≡ old ++ (head ++ (names ++ zeros))
pieces old one two three head head' names zeros zeros' a b c d e =
    let all : three ≡ ((old ++ head) ++ names) ++ zeros = c ∙ rw (b, a, d, e) refl in
    all ∙ simp append_assoc

pub returns : goal.returns
returns g c =
    let names = map labels_of c.args.names.now in
    let len : c.unwrap_or-length.result ≡ length (names_data names) = told c.names_length.result _ names c.names_length.ensures c.requires.fits.names_are c.unwrap_or-length.ensures in
    let padding : c.missing-padding.result ≡ missing (length (names_data names)) = c.missing-padding.ensures.value ∙ ap missing len in
    let zeros : List ℕ = replicate (missing (length (names_data names))) 0 in
    let units : ℕ = (8 + length (names_data names) + missing (length (names_data names))) / 8 in
    let bytes : List ℕ = c.to_be_bytes.result in
    let head : 31 ∷ ((8 + c.unwrap_or-length.result + c.missing-padding.result) / 8) ∷ 0 ∷ 0 ∷ get_or bytes 0 0 ∷ get_or bytes 1 0 ∷ get_or bytes 2 0 ∷ get_or bytes 3 0 ∷ [] ≡ 31 ∷ units ∷ 0 ∷ 0 ∷ big_bytes 4 c.args.lifetime =
    rw (len, padding, c.to_be_bytes.ensures) refl in (
      pieces c.args.out.now.items _ _ _ (31 ∷ units ∷ 0 ∷ 0 ∷ big_bytes 4 c.args.lifetime) _ (names_data names) zeros (replicate c.missing-padding.result 0) c.put_bytes.ensures.0 c.put_names.ensures.0 c.put_zeros.ensures.0 head (ap (λ (n : ℕ). replicate n 0) padding),
      omega (arith, len, padding, c.put_bytes.ensures.1, c.put_names.ensures.1, c.put_zeros.ensures.1, length-append (names_data names) zeros, length-replicate {A = ℕ} (missing (length (names_data names))) 0, length-replicate {A = ℕ} c.missing-padding.result 0),
      omega (arith, c.put_bytes.ensures.2, c.put_names.ensures.2, c.put_zeros.ensures.2),
    )
