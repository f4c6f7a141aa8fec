-- Options take no more bytes than there are.
use Rattle.std.proofs.Common.{ℕ, zero, suc, ◌≤◌, List, [], ◌∷◌, length, take, drop, ap, arith, inl, inr}
use Rattle.std.proofs.lemmas.Bool.{cases_Bool}
use Rattle.std.proofs.lemmas.List.{length-append, length-drop, length-take-le}
use Rattle.nd_search_list.specs.Names.{SpellsBefore}
use Rattle.nd_decode.specs.Option.{Said, slla, tlla, prefix, redirected, mtu, rdnss, dnssl, other, IsPiece, Says, option_of}
use Rattle.nd_decode.specs.Whole.{piece_length, begins_whole}
use Rattle.nd_decode.specs.Pieces.{options_from, options_in, options_left}
use Rattle.nd_decode.specs.declared.options.Options.{Options}
use Rattle.nd_decode.specs.Sizes.{size, sizes}
use Rattle.nd_decode.proofs.Addresses.{spelled_length}
use Rattle.nd_decode.proofs.ReadOptions.{sizes_read}
use Rattle.nd_decode.proofs.Says.{option_says}
use Rattle.nd_decode.proofs.Spelling.{front_piece}
use Rattle.nd_decode.proofs.Walk.{front_is}

names_few : (names : List (List ℕ)) (bytes : List ℕ) → SpellsBefore bytes names → length names ≤ length bytes
names_few [] bytes h = omega arith
names_few (name ∷ names) bytes h = omega (arith, names_few names h.1 h.5, ap length h.2, length-append h.0 (0 ∷ h.1))

size_said : (piece : List ℕ) (option : Said) → IsPiece piece → Says piece option → size option ≤ length piece
size_said piece (prefix p) is s = omega (arith, is.whole, s.0.len_is)
size_said piece (rdnss lifetime servers) is s = omega (arith, spelled_length (drop 8 piece) servers s.2, length-drop 8 piece)
size_said piece (slla mac) is s = omega arith
size_said piece (tlla mac) is s = omega arith
size_said piece (redirected packet) is s = omega arith
size_said piece (mtu n) is s = omega arith
size_said piece (dnssl lifetime names) is s = omega (arith, names_few names (drop 8 piece) s.2.spelled, length-drop 8 piece)
size_said piece (other kind rest) is s = omega arith

sizes_from : (n : ℕ) (bytes : List ℕ) → sizes (options_from n bytes) ≤ length bytes
sizes_from zero bytes = omega arith
sizes_from (suc n) bytes =
    elim (cases_Bool (begins_whole bytes)) [
      | inl whole ↦
          let front = front_is bytes whole in
          let piece = take (piece_length bytes) bytes in
          let is : IsPiece piece = front_piece bytes front in
          let first = size_said piece (option_of piece) is (option_says piece is) in
          let rest = sizes_from n (drop (piece_length bytes) bytes) in
          rw whole (omega (arith, first, rest, length-take-le (piece_length bytes) bytes front.fits, length-drop (piece_length bytes) bytes, front.fits))
      | inr over ↦ rw over (omega arith)
    ]

sizes_within : (bytes : List ℕ) → sizes (options_in bytes) ≤ length bytes
unfolding options_in
sizes_within bytes = sizes_from (length bytes) bytes

pub left_within : (o : Options) → sizes (options_left o) ≤ length o.rest.now
left_within o = omega (arith, sizes_within o.rest.now, sizes_read o.reading (options_in o.rest.now))
