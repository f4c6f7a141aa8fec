-- The table of options, read as a function and as a relation.
use Rattle.std.proofs.Common.{◌≡◌, ℕ, ◌%◌, Bool, true, false, leb, eqb, ◌&&◌, List, drop, slice_index, Option, Some, None, refl, sym, inl, inr}
use Rattle.std.specs.List.{list_all}
use Rattle.std.proofs.lemmas.Bool.{cases_Bool, and_parts, leb-true, le-leb, eqb-true, eq-eqb}
use Rattle.nd_search_list.specs.Names.{spells_names, names_in}
use Rattle.nd_search_list.proofs.Deciding.{names_spelled, names_one}
use Rattle.nd_decode.specs.Servers.{servers_in, is_server}
use Rattle.nd_decode.specs.Option.{Said, slla, tlla, prefix, redirected, mtu, rdnss, dnssl, other, given, known_of, option_of, number_in, mac_of, prefix_of, IsPiece, IsRow, IsServersRow, IsNamesRow, SaysKnown, Says}
use Rattle.nd_decode.proofs.Addresses.{servers_spelled, servers_one}

-- ---- what a row that fits says

given_is : (test : Bool) (said option : Said) → given test said ≡ Some option → (test ≡ true) × (option ≡ said)
given_is true said option e = (refl, cc)
given_is false said option e = absurd cc

row_at : (piece : List ℕ) (kind len : ℕ) → slice_index piece 0 ≡ kind → eqb (slice_index piece 1) len ≡ true → IsRow piece kind len
row_at piece kind len k e = record { kind_is = k; len_is = eqb-true _ _ e }

-- a row by its type, and what the function says of the type
data IsKind (piece : List ℕ) : Option Said → Type 0 where
  slla_row : slice_index piece 0 ≡ 1 → IsKind piece (given (eqb (slice_index piece 1) 1) (slla (mac_of piece)))
  tlla_row : slice_index piece 0 ≡ 2 → IsKind piece (given (eqb (slice_index piece 1) 1) (tlla (mac_of piece)))
  prefix_row : slice_index piece 0 ≡ 3 → IsKind piece (given (eqb (slice_index piece 1) 4 && leb (slice_index piece 2) 128) (prefix (prefix_of piece)))
  redirected_row : slice_index piece 0 ≡ 4 → IsKind piece (Some (redirected (drop 8 piece)))
  mtu_row : slice_index piece 0 ≡ 5 → IsKind piece (given (eqb (slice_index piece 1) 1) (mtu (number_in piece)))
  rdnss_row : slice_index piece 0 ≡ 25
      → IsKind piece (given (eqb (slice_index piece 1 % 2) 1 && leb 3 (slice_index piece 1) && list_all is_server (servers_in (drop 8 piece))) (rdnss (number_in piece) (servers_in (drop 8 piece))))
  dnssl_row : slice_index piece 0 ≡ 31
      → IsKind piece (given (leb 2 (slice_index piece 1) && spells_names (drop 8 piece)) (dnssl (number_in piece) (names_in (drop 8 piece))))
  no_row : IsKind piece None

kind_is : (piece : List ℕ) → IsKind piece (known_of piece)
unfolding known_of
kind_is piece =
    elim (cases_Bool (eqb (slice_index piece 0) 1)) [
      | inl e ↦ rw e (slla_row (eqb-true _ _ e))
      | inr n1 ↦ rw n1 (elim (cases_Bool (eqb (slice_index piece 0) 2)) [
        | inl e ↦ rw e (tlla_row (eqb-true _ _ e))
        | inr n2 ↦ rw n2 (elim (cases_Bool (eqb (slice_index piece 0) 3)) [
          | inl e ↦ rw e (prefix_row (eqb-true _ _ e))
          | inr n3 ↦ rw n3 (elim (cases_Bool (eqb (slice_index piece 0) 4)) [
            | inl e ↦ rw e (redirected_row (eqb-true _ _ e))
            | inr n4 ↦ rw n4 (elim (cases_Bool (eqb (slice_index piece 0) 5)) [
              | inl e ↦ rw e (mtu_row (eqb-true _ _ e))
              | inr n5 ↦ rw n5 (elim (cases_Bool (eqb (slice_index piece 0) 25)) [
                | inl e ↦ rw e (rdnss_row (eqb-true _ _ e))
                | inr n6 ↦ rw n6 (elim (cases_Bool (eqb (slice_index piece 0) 31)) [
                  | inl e ↦ rw e (dnssl_row (eqb-true _ _ e))
                  | inr n7 ↦ rw n7 no_row
                ])
              ])
            ])
          ])
        ])
      ])
    ]

-- a row that the function finds says the option
pub known_says : (piece : List ℕ) (o : Said) → IsPiece piece → known_of piece ≡ Some o → SaysKnown piece o
known_says piece o p e = by_kind piece o p (known_of piece) (kind_is piece) e
  where
    by_kind : (b : List ℕ) (o : Said) → IsPiece b → (k : Option Said) → IsKind b k → k ≡ Some o → SaysKnown b o
    by_kind b o p k (slla_row h) e = let g = given_is _ _ o e in rw (g.1) (row_at b 1 1 h g.0, refl)
    by_kind b o p k (tlla_row h) e = let g = given_is _ _ o e in rw (g.1) (row_at b 2 1 h g.0, refl)
    by_kind b o p k (prefix_row h) e =
        let g = given_is _ _ o e in
        let t = and_parts (eqb (slice_index b 1) 4) (leb (slice_index b 2) 128) g.0 in
        rw (g.1) (row_at b 3 4 h t.0, leb-true _ _ t.1, refl)
    by_kind b o p k (redirected_row h) e = let f : o ≡ redirected (drop 8 b) = cc in rw f (h, refl)
    by_kind b o p k (mtu_row h) e = let g = given_is _ _ o e in rw (g.1) (row_at b 5 1 h g.0, refl)
    by_kind b o p k (rdnss_row h) e =
        let g = given_is _ _ o e in
        let t = and_parts (eqb (slice_index b 1 % 2) 1 && leb 3 (slice_index b 1)) (list_all is_server (servers_in (drop 8 b))) g.0 in
        let s = and_parts (eqb (slice_index b 1 % 2) 1) (leb 3 (slice_index b 1)) t.0 in
        let row : IsServersRow b = record { kind_is = h; odd = eqb-true _ _ s.0; least = leb-true _ _ s.1 } in
        rw (g.1) (row, refl, servers_spelled b p row t.1)
    by_kind b o p k (dnssl_row h) e =
        let g = given_is _ _ o e in
        let t = and_parts (leb 2 (slice_index b 1)) (spells_names (drop 8 b)) g.0 in
        let row : IsNamesRow b = record { kind_is = h; least = leb-true _ _ t.0 } in
        rw (g.1) (row, refl, names_spelled (drop 8 b) t.1)
    by_kind b o p k no_row e = absurd cc

-- and an option that a row says is found
pub known_one : (piece : List ℕ) (option : Said) → SaysKnown piece option → known_of piece ≡ Some option
unfolding known_of
known_one piece (slla mac) h = rw (h.0.kind_is, h.0.len_is, h.1) refl
known_one piece (tlla mac) h = rw (h.0.kind_is, h.0.len_is, h.1) refl
known_one piece (prefix p) h = rw (h.0.kind_is, h.0.len_is, le-leb _ _ h.1, h.2) refl
known_one piece (redirected packet) h = rw (h.0, h.1) refl
known_one piece (mtu n) h = rw (h.0.kind_is, h.0.len_is, h.1) refl
known_one piece (rdnss lifetime servers) h =
    let s = servers_one (drop 8 piece) servers h.2 in
    rw (h.0.kind_is, eq-eqb _ _ h.0.odd, le-leb _ _ h.0.least, s.0, s.1, h.1) refl
known_one piece (dnssl lifetime names) h =
    let s = names_one (drop 8 piece) names h.2 in
    rw (h.0.kind_is, le-leb _ _ h.0.least, s.0, s.1, h.1) refl
known_one piece (other kind rest) h = absurd h

-- ---- each piece says what the function gives

-- what a row says, a piece says
says_known : (piece : List ℕ) (option : Said) → SaysKnown piece option → Says piece option
says_known piece (slla mac) h = h
says_known piece (tlla mac) h = h
says_known piece (prefix p) h = h
says_known piece (redirected packet) h = h
says_known piece (mtu n) h = h
says_known piece (rdnss lifetime servers) h = h
says_known piece (dnssl lifetime names) h = h
says_known piece (other kind rest) h = absurd h

option_of-some : (piece : List ℕ) (o : Said) → known_of piece ≡ Some o → option_of piece ≡ o
unfolding option_of
option_of-some piece o e = rw e refl

option_of-none : (piece : List ℕ) → known_of piece ≡ None → option_of piece ≡ other (slice_index piece 0) (drop 2 piece)
unfolding option_of
option_of-none piece e = rw e refl

pub option_says : (piece : List ℕ) → IsPiece piece → Says piece (option_of piece)
option_says piece p = by_known piece p (known_of piece) refl
  where
    no_other : (b : List ℕ) → known_of b ≡ None → (o : Said) → SaysKnown b o → ⊥
    no_other b e o h = let f = known_one b o h in absurd cc

    by_known : (b : List ℕ) → IsPiece b → (k : Option Said) → known_of b ≡ k → Says b (option_of b)
    by_known b p (Some o) e = rw (option_of-some b o e) (says_known b o (known_says b o p e))
    by_known b p None e = rw (option_of-none b e) (no_other b e, refl, refl)

-- and nothing else
pub says_one : (piece : List ℕ) (option : Said) → IsPiece piece → Says piece option → option ≡ option_of piece
says_one piece (slla mac) p h = sym (option_of-some piece _ (known_one piece (slla mac) h))
says_one piece (tlla mac) p h = sym (option_of-some piece _ (known_one piece (tlla mac) h))
says_one piece (prefix i) p h = sym (option_of-some piece _ (known_one piece (prefix i) h))
says_one piece (redirected packet) p h = sym (option_of-some piece _ (known_one piece (redirected packet) h))
says_one piece (mtu n) p h = sym (option_of-some piece _ (known_one piece (mtu n) h))
says_one piece (rdnss lifetime servers) p h = sym (option_of-some piece _ (known_one piece (rdnss lifetime servers) h))
says_one piece (dnssl lifetime names) p h = sym (option_of-some piece _ (known_one piece (dnssl lifetime names) h))
says_one piece (other kind rest) p h = by_known piece kind rest p h (known_of piece) refl
  where
    by_known : (b : List ℕ) (kind : ℕ) (rest : List ℕ) → IsPiece b → Says b (other kind rest) → (k : Option Said) → known_of b ≡ k → other kind rest ≡ option_of b
    by_known b kind rest p h (Some o) e = absurd (h.0 o (known_says b o p e))
    by_known b kind rest p h None e = rw (option_of-none b e, h.1, h.2) refl
