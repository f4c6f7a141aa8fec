-- The numbers of the addresses of a list.
use Rattle.std.proofs.Common.{◌≡◌, ℕ, ◌<◌, true, false, eqb, ltb, List, [], ◌∷◌, length, get_or, set, Option, Some, None, refl, sym, ◌∙◌, ap, arith, suc, zero, add-one, inl, inr}
use Rattle.std.specs.Prelude.{is_some, slice_get, IfSome, IfNone, ◌||◌}
use Rattle.std.proofs.lemmas.Bool.{cases_Bool}
use Rattle.nd_table.proofs.Keyed.{put_in}
use Rattle.nd_table.proofs.Dates.{swap}
use Rattle.nd_slaac.specs.AddressKept.{Address}
use Rattle.nd_slaac.specs.TableKept.{key_of, address_in, Stands}
use Rattle.nd_slaac.specs.Room.{is_among}
use Rattle.nd_slaac.specs.Calls.{keys_in}
use Rattle.nd_slaac.specs.History.{Row, story}
use Rattle.nd_slaac.specs.State.{is_known}
use Rattle.nd_slaac.proofs.Stories.{known_story}

-- an address is known where its number is among those
pub known_among : (key : ℕ) (xs : List Address) → is_some (address_in key xs) ≡ is_among key (keys_in xs)
known_among key [] = refl
known_among key (x ∷ xs) = elim (cases_Bool (eqb x.key key)) [
  | inl e ↦ rw e refl
  | inr e ↦ rw e (known_among key xs)
]

-- what a look-up finds is known
pub found_some : (key : ℕ) (xs : List Address) (o : Option ℕ) → IfSome o (λ i. i < length xs) → IfSome o (λ i. address_in key xs ≡ slice_get xs i) → IfNone o (address_in key xs ≡ None) → is_some o ≡ is_among key (keys_in xs)
found_some key xs None within found none = sym (sym (known_among key xs) ∙ ap is_some none)
found_some key xs (Some i) within found none =
    let there : is_some (slice_get xs i) ≡ true = get_some xs i within in
    sym (sym (known_among key xs) ∙ (ap is_some found ∙ there))
  where
    get_some : (ys : List Address) (j : ℕ) → j < length ys → is_some (slice_get ys j) ≡ true
    get_some [] j lt = absurd (omega arith)
    get_some (y ∷ ys) zero lt = refl
    get_some (y ∷ ys) (suc j) lt = get_some ys j (omega arith)

pub keys-length : (xs : List Address) → length (keys_in xs) ≡ length xs
keys-length [] = refl
keys-length (x ∷ xs) = ap suc (keys-length xs)

pub keys-set : (xs : List Address) (i : ℕ) (m d : Address) → (get_or xs i d).key ≡ m.key → keys_in (set xs i m) ≡ keys_in xs
keys-set [] i m d same = refl
keys-set (x ∷ xs) zero m d same = ap (λ k. k ∷ keys_in xs) (sym same)
keys-set (x ∷ xs) (suc i) m d same = ap (λ ks. x.key ∷ ks) (keys-set xs i m d same)

put_behind : (m x : Address) (xs : List Address) → ltb x.key m.key ≡ true → put_in key_of m (x ∷ xs) ≡ x ∷ put_in key_of m xs
put_behind m x xs lt = rw (lt, add-one) refl

put_before : (m x : Address) (xs : List Address) → ltb x.key m.key ≡ false → put_in key_of m (x ∷ xs) ≡ m ∷ x ∷ xs
put_before m x xs ge = rw ge refl

-- a new one is among them, wherever it is put
pub among-put : (key : ℕ) (m : Address) (xs : List Address) → is_among key (keys_in (put_in key_of m xs)) ≡ is_among key (m.key ∷ keys_in xs)
among-put key m [] = refl
among-put key m (x ∷ xs) = elim (cases_Bool (ltb x.key m.key)) [
  | inl lt ↦ rw (put_behind m x xs lt) (ap (λ b. eqb x.key key || b) (among-put key m xs) ∙ swap (eqb x.key key) (eqb m.key key) (is_among key (keys_in xs)))
  | inr ge ↦ rw (put_before m x xs ge) refl
]

pub length-put : (m : Address) (xs : List Address) → length (put_in key_of m xs) ≡ suc (length xs)
length-put m [] = refl
length-put m (x ∷ xs) = elim (cases_Bool (ltb x.key m.key)) [
  | inl lt ↦ rw (put_behind m x xs lt) (ap suc (length-put m xs))
  | inr ge ↦ rw (put_before m x xs ge) refl
]

-- an address is among those that the history knows exactly where its story says so
pub known_by_history : (key : ℕ) (addresses : List Address) (history : List Row) → Stands addresses history → is_among key (keys_in addresses) ≡ is_known (story key history)
known_by_history key addresses history s = sym (known_among key addresses) ∙ (ap is_some (s.each key) ∙ known_story key (story key history))
