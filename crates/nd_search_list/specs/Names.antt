-- Which bytes spell which names, and reading them as functions, which decide it (RFC 8106, section 5.2).
use Rattle.std.specs.Prelude.{◌≡◌, ℕ, ◌-◌, ◌≤◌, Bool, ◌&&◌, not, nat_eq, List, [], ◌∷◌, ◌++◌, length, take, if◌then◌else◌}
use Rattle.std.specs.List.{AllByRecursion}
use Rattle.nd_search_list.specs.Name.{IsSpelled, lowered}
use Rattle.nd_search_list.specs.Reading.{name_length, are_zeros}

-- the bytes are names, each with a zero byte behind it, which in small letters are these; and then zeros to the end
abbrev pub SpellsBefore : List ℕ → List (List ℕ) → Type 0
SpellsBefore bytes [] = AllByRecursion (λ byte. byte ≡ 0) bytes
SpellsBefore bytes (name ∷ names) = (spelled : List ℕ) × (rest : List ℕ)
    × (bytes ≡ spelled ++ 0 ∷ rest) × IsSpelled spelled × (name ≡ lowered spelled) × SpellsBefore rest names

-- the bytes spell these names, of which there is at least one
pub record SpellsNames (bytes : List ℕ) (names : List (List ℕ)) : Type 0 where
  pub some : 1 ≤ length names
  pub spelled : SpellsBefore bytes names

-- the names in the bytes behind the first few
abbrev pub names_behind : ℕ → List ℕ → List (List ℕ)
names_behind skipped [] = []
names_behind skipped (byte ∷ bytes) =
    if nat_eq skipped 0 then
    (if nat_eq (name_length (byte ∷ bytes)) 0 then [] else lowered (take (name_length (byte ∷ bytes)) (byte ∷ bytes)) ∷ names_behind (name_length (byte ∷ bytes)) bytes)
    else names_behind (skipped - 1) bytes

-- the names in some bytes, up to where none begins
unfoldable pub names_in : List ℕ → List (List ℕ)
names_in bytes = names_behind 0 bytes

-- the bytes where no more name begins, behind the first few
abbrev pub rest_behind : ℕ → List ℕ → List ℕ
rest_behind skipped [] = []
rest_behind skipped (byte ∷ bytes) =
    if nat_eq skipped 0 then
    (if nat_eq (name_length (byte ∷ bytes)) 0 then byte ∷ bytes else rest_behind (name_length (byte ∷ bytes)) bytes)
    else rest_behind (skipped - 1) bytes

-- the bytes where no more name begins
unfoldable pub rest_in : List ℕ → List ℕ
rest_in bytes = rest_behind 0 bytes

-- a name, perhaps more of them, and zeros
unfoldable pub spells_names : List ℕ → Bool
spells_names bytes = not (nat_eq (name_length bytes) 0) && are_zeros (rest_in bytes)
