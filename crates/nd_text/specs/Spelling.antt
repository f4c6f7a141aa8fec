-- The texts that spell an address (RFC 4291, section 2.2): the eight groups, or fewer with two colons for the zeros left out.
use Rattle.std.specs.Prelude.{◌≡◌, ℕ, ◌+◌, ◌-◌, ◌≤◌, ◌⊎◌, List, [], ◌∷◌, ◌++◌, length, replicate}
use Rattle.std.specs.Str.Parse.{IsNumeral, digits_value}

-- one to four hexadecimal digits in either case, and their value
pub record IsGroupText (text : List ℕ) (group : ℕ) : Type 0 where
  pub numeral : IsNumeral 16 text
  pub short : length text ≤ 4
  pub value : digits_value 16 text ≡ group

-- groups, one or more, parted by colons
abbrev pub SpellsGroups : List ℕ → List ℕ → Type 0
SpellsGroups text [] = ⊥
SpellsGroups text (group ∷ []) = IsGroupText text group
SpellsGroups text (group ∷ h ∷ groups) = (word : List ℕ) × (rest : List ℕ) × (text ≡ word ++ 58 ∷ rest) × IsGroupText word group × SpellsGroups rest (h ∷ groups)

-- no group at all, or some
abbrev pub SpellsSome : List ℕ → List ℕ → Type 0
SpellsSome text groups = ((text ≡ []) × (groups ≡ [])) ⊎ SpellsGroups text groups

-- two colons stand for at least one group of zero
pub record IsShortened (text groups : List ℕ) : Type 0 where
  pub front : List ℕ
  pub behind : List ℕ
  pub before : List ℕ
  pub after : List ℕ
  pub text_is : text ≡ front ++ 58 ∷ 58 ∷ behind
  pub front_is : SpellsSome front before
  pub behind_is : SpellsSome behind after
  pub fewer : length before + length after ≤ 7
  pub groups_are : groups ≡ before ++ replicate (8 - (length before + length after)) 0 ++ after

-- the text spells the eight groups
abbrev pub SpellsAddress : List ℕ → List ℕ → Type 0
SpellsAddress text groups = (SpellsGroups text groups × (length groups ≡ 8)) ⊎ IsShortened text groups
