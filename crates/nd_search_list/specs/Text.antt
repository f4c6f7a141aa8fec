-- The text of a name: its labels, parted by dots (RFC 1035, section 2.3.1).
use Rattle.std.specs.Prelude.{◌≡◌, ℕ, ◌-◌, nat_eq, List, [], ◌∷◌, ◌++◌, if◌then◌else◌}
use Rattle.std.specs.List.{flat_map, AllByRecursion}
use Rattle.nd_search_list.specs.Label.{IsLabel}
use Rattle.nd_search_list.specs.Name.{label_bytes}

-- labels parted by dots
abbrev pub dotted : List (List ℕ) → List ℕ
dotted [] = []
dotted (label ∷ []) = label
dotted (label ∷ next ∷ labels) = label ++ 46 ∷ dotted (next ∷ labels)

-- the text of a name
pub record IsText (name text : List ℕ) : Type 0 where
  pub labels : List (List ℕ)
  pub each : AllByRecursion IsLabel labels
  pub name_is : name ≡ flat_map label_bytes labels
  pub text_is : text ≡ dotted labels

-- what is left of the text, where so many bytes of a label are still to come: a dot stands for the next length byte
abbrev pub text_from : ℕ → List ℕ → List ℕ
text_from left [] = []
text_from left (byte ∷ bytes) = if nat_eq left 0 then 46 ∷ text_from byte bytes else byte ∷ text_from (left - 1) bytes

-- the text of a name as a function
abbrev pub name_text : List ℕ → List ℕ
name_text [] = []
name_text (byte ∷ bytes) = text_from byte bytes
