-- The text of a key that has a lifetime.
use Rattle.std.specs.Prelude.{ℕ, List, ◌++◌, codes}
use Rattle.nd_table.specs.Shown.{Seen}
use Rattle.nd_chronicle.specs.Shown.{left_text}

-- the text of the key, and what is left of its lifetime
abbrev pub lasting_text : {K : Type 0} → (K → List ℕ) → Seen K → List ℕ
lasting_text shown s = shown s.key ++ codes " " ++ left_text s.left
