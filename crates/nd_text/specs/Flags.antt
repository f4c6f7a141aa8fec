-- The letters of two flags (the texts are this project's own).
use Rattle.std.specs.Prelude.{ℕ, Bool, true, false, List, ◌++◌, codes}

-- the letters of those that are set, in their order, or `-` where neither is
abbrev pub flags_text : Bool → Bool → List ℕ → List ℕ → List ℕ
flags_text true true first second = first ++ second
flags_text true false first second = first
flags_text false true first second = second
flags_text false false first second = codes "-"
