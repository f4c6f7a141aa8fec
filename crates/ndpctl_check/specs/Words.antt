-- The letters of flags.
use Rattle.std.specs.Prelude.{ℕ, Bool, ◌&&◌, not, List, [], ◌++◌, codes, if◌then◌else◌}

-- the letter of a flag that is set
abbrev pub letter_text : Bool → List ℕ → List ℕ
letter_text flag letter = if flag then letter else []

-- the letters of the flags of a Neighbor Advertisement, or `-` for none
abbrev pub three_flags_text : Bool → Bool → Bool → List ℕ
three_flags_text router solicited override_flag =
    if not router && not solicited && not override_flag then codes "-" else
    letter_text router (codes "r") ++ letter_text solicited (codes "s") ++ letter_text override_flag (codes "o")
