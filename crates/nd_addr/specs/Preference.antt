-- The order of router preferences (RFC 4191, section 2.1), and the names that are printed.
use Rattle.std.specs.Prelude.{ℕ, Bool, nat_lt, List, codes}
use Rattle.nd_addr.specs.declared.preference.Preference.{Preference}
use Rattle.nd_addr.specs.declared.preference.Preference.TheVariants.{High, Medium, Low}

-- the rank of a preference, 0 being the highest
abbrev pub place_of : Preference → ℕ
place_of High = 0
place_of Medium = 1
place_of Low = 2

-- the first preference is higher than the second
abbrev pub is_preferred : Preference → Preference → Bool
is_preferred a b = nat_lt (place_of a) (place_of b)

abbrev pub name_of : Preference → List ℕ
name_of High = codes "high"
name_of Medium = codes "medium"
name_of Low = codes "low"
