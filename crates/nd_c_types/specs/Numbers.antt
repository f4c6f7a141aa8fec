-- Values that are numbers in several structures.
use Rattle.std.specs.Prelude.{ℕ, ◌-◌, ◌^◌, ◌==◌, nat_le, Bool, true, false, if◌then◌else◌, List, Option, Some, None, replicate}
use Rattle.nd_addr.specs.declared.preference.Preference.{Preference}
use Rattle.nd_addr.specs.declared.preference.Preference.TheVariants.{Medium, High, Low}

-- no address
abbrev pub no_address : List ℕ
no_address = replicate 16 0

-- 0 or 1
abbrev pub flag_number : Bool → ℕ
flag_number true = 1
flag_number false = 0

-- the number is 0 or 1
abbrev pub is_flag : ℕ → Bool
is_flag number = nat_le number 1

-- the flag of 0 or 1
abbrev pub flag_in : ℕ → Bool
flag_in number = number == 1

-- what is left of a lifetime, in milliseconds, or ND_FOREVER
abbrev pub left_number : Option ℕ → ℕ
left_number None = 2 ^ 64 - 1
left_number (Some left) = left

-- the number is one of a preference
abbrev pub is_preference : ℕ → Bool
is_preference number = nat_le number 2

-- its preference
abbrev pub preference_in : ℕ → Preference
preference_in number = if number == 1 then High else (if number == 2 then Low else Medium)
