-- The statuses of the calls: `enum nd_status` of the header.
use Rattle.std.specs.Prelude.{ℤ, pos, negsuc}

-- 0 and above: the call took place
abbrev pub done : ℤ
done = pos 0

abbrev pub nothing : ℤ
nothing = pos 1

abbrev pub waiting : ℤ
waiting = pos 2

-- below: it did not, or was refused (`Rattle.nd_c_types.specs.Refusal.refused`)
abbrev pub no_memory : ℤ
no_memory = negsuc 0

abbrev pub closed : ℤ
closed = negsuc 1

abbrev pub invalid : ℤ
invalid = negsuc 2

abbrev pub past : ℤ
past = negsuc 3

abbrev pub no_room : ℤ
no_room = negsuc 4
