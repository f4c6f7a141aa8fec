-- When lifetimes end, what is before an end, and the time that is left until one.
use Rattle.std.specs.Prelude.{ℕ, ◌+◌, ◌-◌, ◌*◌, nat_lt, Bool, true, ◌==◌, if◌then◌else◌, Option, Some, None}

-- when a lifetime in seconds ends that begins at a moment: all ones have no end (RFC 4861, section 4.6.2)
abbrev pub end_time : ℕ → ℕ → Option ℕ
end_time at lifetime = if lifetime == 4294967295 then None else Some (at + 1000 * lifetime)

-- the moment is before the end, if there is one
abbrev pub is_before : ℕ → Option ℕ → Bool
is_before t None = true
is_before t (Some end) = nat_lt t end

-- the time that is left at the moment until the end, if there is one: 0 once it has come
abbrev pub time_left : ℕ → Option ℕ → Option ℕ
time_left now None = None
time_left now (Some end) = Some (end - now)
