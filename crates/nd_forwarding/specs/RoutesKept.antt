-- Only what is kept, in the code's terms: the longest route that was found so far.
use Rattle.std.specs.Prelude.{ℕ, nat_lt, Bool, true, Option, Some, None}
use Rattle.nd_forwarding.specs.declared.route.Route.{Route}

-- so many bits are more than those of the route that was found so far, if there is one
abbrev pub exceeds : ℕ → Option (ℕ × Route) → Bool
exceeds bits None = true
exceeds bits (Some f) = nat_lt f.0 bits
