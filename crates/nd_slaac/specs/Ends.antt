-- When the lifetimes of an address end (RFC 4862, sections 5.5.3 and 5.5.4).
use Rattle.std.specs.Prelude.{ℕ, [], ◌∷◌, Option, Some, None}
use Rattle.nd_table.specs.Ends.{end_time}
use Rattle.nd_slaac.specs.TwoHours.{renewed}
use Rattle.nd_slaac.specs.History.{Story, Formed, SetByHand, Announced}

-- the preferred end: that of the last announcement, or of the lifetimes that were set by hand last
abbrev pub preferred_end : Story → Option ℕ
preferred_end [] = None
preferred_end ((at, Formed delay retrans None) ∷ s) = None
preferred_end ((at, Formed delay retrans (Some lifetimes)) ∷ s) = end_time at lifetimes.preferred
preferred_end ((at, SetByHand lifetimes) ∷ s) = end_time at lifetimes.preferred
preferred_end ((at, Announced lifetimes) ∷ s) = end_time at lifetimes.preferred
preferred_end ((at, _) ∷ s) = preferred_end s

-- the valid end: that of the first announcement, which each further one renews; set by hand it is anew, whatever it was
abbrev pub valid_end : Story → Option ℕ
valid_end [] = None
valid_end ((at, Formed delay retrans None) ∷ s) = None
valid_end ((at, Formed delay retrans (Some lifetimes)) ∷ s) = end_time at lifetimes.valid
valid_end ((at, SetByHand lifetimes) ∷ s) = end_time at lifetimes.valid
valid_end ((at, Announced lifetimes) ∷ s) = renewed at (valid_end s) lifetimes.valid
valid_end ((at, _) ∷ s) = valid_end s
