-- What is shown of the keys that stand at a moment.
use Rattle.std.specs.Prelude.{◌≡◌, ℕ, Bool, List, Option, map}
use Rattle.nd_table.specs.Ends.{time_left}
use Rattle.nd_table.specs.declared.lasting.Lasting.{Lasting}
use Rattle.nd_table.specs.Announcements.{Row}
use Rattle.nd_table.specs.Listing.{Lists}

-- a key, and what is left of its lifetime in milliseconds, or nothing for one without an end
pub record Seen (K : Type 0) : Type 0 where
  pub key : K
  pub left : Option ℕ

-- a key with its end, at the moment
abbrev pub seen : {K : Type 0} → ℕ → Lasting K → Seen K
seen now e = record { key = e.key; left = time_left now e.end }

-- the list shows the keys that stand at the moment, with what is left of their lifetimes, in the order of their places
abbrev pub Shows : {K : Type 0} → (K → K → Bool) → List (Row K) → ℕ → List (Seen K) → Type 0
Shows {K} same history now shown = (entries : List (Lasting K)) × Lists same history now entries × (shown ≡ map (seen now) entries)
