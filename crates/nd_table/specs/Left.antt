-- What an iterator over standing keys has left.
use Rattle.std.specs.Prelude.{List, map}
use Rattle.std.specs.Borrow.{Bor}
use Rattle.nd_table.specs.declared.lasting.Lasting.{Lasting}
use Rattle.nd_table.specs.declared.standing.Standing.{Standing}
use Rattle.nd_table.specs.declared.with_lifetime.WithLifetime.{WithLifetime}
use Rattle.nd_table.specs.declared.with_lifetime.WithLifetimes.{WithLifetimes}
use Rattle.nd_table.specs.Listing.{open_at}
use Rattle.nd_table.specs.Shown.{Seen, seen}

abbrev pub standing_left : {K : Type 0} → Standing K → List (Lasting K)
standing_left s = open_at s.moment s.rest.now

-- the entry where it lies
abbrev pub entry_of : {K : Type 0} → Bor (Lasting K) → Lasting K
entry_of e = e.now

-- the same with what is left of their lifetimes
abbrev pub lifetimes_left : {K : Type 0} → WithLifetimes K → List (Seen K)
lifetimes_left w = map (seen w.moment) (standing_left w.rest)

-- the key where it lies, with what is left
abbrev pub seen_in : {K : Type 0} → WithLifetime K → Seen K
seen_in w = record { key = w.key.now; left = w.left }
