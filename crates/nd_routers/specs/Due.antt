-- What is due of the routers, asked of what happened: a router leaves when its lifetime ends (RFC 4861, section 6.3.5).
use Rattle.std.specs.Prelude.{◌≡◌, ℕ, ◌≤◌, List, Option, Some, None}
use Rattle.nd_table.specs.Announcements.{end_of}
use Rattle.nd_routers.specs.History.{RouterRow, announcements}
use Rattle.nd_routers.specs.Routers.{same}

-- the router's lifetime ends at this moment, and it hasn't left yet
abbrev pub IsDue : List RouterRow → ℕ → ℕ → Type 0
IsDue history moment key = end_of same key (announcements history) ≡ Some (Some moment)

-- the least address that is due at the moment
abbrev pub FirstDue : List RouterRow → ℕ → Option ℕ → Type 0
FirstDue history moment None = (key : ℕ) → IsDue history moment key → ⊥
FirstDue history moment (Some key) = IsDue history moment key × ((k : ℕ) → IsDue history moment k → key ≤ k)

-- the moment is the first at which a router is due, if there is one
abbrev pub NextDue : List RouterRow → Option ℕ → Type 0
NextDue history None = (moment key : ℕ) → IsDue history moment key → ⊥
NextDue history (Some next) = ((key : ℕ) × IsDue history next key) × ((moment key : ℕ) → IsDue history moment key → next ≤ moment)
