-- What happens to the default routers, the newest first (RFC 4861, section 6.3.4; RFC 4191, section 2.2). Nothing here has a state: each question looks back.
use Rattle.std.specs.Prelude.{ℕ, ◌&&◌, not, ◌==◌, if◌then◌else◌, List, [], ◌∷◌, length, Option, Some, None}
use Rattle.nd_addr.specs.declared.preference.Preference.{Preference}
use Rattle.nd_addr.specs.declared.preference.Preference.TheVariants.{Medium}
use Rattle.nd_table.specs.Announcements.{Row, Announced, Ended, stands}

-- A router announces itself for a lifetime in seconds with a preference, or leaves the list, or can't be reached (RFC 4861, section 6.3.6).
-- Routers are named by the numbers that their addresses are.
pub data RouterRow : Type 0 where
  Heard : (at source lifetime : ℕ) (preference : Preference) → RouterRow
  LeftList : (at source : ℕ) → RouterRow
  Failed : (at source : ℕ) → RouterRow

-- what of it is of the time for which routers stand
abbrev pub announcements : List RouterRow → List (Row ℕ)
announcements [] = []
announcements (Heard at source lifetime preference ∷ history) = Announced at source lifetime ∷ announcements history
announcements (LeftList at source ∷ history) = Ended at source ∷ announcements history
announcements (Failed at source ∷ history) = announcements history

-- the number of the router's last failure since it came into the list
abbrev pub failure_of : ℕ → List RouterRow → Option ℕ
failure_of key [] = None
failure_of key (Heard at source lifetime preference ∷ history) =
    if source == key && not (stands (λ a b. a == b) key (announcements history) at) then None else failure_of key history
failure_of key (LeftList at source ∷ history) = if source == key then None else failure_of key history
failure_of key (Failed at source ∷ history) = if source == key then Some (length history) else failure_of key history

-- The router's preference: that of its last advertisement whose lifetime isn't 0, since "If the Router Lifetime is zero, the preference value
-- .. MUST be ignored by the receiver" (RFC 4191, section 2.2). Medium if it sent none.
abbrev pub preference_of : ℕ → List RouterRow → Preference
preference_of key [] = Medium
preference_of key (Heard at source lifetime preference ∷ history) =
    if source == key && not (lifetime == 0) then preference else preference_of key history
preference_of key (LeftList at source ∷ history) = preference_of key history
preference_of key (Failed at source ∷ history) = preference_of key history
