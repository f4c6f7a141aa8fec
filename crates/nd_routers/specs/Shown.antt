-- What is shown of the default routers at a moment (RFC 4861, section 5.1; RFC 4191, section 2.2).
use Rattle.std.specs.Prelude.{◌≡◌, ℕ, List, Option, map}
use Rattle.nd_addr.specs.declared.preference.Preference.{Preference}
use Rattle.nd_table.specs.declared.lasting.Lasting.{Lasting}
use Rattle.nd_table.specs.Listing.{Lists}
use Rattle.nd_table.specs.Ends.{time_left}
use Rattle.nd_routers.specs.History.{RouterRow, announcements, preference_of}
use Rattle.nd_routers.specs.Routers.{same}

-- a router: its address, what is left of its lifetime in milliseconds, and its preference
pub record Seen : Type 0 where
  pub key : ℕ
  pub left : Option ℕ
  pub preference : Preference

-- a router of the list at the moment, by the preference that each has
abbrev pub seen : ℕ → (ℕ → Preference) → Lasting ℕ → Seen
seen now preference e = record { key = e.key; left = time_left now e.end; preference = preference e.key }

-- the list shows the routers that the history gives, as they are at the moment, in the order in which they arrived
abbrev pub Shows : List RouterRow → ℕ → List Seen → Type 0
Shows history now shown =
    (entries : List (Lasting ℕ)) × Lists same (announcements history) now entries × (shown ≡ map (seen now (λ key. preference_of key history)) entries)
