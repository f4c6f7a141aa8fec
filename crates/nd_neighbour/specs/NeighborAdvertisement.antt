-- A Neighbor Advertisement is received (RFC 4861, section 7.2.5).
use Rattle.std.specs.Prelude.{ℕ, Bool, if◌then◌else◌, Option, Some, None, true, ◌==◌, ◌||◌, is_some, false}
use Rattle.nd_neighbour.specs.declared.news.Flags.{Flags}
use Rattle.nd_neighbour.specs.LinkLayerAddress.{changes}
use Rattle.nd_neighbour.specs.ReachabilityConfirmation.{Evidence, Confirms, Disturbs, holds}

-- the address after an advertisement: the first that is given, and a later one where it overrides
abbrev pub taken : Bool → Option ℕ → Option ℕ → Option ℕ
taken overrides None known = known
taken overrides (Some mac) None = Some mac
taken overrides (Some mac) (Some known) = Some (if overrides then mac else known)

-- an advertisement conforms where it gives the first address, or where one is known and it gives none, the
-- same, or overrides
abbrev pub conforms : Bool → Option ℕ → Option ℕ → Bool
conforms overrides mac None = is_some mac
conforms overrides None (Some known) = true
conforms overrides (Some mac) (Some known) = (mac == known) || overrides

-- it gives an address, the first one or another one
abbrev pub given_changes : Option ℕ → Option ℕ → Bool
given_changes None known = false
given_changes (Some mac) known = changes mac known

-- what an advertisement says at a moment: a solicited one that conforms confirms; another one that conforms
-- disturbs where it changes the address; one that doesn't disturbs where the neighbour is reachable
abbrev pub advert_says : Flags → Option ℕ → ℕ → Option ℕ → Option Evidence → ℕ → Option Evidence
advert_says flags mac reachable known evidence at =
    if conforms flags.overrides mac known
    then (if flags.solicited then Some (Confirms at reachable) else (if given_changes mac known then Some (Disturbs at) else None))
    else (if holds known evidence at then Some (Disturbs at) else None)
