-- What an advertisement does to the list of routers.
use Rattle.std.specs.Prelude.{Bool, true, false}
use Rattle.nd_routers.specs.declared.router_advertisement.Change.{Change}
use Rattle.nd_routers.specs.declared.router_advertisement.Change.TheVariants.{Entered, Refreshed, Removed, Nothing}

-- by whether the router stood before and stands then
abbrev pub change_of : Bool → Bool → Change
change_of false true = Entered
change_of true true = Refreshed
change_of true false = Removed
change_of false false = Nothing
