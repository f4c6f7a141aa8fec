-- The dates at which the routers' lifetimes end, kept in their order next to them.
use Rattle.std.specs.Prelude.{ℕ, List, Option}
use Rattle.nd_table.specs.Dates.{Planned, AreDates}
use Rattle.nd_table.specs.declared.lasting.Lasting.{Lasting}
use Rattle.nd_table.specs.ListingKept.{Distinct}
use Rattle.nd_routers.specs.Routers.{same}

abbrev pub key_of : Lasting ℕ → ℕ
key_of e = e.key

abbrev pub date_of : Lasting ℕ → Option ℕ
date_of e = e.end

-- no router is listed twice, and these are the ends of their lifetimes
pub record IsPlanned (entries : List (Lasting ℕ)) (planned : Planned) : Type 0 where
  pub distinct : Distinct same entries
  pub dates : AreDates key_of date_of planned.dates entries
