-- The dates of addresses, kept in their order next to them.
use Rattle.std.specs.Prelude.{List}
use Rattle.nd_table.specs.Keyed.{Rises}
use Rattle.nd_table.specs.Dates.{Planned, AreDates}
use Rattle.nd_slaac.specs.AddressKept.{Address}
use Rattle.nd_slaac.specs.TableKept.{key_of}
use Rattle.nd_slaac.specs.Dates.{end_date, next_step}

-- the addresses are in the order of their numbers, and these are the dates at which their valid lifetimes end, and those of the next
-- steps of their detections
pub record IsPlanned (addresses : List Address) (ends steps : Planned) : Type 0 where
  pub order : Rises key_of addresses
  pub end_dates : AreDates key_of end_date ends.dates addresses
  pub step_dates : AreDates key_of next_step steps.dates addresses
