-- What a contract sees of a router that is shown.
use Rattle.nd_addr.specs.Number.{number_of}
use Rattle.nd_routers.specs.declared.shown.DefaultRouter.{DefaultRouter}
use Rattle.nd_routers.specs.Shown.{Seen}

abbrev pub seen_in : DefaultRouter → Seen
seen_in r = record { key = number_of r.addr.0; left = r.left; preference = r.preference }
