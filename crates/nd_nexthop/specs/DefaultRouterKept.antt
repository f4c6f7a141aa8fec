-- Only what is kept, in the code's terms: a candidate, and the best one so far.
use Rattle.std.specs.Prelude.{Option, Some, None}
use Rattle.nd_addr.specs.Number.{number_of}
use Rattle.nd_nexthop.specs.declared.default_router.Candidate.{Candidate}
use Rattle.nd_nexthop.specs.DefaultRouter.{DefaultRouter, better}

-- the same of a candidate
abbrev pub router_of : Candidate → DefaultRouter
router_of c = record { key = number_of c.addr.0; usable = c.usable; preference = c.preference; failed = c.failed }

-- the same of a router that may be missing and one behind it
abbrev pub better_of : Option DefaultRouter → DefaultRouter → DefaultRouter
better_of None s = s
better_of (Some r) s = better r (Some s)
