use Rattle.std.proofs.Common.{◌≡◌, length}
use Rattle.std.specs.Prelude.{option_map}
use Rattle.nd_addr.specs.Number.{number_of}
use Rattle.nd_nexthop.proofs.Rounds.{turns}
use Rattle.nd_nexthop.proofs.end_of_redirects.end_each.Given as goal

-- the turns that are left give what all of them give
abbrev pub invariant-loop-left : goal.invariant-loop-left
invariant-loop-left g l =
    record {
      turned : turns (option_map (λ a. number_of a.0) l.gone) l.left l.redirects.entries ≡ turns (option_map (λ a. number_of a.0) l.gone) (length l.fn.redirects.entries) l.fn.redirects.entries;
      cap : l.redirects.cap ≡ l.fn.redirects.cap;
    }

abbrev pub decreases-loop-left : goal.decreases-loop-left
decreases-loop-left g l = l.left
