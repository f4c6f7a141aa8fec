use Rattle.std.proofs.Common.{◌≡◌, ◌<◌, drop, length}
use Rattle.std.specs.Prelude.{IfSome}
use Rattle.nd_neighbour.specs.PlaceKept.{stalest, longer, picked}
use Rattle.nd_neighbour.proofs.place.stalest.Given as goal

-- the best so far and the best of the rest are the best of all
abbrev pub invariant-loop-i : goal.invariant-loop-i
invariant-loop-i g l = record {
  within : IfSome l.best (λ j. j < length l.entries);
  all : longer (picked l.entries l.best) (stalest l.now (drop l.i l.entries)) ≡ stalest l.now l.entries;
}
