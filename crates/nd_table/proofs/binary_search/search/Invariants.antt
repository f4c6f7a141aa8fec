use Rattle.std.proofs.Common.{◌-◌, ◌≤◌, length}
use Rattle.nd_table.specs.KeyedKept.{place_of}
use Rattle.nd_table.proofs.Searching.{Enough}
use Rattle.nd_table.proofs.binary_search.search.Given as goal

-- the place of the key isn't before the low end nor behind the high one
abbrev pub invariant-loop-low : goal.invariant-loop-low
invariant-loop-low g l = record {
  low : l.low ≤ place_of g.E.Ranked.key (g.E.Ranked.number l.sought) l.entries;
  high : place_of g.E.Ranked.key (g.E.Ranked.number l.sought) l.entries ≤ l.high;
  within : l.high ≤ length l.entries;
  counts : g.C.Counter.count l.fn.probes ≤ g.C.Counter.count l.probes;
  looks : Enough (g.C.Counter.count l.fn.probes) (length l.entries) (g.C.Counter.count l.probes) (l.high - l.low);
}

abbrev pub decreases-loop-low : goal.decreases-loop-low
decreases-loop-low g l = l.high - l.low
