use Rattle.nd_neighbour.proofs.Places.{stalest_more}
use Rattle.nd_neighbour.proofs.place.stalest.Goals as goal

pub loop-i-preserved : goal.loop-i-preserved
loop-i-preserved g c = record {
  within = c.pick-best.ensures.within;
  all = stalest_more c.args.now c.args.entries.now c.loop-i.i c.loop-i.best c.pick-best.result c.loop-i-test.true c.pick-best.ensures.longer c.loop-i.invariant.all;
}
