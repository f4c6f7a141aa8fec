use Rattle.std.proofs.Common.{◌≡◌}
use Rattle.std.specs.Vec.Iter.{into_iter_items}
use Rattle.nd_wire.specs.Wire.{IsFaithful}
use Rattle.nd_link.proofs.Coming.{Came}
use Rattle.nd_link.proofs.link.Link.run.Given as goal

-- the events so far have come
abbrev pub invariant-loop-at : goal.invariant-loop-at
invariant-loop-at g l =
    record {
      came : Came (IsFaithful g.W.Wire.arrives) g.R.Rng.stream l.fn.self l.self l.fn.told.items l.told.items l.fn.events.items (into_iter_items l.at-iterator);
      carried : g.W.Wire.failed l.self.wire ≡ g.W.Wire.failed l.fn.self.wire;
      spent : l.self.spent ≡ l.fn.self.spent;
    }
