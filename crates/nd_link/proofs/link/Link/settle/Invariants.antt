use Rattle.std.proofs.Common.{◌≡◌, ◌≤◌}
use Rattle.nd_link.specs.Due.{AreSettled}
use Rattle.nd_link.specs.Time.{Leads, Onward, turns_left}
use Rattle.nd_link.proofs.link.Link.settle.Given as goal

-- the link stands for where the walk has come to, and where nothing was due up to the moment nothing has happened
abbrev pub invariant-loop-place : goal.invariant-loop-place
invariant-loop-place g l =
    record {
      onward : Leads g.R.Rng.stream l.fn.self l.self l.fn.told.items l.told.items (Onward l.now);
      in_time : l.self.last ≤ l.now;
      wire : l.self.wire ≡ l.fn.self.wire;
      spent : l.self.spent ≡ l.fn.self.spent;
      idle : AreSettled l.now l.fn.self.nodes.items → (l.self ≡ l.fn.self) × (l.told ≡ l.fn.told);
    }

-- each turn leaves fewer turns
abbrev pub decreases-loop-place : goal.decreases-loop-place
decreases-loop-place g l = turns_left l.now l.self.nodes.items
