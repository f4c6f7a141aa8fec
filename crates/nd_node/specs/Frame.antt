-- What a received frame, or another event, adds alone.
use Rattle.std.specs.Prelude.{ℕ, List, ◌∷◌, ◌≤◌}
use Rattle.rand_core.specs.Stream.{Stream}
use Rattle.nd_chronicle.specs.Start.{Start}
use Rattle.nd_chronicle.specs.Happening.{Chronicle, Happening, Passed, last_moment}
use Rattle.nd_out.specs.declared.out.Out.{Out}
use Rattle.nd_steps.specs.Outputs.{Tells}
use Rattle.nd_node.specs.declared.node.Node.{Node}
use Rattle.nd_node.specs.NodeKept.{Stands}

-- From each chronicle of earlier moments that the node stood for, the call leads to one with this alone, and that is reported.
pub record AddsAlone {R A : Type 0} (stream : R → Stream) (old new : Node R A) (before after : List (ℕ × Out A)) (now : ℕ) (what : Happening) : Type 0 where
  pub each : (start : Start) (c : Chronicle) → Stands stream start old c → last_moment start.at c ≤ now
      → Stands stream start new ((now, what) ∷ (now, Passed) ∷ c) × Tells c ((now, what) ∷ (now, Passed) ∷ c) before after

-- the node stands for the same as before
pub record Stays {R A : Type 0} (stream : R → Stream) (old new : Node R A) : Type 0 where
  pub each : (start : Start) (c : Chronicle) → Stands stream start old c → Stands stream start new c
