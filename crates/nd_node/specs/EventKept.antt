-- Only what is kept, in the code's terms: what an event is to the tables of a node.
use Rattle.std.specs.Prelude.{◌≡◌, ◌≤◌, ℕ, List, ◌∷◌}
use Rattle.rand_core.specs.Stream.{Stream}
use Rattle.nd_chronicle.specs.Start.{Start}
use Rattle.nd_chronicle.specs.Happening.{Chronicle, Passed, last_moment}
use Rattle.nd_chronicle.specs.Event as events
use Rattle.nd_chronicle.specs.Event.{EventAdds}
use Rattle.nd_chronicle.specs.Answer.{Answer, answer_after, is_packet}
use Rattle.nd_out.specs.declared.out.Out.{Out}
use Rattle.nd_steps.specs.Outputs.{Tells}
use Rattle.nd_node.specs.declared.node.Node.{Node}
use Rattle.nd_node.specs.NodeKept.{Stands}

-- From each chronicle of earlier moments that the node stood for, the event leads to one with what it adds, that is reported, and it is answered.
pub record AddsEvent {R A : Type 0} (stream : R → Stream) (old new : Node R A) (before after : List (ℕ × Out A)) (now : ℕ) (event : events.Event) (answer : Answer) : Type 0 where
  pub each : (start : Start) (c : Chronicle) → Stands stream start old c → last_moment start.at c ≤ now
      → (d : Chronicle) × EventAdds start now event ((now, Passed) ∷ c) d × Stands stream start new d × Tells c d before after × (answer ≡ answer_after d (is_packet event))
