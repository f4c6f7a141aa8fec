-- Where packets to a destination go, for a caller that keeps them (RFC 4861, sections 5.2, 7.2.2 and 7.3.3).
use Rattle.std.specs.Prelude.{◌≡◌, ℕ, ◌≤◌, false, List, [], ◌∷◌, ◌++◌}
use Rattle.rand_core.specs.Stream.{Stream}
use Rattle.nd_addr.specs.declared.addr.Addr.{Addr}
use Rattle.nd_nexthop.specs.NextHop.{NextHop}
use Rattle.nd_chronicle.specs.Answer.{Answer, Done, Refused, answer_after}
use Rattle.nd_chronicle.specs.Happening as happenings
use Rattle.nd_chronicle.specs.Happening.{Chronicle, Happening, Passed, last_moment}
use Rattle.nd_chronicle.specs.Resolve.{PathAdds, Wants, WantsIfPlaced}
use Rattle.nd_chronicle.specs.Start.{Start}
use Rattle.nd_out.specs.declared.out.Out.{Out}
use Rattle.nd_out.specs.declared.out.Out.TheVariants as reports
use Rattle.nd_out.specs.Out.{refusal_of, way_of}
use Rattle.nd_steps.specs.Outputs.{Tells}
use Rattle.nd_node.specs.declared.node.Node.{Node}
use Rattle.nd_node.specs.declared.resolve.Resolution.{Resolution}
use Rattle.nd_node.specs.declared.resolve.Resolution.TheVariants as answers
use Rattle.nd_node.specs.NodeKept.{Stands}

-- how the question is answered, as an event
abbrev pub answer_by : Resolution → Answer
answer_by (answers.Path way) = Done
answer_by (answers.Refused refusal) = Refused (refusal_of refusal)

-- the report of the answer
abbrev pub answer_told : {A : Type 0} → Addr → Resolution → Out A
answer_told destination (answers.Path way) = reports.Path destination way
answer_told destination (answers.Refused refusal) = reports.Refused refusal

-- what happens with it
abbrev pub answer_row : Addr → Resolution → Happening
answer_row destination (answers.Path way) = happenings.Path destination (way_of way)
answer_row destination (answers.Refused refusal) = happenings.Refused (refusal_of refusal)

-- the reports with that of the answer behind them
abbrev pub with_answer : {A : Type 0} → List (ℕ × Out A) → ℕ → Addr → Resolution → List (ℕ × Out A)
with_answer outs now destination resolution = outs ++ (now, answer_told destination resolution) ∷ []

-- the link-layer address of the neighbour is wanted at the moment, and the path of the destination is reported
abbrev pub WishTold : ℕ → Addr → ℕ → Start → Chronicle → Chronicle → Type 0
WishTold now destination key start c d = Wants start destination c now key d

-- From each chronicle of earlier moments that the node stood for, the call leads to one in which the neighbour is wanted, if there is room for it,
-- that is reported, and the caller is answered.
pub record AddsWish {R A : Type 0} (stream : R → Stream) (old new : Node R A) (before after : List (ℕ × Out A)) (now : ℕ) (destination : Addr) (key : ℕ) (answer : Answer) : Type 0 where
  pub each : (start : Start) (c : Chronicle) → Stands stream start old c → last_moment start.at c ≤ now
      → (d : Chronicle) × WantsIfPlaced start now destination key ((now, Passed) ∷ c) d × Stands stream start new d × Tells c d before after × (answer ≡ answer_after d false)

-- From each chronicle of earlier moments that the node stood for, the call leads to one with what the question adds where this is the next hop, that is
-- reported, and it is answered.
pub record AddsPath {R A : Type 0} (stream : R → Stream) (old new : Node R A) (before after : List (ℕ × Out A)) (now : ℕ) (next : NextHop) (destination : Addr) (answer : Answer) : Type 0 where
  pub each : (start : Start) (c : Chronicle) → Stands stream start old c → last_moment start.at c ≤ now
      → (d : Chronicle) × PathAdds start now next destination ((now, Passed) ∷ c) d × Stands stream start new d × Tells c d before after × (answer ≡ answer_after d false)
