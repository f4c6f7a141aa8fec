use Rattle.std.proofs.Common.{ℕ, List, subst}
use Rattle.nd_out.specs.declared.out.Out.{Out}
use Rattle.nd_steps.specs.Outputs.{SendsFrame}
use Rattle.nd_node.proofs.Growing.{room_after}
use Rattle.nd_node.proofs.node.Node.turn_with.Goals as goal

pub returns-in-Some-clause-room : goal.returns-in-Some-clause-room
returns-in-Some-clause-room g c =
    room_after c.turn_in-turn.result.room c.args.room.now c.in-Some.in_hand c.in-Some.ensures.taken.0 c.turn_in-turn.ensures.same
    (λ none. subst (λ (x : List (ℕ × Out g.row.A.Denot)). SendsFrame x c.turn_in-turn.new.outs.items) c.in_ok-reserve.ensures.items (c.turn_in-turn.ensures.sends none))
