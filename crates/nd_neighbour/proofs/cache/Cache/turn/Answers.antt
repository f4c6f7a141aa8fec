use Rattle.std.proofs.Common.{ap, subst}
use Rattle.nd_neighbour.specs.TableKept.{Rises, Table}
use Rattle.nd_neighbour.specs.View.{falls_of}
use Rattle.nd_neighbour.proofs.TurnCalls.{due_call, gains_call, fewer_call, later_call, leaves_call, none_call}
use Rattle.nd_neighbour.proofs.cache.Cache.turn.Goals as goal

pub returns-clause-due : goal.returns-clause-due
returns-clause-due g c = due_call falls_of c.args.now _ c.turn_first.result _ _ (ap (λ (t : Table). t.entries) c.self.view_is) c.turn_first.ensures.turns c.turn_first.ensures.none

pub returns-clause-gains : goal.returns-clause-gains
returns-clause-gains g c = gains_call falls_of c.args.now _ c.turn_first.result _ _ (ap (λ (t : Table). t.entries) c.self.view_is) c.turn_first.ensures.turns

pub returns-clause-fewer : goal.returns-clause-fewer
returns-clause-fewer g c = fewer_call falls_of c.args.now _ c.turn_first.result _ _ (ap (λ (t : Table). t.entries) c.self.view_is) c.turn_first.ensures.turns

pub returns-clause-none : goal.returns-clause-none
returns-clause-none g c = none_call c.args.now c.turn_first.result _ _ (ap (λ (t : Table). t.entries) c.self.view_is) c.turn_first.ensures.none

pub returns-clause-later : goal.returns-clause-later
returns-clause-later g c = later_call falls_of c.args.now _ c.turn_first.result _ _ (ap (λ (t : Table). t.entries) c.self.view_is) c.turn_first.ensures.turns c.turn_first.ensures.same c.requires.none_before

pub returns-clause-leaves : goal.returns-clause-leaves
returns-clause-leaves g c =
    leaves_call falls_of c.args.now _ c.turn_first.result _ _ (ap (λ (t : Table). t.entries) c.self.view_is) c.turn_first.ensures.turns (subst (λ (t : Table). Rises t.entries) c.self.view_is c.self.invariant.3.order)
