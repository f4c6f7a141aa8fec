use Rattle.nd_table.proofs.Walking.{goes_on, stops}
use Rattle.nd_table.proofs.announcements.comes_to_the_end.Goals as goal

pub loop-name-preserved : goal.loop-name-preserved
loop-name-preserved g c = λ first from.
    let so_far = c.loop-name.invariant first from in
    goes_on g.Q.NamesKey.same g.Q.NamesKey.named c.loop-name.walk c.adds.new.self c.adds.new.kept _ _ (g.I.Announces.told c.loop-name.rest) (g.I.Announces.told c.next_told.new.self) so_far.0 _ c.in-Some.ensures
    (c.in-Some-adds.ensures.adds so_far.0 so_far.1).1 c.adds.ensures.limit c.adds.ensures.now so_far.2

pub returns-in-None : goal.returns-in-None
returns-in-None g c = λ first from.
    let so_far = c.loop-name.invariant first from in
    stops g.Q.NamesKey.same c.loop-name.walk.limit c.loop-name.walk.now _ _ (g.I.Announces.told c.loop-name.rest) (g.I.Announces.told c.next_told.new.self) so_far.0 _ c.in-Some.ensures
    (c.in-None.ensures.adds so_far.0 so_far.1) so_far.2
