use Rattle.std.proofs.Common.{◌∙◌, ap, map}
use Rattle.nd_neighbour.specs.Left.{neighbours_left}
use Rattle.nd_neighbour.specs.ShownKept.{seen}
use Rattle.nd_neighbour.specs.TableKept.{Table}
use Rattle.nd_neighbour.proofs.Forgetting.{lists_all}
use Rattle.nd_neighbour.proofs.cache.Cache.rows.Goals as goal

pub returns-clause-lists : goal.returns-clause-lists
returns-clause-lists g c = λ history s.
    let now = c.args.now in
    lists_all now c.args.self.now.entries history (neighbours_left c.new.result)
    (c.new.ensures ∙ (ap (map (seen now)) c.deref.ensures.value ∙ ap (λ (t : Table). map (seen now) t.entries) c.self.view_is)) s
