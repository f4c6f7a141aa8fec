use Rattle.std.proofs.Common.{sym, subst, List}
use Rattle.nd_neighbour.specs.EntryKept.{NeighbourEntry}
use Rattle.nd_neighbour.specs.TableKept.{Stands}
use Rattle.nd_neighbour.specs.Removal.{cleared}
use Rattle.nd_neighbour.proofs.Forgetting.{cleared_stands}
use Rattle.nd_neighbour.proofs.cache.Cache.clear.Goals as goal

pub returns-clause-stands : goal.returns-clause-stands
returns-clause-stands g c = λ at history s.
    subst (λ (l : List NeighbourEntry). Stands l (cleared at c.args.self.now.entries history)) (sym c.in_ok-packets.ensures.none) (cleared_stands at c.args.self.now.entries history s)
