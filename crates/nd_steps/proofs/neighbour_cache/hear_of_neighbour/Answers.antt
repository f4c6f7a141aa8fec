use Rattle.std.proofs.Common.{refl}
use Rattle.nd_steps.specs.DestinationCache.{Keeps}
use Rattle.nd_steps.proofs.Released.{hears_nothing}
use Rattle.nd_steps.proofs.neighbour_cache.hear_of_neighbour.Goals as goal

pub returns-in-None-clause-hears : goal.returns-in-None-clause-hears
returns-in-None-clause-hears g c = rw c.in-None.is (hears_nothing c.args.neighbours.now.limit c.args.now c.args.neighbours.now.entries c.args.outs.now.items)

pub returns-in-None-clause-remembers : goal.returns-in-None-clause-remembers
returns-in-None-clause-remembers g c = Keeps refl (λ history s key. refl)
