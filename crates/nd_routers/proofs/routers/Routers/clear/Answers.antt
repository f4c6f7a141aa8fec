use Rattle.nd_routers.proofs.Clearing.{all_leave}
use Rattle.nd_routers.proofs.routers.Routers.clear.Goals as goal

pub returns-clause-stands : goal.returns-clause-stands
returns-clause-stands g c = λ at history s. rw (c.clear.ensures.items, c.clear-2.ensures.items, c.clear-4.ensures.items)
    (all_leave c.self.inside.limit at c.args.self.now.entries c.args.self.now.preferences c.args.self.now.failed history (record { routers = s.routers; preferred = s.preferred; failures = s.failures }))
