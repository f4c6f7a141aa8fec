use Rattle.nd_nexthop.proofs.Routers.{usable_chosen, least_chosen}
use Rattle.nd_nexthop.proofs.laws.one_router.Goals as goal

pub returns-clause-usable : goal.returns-clause-usable
returns-clause-usable c = usable_chosen

pub returns-clause-least_recent : goal.returns-clause-least_recent
returns-clause-least_recent c = least_chosen
