use Rattle.std.specs.Prelude.{option_map}
use Rattle.nd_addr.specs.Number.{number_of}
use Rattle.nd_nexthop.proofs.Rounds.{round_done}
use Rattle.nd_nexthop.proofs.end_of_redirects.end_each.Goals as goal

pub returns : goal.returns
returns g c = round_done (option_map (λ a. number_of a.0) c.args.gone) c.args.redirects.now c.loop-left.redirects c.loop-left.left c.loop-left-test.false c.loop-left.invariant.turned c.loop-left.invariant.cap
