use Rattle.nd_text.proofs.Lanes.{pair_at}
use Rattle.nd_text.proofs.hex_steps.paired.Goals as goal

pub returns-clause-lanes : goal.returns-clause-lanes
returns-clause-lanes c = pair_at c.args.values c.fits-values.0
