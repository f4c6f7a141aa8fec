use Rattle.nd_text.proofs.Lanes.{none_high_in_mask}
use Rattle.nd_text.proofs.hex_steps.are_values.Goals as goal

pub returns : goal.returns
returns c = none_high_in_mask c.args.values c.fits-values.0
