use Rattle.nd_text.proofs.Lanes.{values_are}
use Rattle.nd_text.proofs.hex_steps.values_of.Goals as goal

pub returns : goal.returns
returns c = values_are 32 c.args.digits c.fits-digits.0 c.fits-digits.1
