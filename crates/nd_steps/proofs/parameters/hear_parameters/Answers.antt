use Rattle.nd_steps.proofs.Measuring.{hears_parameters}
use Rattle.nd_steps.proofs.parameters.hear_parameters.Goals as goal

pub returns : goal.returns
returns g c = hears_parameters _ _ _ _ _ _ _ _ c.redraw-drawn.ensures.value c.heard_ra.ensures.stands
