use Rattle.nd_message.proofs.Formed.{formed, fits_of}
use Rattle.nd_message.proofs.laws.well_formed_by_parts.Goals as goal

pub returns : goal.returns
returns c = λ m. (λ w. ((fits_of m w).body, (fits_of m w).behind), λ f. formed m f.0 f.1)
