use Rattle.std.proofs.Common.{◌∙◌, ap, sym}
use Rattle.nd_out.specs.Out.{happening}
use Rattle.nd_c_types.specs.Changes.{changes_number}
use Rattle.nd_c_types.proofs.changes.changes_of.Goals as goal

pub returns-in-Heard : goal.returns-in-Heard
returns-in-Heard g c = c.changes_by_message.ensures c.in-Heard.source c.in-Heard.destination ∙ ap (λ out. changes_number (happening out)) (sym c.in-Heard.is)
