use Rattle.std.proofs.Common.{◌∙◌}
use Rattle.nd_text.proofs.AddressTexts.{groups_found, address_read}
use Rattle.nd_text.proofs.parse.parse_groups.Goals as goal

pub returns-clause-found : goal.returns-clause-found
returns-clause-found c = groups_found c.args.text.now _ c.read_address.ensures

pub returns-clause-only : goal.returns-clause-only
returns-clause-only c = λ groups s. c.read_address.ensures ∙ address_read c.args.text.now groups s
