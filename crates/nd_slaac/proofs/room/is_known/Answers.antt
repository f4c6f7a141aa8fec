use Rattle.std.proofs.Common.{◌∙◌}
use Rattle.nd_addr.specs.Number.{number_of}
use Rattle.nd_slaac.proofs.Keys.{found_some}
use Rattle.nd_slaac.proofs.room.is_known.Goals as goal

pub returns : goal.returns
returns c = c.is_some.ensures ∙ found_some (number_of c.args.addr.0) c.args.entries.now c.find.result c.find.ensures.within c.find.ensures.found c.find.ensures.none
