use Rattle.std.proofs.Common.{◌+◌}
use Rattle.std.proofs.lemmas.List.{take_rest}
use Rattle.nd_text.proofs.AddressTexts.{by_gap}
use Rattle.nd_text.proofs.parse.read_address.Goals as goal

pub returns-in-None : goal.returns-in-None
returns-in-None c = by_gap c.args.text.now _ _ c.in-None.ensures.place c.read_whole.ensures

pub returns-in-Some : goal.returns-in-Some
returns-in-Some c = by_gap c.args.text.now _ _ c.in-Some.ensures.place (rw (take_rest c.args.text.now (c.in-Some.at + 2)) at c.read_shortened.ensures)
