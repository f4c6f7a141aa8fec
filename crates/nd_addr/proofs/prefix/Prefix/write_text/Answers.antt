use Rattle.nd_addr.proofs.PrefixTexts.{prefix_text_spells}
use Rattle.nd_addr.proofs.prefix.Prefix.write_text.Goals as goal

pub returns-clause-spelled : goal.returns-clause-spelled
returns-clause-spelled g c = prefix_text_spells c.args.self.now c.address.ensures.prefix (rw c.address.ensures.value at c.write_text.ensures.spelled)

pub returns-in_err-write_text-clause-spelled : goal.returns-in_err-write_text-clause-spelled
returns-in_err-write_text-clause-spelled g c = prefix_text_spells c.args.self.now c.address.ensures.prefix (rw c.address.ensures.value at c.write_text.ensures.spelled)
