use Rattle.nd_addr.specs.Text.{address_text}
use Rattle.nd_addr.proofs.addr.Addr.write_text.Goals as goal

pub returns-clause-written : goal.returns-clause-written
unfolding address_text
returns-clause-written g c = rw c.groups_in.ensures at c.write_groups.ensures.written

pub returns-clause-rules : goal.returns-clause-rules
unfolding address_text
returns-clause-rules g c = rw c.groups_in.ensures at c.write_groups.ensures.rules

pub returns-clause-spelled : goal.returns-clause-spelled
unfolding address_text
returns-clause-spelled g c = rw c.groups_in.ensures at c.write_groups.ensures.spelled
