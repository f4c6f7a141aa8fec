use Rattle.indexmap.specs.Layout.{length-set_value_at}
use Rattle.nd_forwarding.proofs.Entries.{set_there}
use Rattle.nd_forwarding.proofs.routes.replace.Goals as goal

pub returns-in-Some-get_index_mut-clause-entries :
    goal.returns-in-Some-get_index_mut-clause-entries
returns-in-Some-get_index_mut-clause-entries g c = λ _.
    set_there c.args.prefix c.args.route c.args.entries.now.entries c.in-Some.i c.in-Some.ensures.index

pub returns-in-Some-get_index_mut-clause-len : goal.returns-in-Some-get_index_mut-clause-len
returns-in-Some-get_index_mut-clause-len g c = λ _.
    length-set_value_at c.args.entries.now.entries c.in-Some.i c.args.route
