use Rattle.std.proofs.Common.{◌∙◌, ap}
use Rattle.nd_search_list.specs.Name.{lowered}
use Rattle.nd_search_list.proofs.Labels.{spelled_tests}
use Rattle.nd_search_list.proofs.Lowering.{name_lowered}
use Rattle.nd_search_list.proofs.name_ref.NameRef.of_name.Goals as goal

pub new-requires : goal.new-requires
new-requires c = spelled_tests c.args.bytes.now c.requires.spelled

pub returns-clause-value : goal.returns-clause-value
returns-clause-value c = ap lowered c.new.ensures ∙ name_lowered c.args.bytes.now c.requires
