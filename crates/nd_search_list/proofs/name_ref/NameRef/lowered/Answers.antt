use Rattle.nd_search_list.proofs.Labels.{spelled_says}
use Rattle.nd_search_list.proofs.Lowering.{lowered_is_name}
use Rattle.nd_search_list.proofs.name_ref.NameRef.lowered.Goals as goal

pub returns-in_err-push-clause-name : goal.returns-in_err-push-clause-name
returns-in_err-push-clause-name g c = lowered_is_name c.args.self.now.bytes.now (spelled_says c.args.self.now.bytes.now c.args.self.now.spelled)

pub returns-clause-name : goal.returns-clause-name
returns-clause-name g c = lowered_is_name c.args.self.now.bytes.now (spelled_says c.args.self.now.bytes.now c.args.self.now.spelled)

pub returns-in_err-name-clause-name : goal.returns-in_err-name-clause-name
returns-in_err-name-clause-name g c = lowered_is_name c.args.self.now.bytes.now (spelled_says c.args.self.now.bytes.now c.args.self.now.spelled)
