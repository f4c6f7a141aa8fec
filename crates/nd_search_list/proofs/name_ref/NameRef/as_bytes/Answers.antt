use Rattle.nd_search_list.proofs.Labels.{spelled_says}
use Rattle.nd_search_list.proofs.name_ref.NameRef.as_bytes.Goals as goal

pub returns-clause-spelled : goal.returns-clause-spelled
returns-clause-spelled c = spelled_says c.args.self.now.bytes.now c.args.self.now.spelled
