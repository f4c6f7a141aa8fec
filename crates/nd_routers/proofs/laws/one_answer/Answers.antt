use Rattle.std.proofs.lemmas.Bool.Decides.{eqb_tells}
use Rattle.nd_addr.specs.Same.{same_prefix, prefixes_tell}
use Rattle.nd_table.proofs.UniqueKeys.{one_listing}
use Rattle.nd_routers.specs.Routers.{same}
use Rattle.nd_routers.proofs.Unique.{one_failures, one_table}
use Rattle.nd_routers.proofs.laws.one_answer.Goals as goal

pub returns-clause-list : goal.returns-clause-list
returns-clause-list c = one_listing same eqb_tells

pub returns-clause-table : goal.returns-clause-table
returns-clause-table c = one_table

pub returns-clause-failures : goal.returns-clause-failures
returns-clause-failures c = one_failures

pub returns-clause-prefixes : goal.returns-clause-prefixes
returns-clause-prefixes c = one_listing same_prefix prefixes_tell
