use Rattle.nd_search_list.proofs.Deciding.{found_of, only_of}
use Rattle.nd_search_list.proofs.names.Names.read.Goals as goal

pub returns-clause-found : goal.returns-clause-found
returns-clause-found c = found_of c.args.bytes.now c.read_exactly.result c.read_exactly.ensures

pub returns-clause-only : goal.returns-clause-only
returns-clause-only c = λ ns s. only_of c.args.bytes.now c.read_exactly.result ns c.read_exactly.ensures s
