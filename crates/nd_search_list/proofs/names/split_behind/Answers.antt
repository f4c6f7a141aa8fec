use Rattle.std.proofs.Common.{arith}
use Rattle.nd_search_list.proofs.Walk.{first_tests}
use Rattle.nd_search_list.proofs.names.split_behind.Goals as goal

pub new-requires : goal.new-requires
new-requires c = first_tests c.args.bytes.now c.args.before c.requires.value (omega arith)
