-- How the node of a run starts.
use Rattle.rand_core.specs.Stream.{Stream}
use Rattle.nd_chronicle.specs.Start.{Start}
use Rattle.nd_node.specs.Node.{starting, with_policies}
use Rattle.ndpctl_run.specs.declared.options.RunOptions.{RunOptions}

-- at 0, with these random words
abbrev pub start_of : {R : Type 0} → RunOptions R → Stream → Start
start_of options words = with_policies options.policies (starting 0 options.role options.mac options.transmits options.limits words)
